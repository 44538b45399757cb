-- Devices that one cutting tells from ours, over any block buffer and any disc 4. Assumes nothing.
use Rattle.std.specs.Prelude.{◌≡◌, ◌∷◌, ◌++◌, ◌+◌, ◌≤◌}
use Rattle.ground.specs.Kit.{refl, ap, ◌∙◌, true, false, false≢true, List, [], append-nil, flatten, ℕ, min, add-zero, arith, lit≤, length, get_or, get_or-set_same, take, drop, set, length-set, length-append, length-drop, length-take-le, take_at}
use Rattle.ground.specs.Bytes.{zeros}
use Rattle.disc.specs.Formats.{buffer_bytes, format_of, block_bytes, run_bytes}
use Rattle.state.specs.declared.Transfer.TheVariants.{Closed}
use Rattle.state.specs.States.{moved_of}
use Rattle.packet.specs.Fields.{address_of, length_of}
use Rattle.packet.specs.Rules.{rules, rule_of}
use Rattle.packet.specs.declared.Field.TheVariants.{Bytes7To8}
use Rattle.house.specs.World.{World, in_buffer}
use Rattle.feeds.specs.Feeding.{feed_byte}
use Rattle.drive.specs.Calls.{Command, Feed, Pull}
use Rattle.demands.specs.Device.{Device}
use Rattle.demands.specs.Uncut.{Lent, lend_all, CutAnywhere, Carried, carry, Part, carry_all, ReadsCut}
use Rattle.demands.specs.Wrong.{first_block_only, first_pull_only}
use Rattle.demands.specs.Independent.{marks_feeds, fails_pairs}
use Rattle.demands.proofs.OnDisc4.{read, reading, writing, open4, Ours, ours, ready_closed, ready_reading, ready_writing}

-- n blocks, lent for in one piece
abbrev part : ℕ → Part
part n = record { blocks = n; pieces = zeros (run_bytes 4 n) ∷ [] }

-- the mark, whatever was set before
last : (buffer : List ℕ) (i y x : ℕ) → length buffer ≡ 1024 → get_or (set (set buffer i y) 1023 x) 1023 0 ≡ x
last buffer i y x long = get_or-set_same (set buffer i y) 1023 x 0 (rw (length-set buffer i y, long) (lit≤ tt))

-- what a buffer is given of n bytes of a source, as it is carried
unfoldable given : ℕ → List ℕ → List ℕ → List ℕ
given n source out =
    let count = min (length out) n in
    take (count + 0) ((take count source ++ drop count out) ++ [])

given_long : (n : ℕ) (source out : List ℕ) → n ≤ length source → n ≤ length out → length (given n source out) ≡ n
unfolding given
given_long n source out h k =
    let count : min (length out) n ≡ n = omega arith in
    let long = length-take-le n source h in
    rw (count, add-zero n, append-nil (take n source ++ drop n out), take_at (take n source) (drop n out) n long) long

module _ (v : World) (disc : List ℕ) (b : length v.buffer ≡ buffer_bytes) (d : length disc ≡ 32768) where
  our : Ours v disc
  our = ours v disc b d

  -- pieces of a 1 and of a 2: the mark is 2, and 1 if they are fed at once
  marks_feeds_lem : CutAnywhere marks_feeds Feed → ⊥
  unfolding moved_of flatten feed_byte format_of block_bytes
  marks_feeds_lem f =
      let w = open4 v disc (writing 0 1024) in
      let pieces : List (List ℕ) = (1 ∷ []) ∷ (2 ∷ []) ∷ [] in
      let cut : lend_all marks_feeds Feed w pieces ≡ lend_all marks_feeds Feed w ((1 ∷ 2 ∷ []) ∷ []) = f w pieces (ready_writing v disc b d) in
      let once = set v.buffer 0 1 in
      let marked = set once 1023 1 in
      let long : length marked ≡ 1024 = length-set once 1023 1 ∙ length-set v.buffer 0 1 ∙ b in
      let same = rw (our.feeds (1 ∷ []), (ours (in_buffer v marked) disc long d).feeds_on (2 ∷ []), our.feeds (1 ∷ 2 ∷ [])) at cut in
      let mark : get_or (set (set marked 1 2) 1023 2) 1023 0 ≡ get_or (set (set once 1 2) 1023 1) 1023 0 = ap (λ (l : Lent). get_or l.world.buffer 1023 0) same in
      omega (arith, last marked 1 2 2 long, last once 1 2 1 (length-set v.buffer 0 1 ∙ b))

  -- pieces of one byte and of two: only the first is pulled
  first_pull_only_lem : CutAnywhere first_pull_only Pull → ⊥
  unfolding moved_of flatten
  first_pull_only_lem f =
      let w = open4 v disc (reading 0 512) in
      let pieces : List (List ℕ) = (0 ∷ []) ∷ (0 ∷ 0 ∷ []) ∷ [] in
      let cut : lend_all first_pull_only Pull w pieces ≡ lend_all first_pull_only Pull w ((0 ∷ 0 ∷ 0 ∷ []) ∷ []) = f w pieces (ready_reading v disc b d) in
      let same = rw (our.pulls (0 ∷ []), our.pulls_none (0 ∷ 0 ∷ []), our.pulls (0 ∷ 0 ∷ 0 ∷ [])) at cut in
      let z : ◌≡◌ {A = ℕ} 1 3 = ap (λ (l : Lent). l.count) same in
      omega arith

  -- ---- a READ of three blocks, as one of two and one of one

  abbrev closed : World
  closed = open4 v disc Closed

  three_cut : (d : Device) → (d.call closed (Command (read 0 3))).heard.passed ≡ true → ReadsCut d
      → carry_all d Pull closed Bytes7To8 (read 0 3) (record { 0 = 0 }) (part 2 ∷ part 1 ∷ []) ≡ carry d Pull closed (read 0 3) (part 3).pieces
  unfolding rules rule_of address_of length_of format_of block_bytes run_bytes flatten
  three_cut device passes f =
      f closed (read 0 3) _ (part 3).pieces (part 2 ∷ part 1 ∷ [])
      (record {
        ready = ready_closed v disc b d false;
        code = refl;
        known = refl;
        passes = passes;
        some = lit≤ tt;
        through = lit≤ tt;
        sum = refl;
        all = (lit≤ tt, lit≤ tt, (lit≤ tt, lit≤ tt, tt));
      })

  -- the first block of each command is given
  blocks_given : ReadsCut first_block_only
      → length (given 512 disc (zeros 1024) ++ (given 512 (drop 1024 disc) (zeros 512) ++ [])) ≡ length (given 512 disc (zeros 1536))
  unfolding given moved_of format_of block_bytes run_bytes
  blocks_given f =
      rw (our.reads_two, our.pulls (zeros 1024), our.reads_third, our.pulls_third (zeros 512), our.reads_three, our.pulls (zeros 1536)) at
      (ap (λ (c : Carried). length c.bytes) (three_cut first_block_only (rw our.reads_three) f))

  first_block_only_lem : ReadsCut first_block_only → ⊥
  first_block_only_lem f =
      let one = given 512 disc (zeros 1024) in
      let two = given 512 (drop 1024 disc) (zeros 512) in
      omega (
        arith,
        blocks_given f,
        length-append one (two ++ []),
        ap length (append-nil two),
        given_long 512 disc (zeros 1024) (omega arith) (lit≤ tt),
        given_long 512 (drop 1024 disc) (zeros 512) (simp length-drop (omega arith)) (lit≤ tt),
        given_long 512 disc (zeros 1536) (omega arith) (lit≤ tt),
      )

  -- that of two blocks fails
  fails_pairs_lem : ReadsCut fails_pairs → ⊥
  unfolding address_of length_of
  fails_pairs_lem f =
      let same = three_cut fails_pairs (rw our.reads_three) f in
      false≢true (rw (our.reads_two, our.reads_three) at (ap (λ (c : Carried). c.passed) same))

  pub apart : (CutAnywhere marks_feeds Feed → ⊥) × (CutAnywhere first_pull_only Pull → ⊥) × (ReadsCut first_block_only → ⊥) × (ReadsCut fails_pairs → ⊥)
  apart = (marks_feeds_lem, first_pull_only_lem, first_block_only_lem, fails_pairs_lem)
