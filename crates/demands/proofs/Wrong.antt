-- Each wrong device breaks demand 2. Assumes nothing.
use Rattle.std.specs.Prelude.{◌≡◌, ◌∷◌, ◌++◌, ◌<◌, ◌+◌}
use Rattle.ground.specs.Kit.{refl, sym, ap, ◌∙◌, true, false, true≢false, false≢true, List, [], flatten, ℕ, suc, arith, eq-eqb, ne_eqb, length, get_or, set, replicate, length-replicate, length-append, take_all, append_snoc}
use Rattle.disc.specs.declared.{BlockAddress.BlockAddress}
use Rattle.state.specs.declared.{Sense.Sense}
use Rattle.disc.specs.Formats.{buffer_bytes, format_of, block_bytes, run_bytes, disc_bytes}
use Rattle.ground.specs.Bytes.{zeros}
use Rattle.state.specs.declared.Transfer.TheVariants.{Closed, Answer}
use Rattle.state.specs.Senses.{no_sense, change_told, unknown_code, named_b}
use Rattle.state.specs.States.{host_of, state_of, no_media, moved_of}
use Rattle.sound.specs.Soundness.{open_sound_b, sound_b}
use Rattle.packet.specs.Fields.{address_of, length_of}
use Rattle.packet.specs.Rules.{rules, rule_of}
use Rattle.answer.specs.Answers.{inquiry_data}
use Rattle.answer.specs.Giving.{answer_of, allocation_of}
use Rattle.house.specs.World.{World, in_state, in_buffer, some_world, Heard}
use Rattle.house.specs.Refusals.{move_tests}
use Rattle.house.specs.Theorems.{Ready}
use Rattle.pulls.specs.Pulling.{pull_of}
use Rattle.drive.specs.Calls.{Call, Insert, Command, Feed, Pull, call_of}
use Rattle.demands.specs.Device.{Device, after}
use Rattle.demands.specs.Answered.{Judged}
use Rattle.demands.specs.Ledger.{store, blocks_on, blocks_of, gather, noted}
use Rattle.demands.specs.Faithful.{some_answers_b, Judges, Accounts, Announces}
use Rattle.demands.specs.Wrong.{
  fails_everything,
  passes_everything,
  hands_out_zeros,
  discards_feeds,
  first_block_only,
  first_pull_only,
  makes_up_counts,
  never_ready,
  unknown_code_clears,
  closes_at_refusal,
  blank_from40,
  fails_another_unit,
  answers_for_all,
  version_one,
  version_two,
  version_three,
  Excluded,
}
use Rattle.demands.proofs.Foretelling.{foretold_accepted}
use Rattle.demands.proofs.WrongLists.{formats_at_once_lem, fills_zeros_lem, formats_all_lem, formats_immediate_lem, judges_early_lem}
use Rattle.demands.proofs.OnDisc4.{fed_count, pulled_bytes, test, inquiry, inquiry_at, unknown, write, reading, writing, without, with4, open4, Ours, ours, ready_closed, ready_reading, ready_writing}

-- a list that starts with 0 is none that starts with another number
starts_otherwise : {l k : List ℕ} {n : ℕ} → l ≡ k → get_or l 0 0 ≡ 0 → get_or k 0 0 ≡ suc n → ⊥
starts_otherwise e zero other = let same = ap (λ (l : List ℕ). get_or l 0 0) e in omega arith

-- bytes that complete a block, gathered one after the other, replace it
gather_whole : (size : ℕ) (blocks : List (List ℕ)) (block : BlockAddress) (got xs : List ℕ) → 0 < length xs → length got + length xs ≡ size
    → gather size (store blocks block got) xs ≡ store (set blocks block.0 (got ++ xs)) (blocks_on block 1) []
gather_whole size blocks block got [] some e = absurd (omega arith)
gather_whole size blocks block got (x ∷ []) some e = rw (length-append got (x ∷ []), e, eq-eqb size size refl)
gather_whole size blocks block got (x ∷ (y ∷ ys)) some e =
    let one = length-append got (x ∷ []) in
    rw (ne_eqb (length (got ++ (x ∷ []))) size (λ z. omega arith), ← append_snoc got x (y ∷ ys))
    (gather_whole size blocks block (got ++ (x ∷ [])) (y ∷ ys) (omega arith) (omega arith))

-- a block buffer of 7s, of which an open answer still gives 50, from byte 100 on
abbrev answering : World
answering =
    in_buffer (in_state some_world (state_of no_media false (host_of false false no_sense) (Answer (record { at = 100; left = 50 })))) (replicate 1024 7)

blank_from_40 : Accounts blank_from40 → ⊥
unfolding call_of pull_of move_tests sound_b named_b open_sound_b format_of block_bytes run_bytes disc_bytes
blank_from_40 f =
    let ready : Ready answering = record { sound = refl; buffer = refl; disc = refl } in
    starts_otherwise (pulled_bytes (f.ready answering [] ready) (0 ∷ []) refl).1 refl refl

-- any block buffer, and any disc 4 that starts with two 7s
module _ (v : World) (rest : List ℕ) (b : length v.buffer ≡ buffer_bytes) (d : length rest ≡ 32766) where
  abbrev disc : List ℕ
  disc = 7 ∷ 7 ∷ rest

  our : Ours v disc
  our = ours v disc b (rw d)

  -- ---- the verdict

  -- INQUIRY passes
  fails_everything_lem : (says : World → List ℕ → Sense) → Judges (fails_everything says) → ⊥
  fails_everything_lem says f =
      let one = (rw our.inquires at (f (with4 v disc true no_sense Closed) inquiry)) refl in
      false≢true (ap (λ (j : Judged). j.passed) one ∙ our.inquiry_passes)

  -- INQUIRY to unit 7 passes
  fails_another_unit_lem : Judges fails_another_unit → ⊥
  fails_another_unit_lem f =
      let one = (rw our.inquires_elsewhere at (f (open4 v disc Closed) (inquiry_at 7))) refl in
      false≢true (ap (λ (j : Judged). j.passed) one ∙ our.elsewhere_passes)

  -- TEST UNIT READY tells the change
  passes_everything_lem : Judges passes_everything → ⊥
  unfolding named_b
  passes_everything_lem f =
      let one = (rw (our.tells no_sense refl) at (f (with4 v disc true no_sense Closed) test)) refl in
      true≢false (ap (λ (j : Judged). j.passed) one ∙ our.test_fails)

  -- ---- the announcement

  -- after an insertion TEST UNIT READY passes, and no command has answered 06 28 00
  silent : (w : Device) (cs : List Call) (sense : Sense)
      → let inserted = w.call (without v disc) (Insert 4 false disc) in
      inserted.heard.house ≡ 0 → some_answers_b w inserted.world cs ≡ false
      → after w inserted.world cs ≡ with4 v disc false sense Closed
      → (w.call (with4 v disc false sense Closed) (Command test)).heard.passed ≡ true → Announces w → ⊥
  silent w cs sense house none e passes f = false≢true (f (without v disc) 4 false disc cs test house none (rw e passes))

  version_one_lem : Announces version_one → ⊥
  unfolding named_b
  version_one_lem = silent version_one [] no_sense (rw our.inserts) refl (rw our.inserts) (rw (our.tests no_sense refl))

  version_two_lem : Announces version_two → ⊥
  unfolding named_b
  version_two_lem =
      silent version_two (Command inquiry ∷ []) no_sense (rw our.inserts) (rw (our.inserts, our.inquires))
      (rw (our.inserts, after, our.inquires))
      (rw (our.tests no_sense refl))

  unknown_code_clears_lem : Announces unknown_code_clears → ⊥
  unfolding named_b
  unknown_code_clears_lem =
      silent unknown_code_clears (Command unknown ∷ []) unknown_code (rw our.inserts) (rw (our.inserts, our.unknown_fails))
      (rw (our.inserts, after, our.unknown_fails))
      (rw (our.tests unknown_code refl))

  -- ---- the account, from a ready world

  -- a pull counts a byte with nothing coming
  makes_up_counts_lem : Accounts makes_up_counts → ⊥
  makes_up_counts_lem f =
      let gave = (rw (our.pulls_none (0 ∷ [])) at (pulled_bytes (f.ready (open4 v disc Closed) [] (ready_closed v disc b (rw d) false)) (0 ∷ []))) refl in
      omega (arith, gave.0)

  -- the change is told again, where TEST UNIT READY is to pass
  never_ready_lem : Accounts never_ready → ⊥
  unfolding noted named_b
  never_ready_lem f =
      let a = rw (our.tells no_sense refl) at (f.ready (with4 v disc true no_sense Closed) (Command test ∷ []) (ready_closed v disc b (rw d) true)) in
      let told = foretold_accepted _ _ (Command test) _ (rw (our.tells change_told refl) at (a.hears (Command test))) refl in
      false≢true (ap (λ (h : Heard). h.passed) told ∙ our.test_passes)

  -- unit 7 is none, 1F
  answers_for_all_lem : Accounts answers_for_all → ⊥
  unfolding noted rules rule_of length_of answer_of allocation_of inquiry_data
  answers_for_all_lem f =
      let a = rw (our.inquires_elsewhere, our.inquires_here) at (f.ready (open4 v disc Closed) (Command (inquiry_at 7) ∷ []) (ready_closed v disc b (rw d) false)) in
      starts_otherwise ((rw (our.pulls_answer 0x00 (0 ∷ [])) at (pulled_bytes a (0 ∷ []))) refl).1 refl refl

  -- a 7 is read
  hands_out_zeros_lem : Accounts hands_out_zeros → ⊥
  hands_out_zeros_lem f =
      let a = f.ready (open4 v disc (reading 0 512)) [] (ready_reading v disc b (rw d)) in
      starts_otherwise ((rw (our.pulls (0 ∷ [])) at (pulled_bytes a (0 ∷ []))) refl).1 refl refl

  -- the second pull gives nothing
  first_pull_only_lem : Accounts first_pull_only → ⊥
  unfolding noted moved_of
  first_pull_only_lem f =
      let a = rw (our.pulls (0 ∷ [])) at (f.ready (open4 v disc (reading 0 512)) (Pull (0 ∷ []) ∷ []) (ready_reading v disc b (rw d))) in
      let gave = (rw (our.pulls_none (0 ∷ [])) at (pulled_bytes a (0 ∷ []))) refl in
      omega (arith, gave.0)

  -- nor does one after a refused insertion
  closes_at_refusal_lem : Accounts closes_at_refusal → ⊥
  unfolding noted
  closes_at_refusal_lem f =
      let a = rw our.refuses at (f.ready (open4 v disc (reading 0 512)) (Insert 4 false disc ∷ []) (ready_reading v disc b (rw d))) in
      let gave = (rw (our.pulls_none (0 ∷ [])) at (pulled_bytes a (0 ∷ []))) refl in
      omega (arith, gave.0)

  -- of 513 bytes fed, 512 are taken
  first_block_only_lem : (piece : List ℕ) → length piece ≡ 513 → Accounts first_block_only → ⊥
  unfolding noted rules rule_of address_of length_of format_of block_bytes run_bytes
  first_block_only_lem piece l f =
      let a = rw our.writes at (f.ready (open4 v disc Closed) (Command write ∷ []) (ready_closed v disc b (rw d) false)) in
      omega (arith, (rw (our.feeds_one piece) at (fed_count a piece)) refl, l)

  -- the one byte that is fed is on the disc
  version_three_lem : Accounts version_three → ⊥
  unfolding flatten noted format_of block_bytes
  version_three_lem f =
      let a = f.ready (open4 v disc (writing 0 1024)) (Feed (0 ∷ []) ∷ []) (ready_writing v disc b (rw d)) in
      starts_otherwise {k = flatten (blocks_of 512 64 disc)} ((rw (our.feeds (0 ∷ [])) at a.holds) (λ e. omega arith)) refl refl

  -- the block that is fed is not
  discards_feeds_lem : (piece : List ℕ) → length piece ≡ 511 → Accounts discards_feeds → ⊥
  unfolding flatten noted format_of block_bytes
  discards_feeds_lem piece l f =
      let a = f.ready (open4 v disc (writing 0 1024)) (Feed (0 ∷ piece) ∷ []) (ready_writing v disc b (rw d)) in
      let whole = gather_whole 512 (blocks_of 512 64 disc) (record { 0 = 0 }) [] (0 ∷ piece) (omega arith) (omega arith) in
      starts_otherwise (sym ((rw (our.feeds (0 ∷ piece), l, take_all 511 piece (omega arith), whole) at a.holds) (λ e. omega arith))) refl refl

  -- all of them, over any bytes
  refuted : (short long : List ℕ) → length short ≡ 511 → length long ≡ 513 → Excluded
  refuted short long s l =
      record {
        fails_everything_lem = fails_everything_lem;
        passes_everything_lem = passes_everything_lem;
        hands_out_zeros_lem = hands_out_zeros_lem;
        discards_feeds_lem = discards_feeds_lem short s;
        first_block_only_lem = first_block_only_lem long l;
        first_pull_only_lem = first_pull_only_lem;
        makes_up_counts_lem = makes_up_counts_lem;
        never_ready_lem = never_ready_lem;
        closes_at_refusal_lem = closes_at_refusal_lem;
        blank_from_40 = blank_from_40;
        fails_another_unit_lem = fails_another_unit_lem;
        answers_for_all_lem = answers_for_all_lem;
        formats_at_once_lem = formats_at_once_lem (7 ∷ rest) (rw d);
        fills_zeros_lem = fills_zeros_lem (7 ∷ rest) (rw d);
        formats_all_lem = formats_all_lem (7 ∷ rest) (rw d);
        formats_immediate_lem = formats_immediate_lem (7 ∷ rest) (rw d);
        judges_early_lem = judges_early_lem (7 ∷ rest) (rw d);
        unknown_code_clears_lem = unknown_code_clears_lem;
        version_one_lem = version_one_lem;
        version_two_lem = version_two_lem;
        version_three_lem = version_three_lem;
      }

-- there are such bytes
pub excluded : Excluded
excluded =
    let long : (n : ℕ) → length (zeros n) ≡ n = λ n. length-replicate n 0 in
    refuted (in_buffer some_world (zeros 1024)) (zeros 32766) (long 1024) (long 32766) (zeros 511) (zeros 513) (long 511) (long 513)
