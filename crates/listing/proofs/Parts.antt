-- What is due of an image, and what a turn makes of it. Assumes nothing.
use Rattle.std.specs.Prelude.{◌≡◌, ◌∷◌, ◌++◌, ◌+◌, ◌-◌, ◌*◌, ◌<◌, ◌≤◌}
use Rattle.ground.specs.Kit.{refl, sym, ap, ◌∙◌, Bool, true, false, cond, List, map, map-append, ℕ, zero, suc, min, arith, add_assoc, add-zero, zero-add, one-mul, mul-le-mul, le-div_iff_mul-le, eqb-false, leb-false, length, take, drop, take-take, drop-drop}
use Rattle.listing.specs.declared.{Difference.Difference, Comparison.Comparison}
use Rattle.disc.specs.declared.{BlockAddress.BlockAddress}
use Rattle.disc.specs.Formats.{format_of, block_bytes, run_bytes, disc_bytes, place_of}
use Rattle.disc.proofs.Discs.{block_fits, few_blocks, run_add}
use Rattle.text.specs.Ink.{Inked}
use Rattle.window.proofs.Holding.{drop_taken}
use Rattle.listing.specs.Differing.{among, difference_at, block_at, differs_b, differing_from}
use Rattle.listing.specs.Turns.{start_of, due_of, line_bytes, blocks_at_once, Turned, turned, turn_of}
use Rattle.listing.specs.Reading.{PartAfterPart}
use Rattle.listing.proofs.Among.{among_append}
use Rattle.listing.proofs.Blocks.{block_within, block_not_empty}

-- before the end of the disc a block is due, where there is room for one
pub block_due : (number : ℕ) (from : BlockAddress) (space : ℕ) → from.0 < (format_of number).blocks → block_bytes number ≤ space
    → block_bytes number ≤ due_of number from space
unfolding due_of disc_bytes place_of
block_due number from space h room = omega (arith, room, block_within number from.0 (format_of number).blocks h)

-- and what is due ends on the disc
pub ends_on_disc : (number : ℕ) (from : BlockAddress) (space : ℕ) → from.0 < (format_of number).blocks
    → (place_of number from).0 + due_of number from space ≤ disc_bytes number
unfolding due_of disc_bytes place_of
ends_on_disc number from space h = omega (arith, block_within number from.0 (format_of number).blocks h)

pub few_bytes : (number : ℕ) → disc_bytes number ≤ 2880 * 1024
unfolding disc_bytes run_bytes
few_bytes number = mul-le-mul (few_blocks number) (block_fits number)

-- so a block at the least is compared, where there is room for its line
pub some_block : (number : ℕ) (from : BlockAddress) (n text : ℕ) → from.0 < (format_of number).blocks → block_bytes number ≤ n → line_bytes ≤ text
    → 1 ≤ blocks_at_once number from n n text
unfolding blocks_at_once block_bytes
some_block number from n text h room line =
    let size = block_bytes number in
    let fits : 1 * size ≤ min n n = rw (one-mul size) (omega (arith, room)) in
    let there = (le-div_iff_mul-le (block_not_empty number (omega (arith, h)))).1 fits in
    let lines = (le-div_iff_mul-le {k = line_bytes} {x = 1} {y = text} (omega arith)).1 (omega (arith, line)) in
    omega (arith, h, there, lines)

-- a comparison that is not over has a block before it
abbrev pub Before : ℕ → Comparison → Type 0
Before number run = run.over ≡ false → run.block.0 < (format_of number).blocks

module _ (number : ℕ) (run r : Comparison) (first second : List ℕ) (text after : Inked) (e : turned r after ≡ turn_of number run first second text) where
  pub turn_before : Before number r
  unfolding turn_of
  turn_before on =
      let over = sym (ap (λ (t : Turned). t.run.over) e) ∙ on in
      rw (ap (λ (t : Turned). t.run.block.0) e) (leb-false (format_of number).blocks _ over)

  -- parts that hold all that is due bring it nearer to its end
  pub turn_nearer : (space n : ℕ) → block_bytes number ≤ space → line_bytes ≤ length text.ink.line - text.ink.at → n ≡ due_of number run.block space → length first ≡ n
      → length second ≡ n → run.block.0 < (format_of number).blocks → (format_of number).blocks - r.block.0 < (format_of number).blocks - run.block.0
  unfolding turn_of
  turn_nearer space n room line due one two h =
      let some = some_block number run.block n (length text.ink.line - text.ink.at) h (rw due (block_due number run.block space h room)) line in
      let next = rw (one, two) at (ap (λ (t : Turned). t.run.block.0) e) in
      omega (arith, h, some, next)

-- ---- a part behind another

-- those of m blocks that differ, by what is told of each
abbrev differ : (ℕ → Difference) → ℕ → ℕ → List ℕ
differ told at m = among (λ k. differs_b (told k)) at m

-- where the same is told of block n + k here as of block k there, the same is told of those that differ
alike : (here there : ℕ → Difference) (n at m : ℕ) → ((k : ℕ) → k < at + m → here (n + k) ≡ there k)
    → map here (differ here (n + at) m) ≡ map there (differ there at m)
alike here there n at zero same = refl
alike here there n at (suc m) same =
    let next : suc (n + at) ≡ n + suc at = omega arith in
    let one = same at (omega arith) in
    rw (next, one)
    (both (differs_b (there at)) (differ here (n + suc at) m) (differ there (suc at) m) one
    (alike here there n (suc at) m (λ k h. same k (omega (arith, h)))))
  where
    both : (b : Bool) (xs ys : List ℕ) → here (n + at) ≡ there at → map here xs ≡ map there ys
        → map here (cond b ((n + at) ∷ xs) xs) ≡ map there (cond b (at ∷ ys) ys)
    both true xs ys e f = rw (e, f)
    both false xs ys e f = f

pub part_after_part : PartAfterPart
unfolding differing_from
part_after_part number from n m first second =
    let told = difference_at number from first second in
    let differs : ℕ → Bool = λ k. differs_b (told k) in
    let bytes = run_bytes number n in
    ap (map told) (among_append differs 0 n m) ∙ map-append told (among differs 0 n) (among differs (0 + n) m)
    ∙ ap (λ (l : List Difference). map told (among differs 0 n) ++ l)
    (rw (zero-add n) (rw (add-zero n) at
    (alike told (difference_at number (record { 0 = from.0 + n }) (drop bytes first) (drop bytes second)) n 0 m
    (λ k _. rw (run_add number n k, drop-drop (run_bytes number k) bytes first, drop-drop (run_bytes number k) bytes second, add_assoc from.0 n k)))))

-- a block that lies within the first bytes
block_in : (number k many : ℕ) (bytes : List ℕ) → run_bytes number k + block_bytes number ≤ many → block_at number (take many bytes) k ≡ block_at number bytes k
block_in number k many bytes h =
    let at = run_bytes number k in
    rw (drop_taken at many bytes) (take-take (block_bytes number) (many - at) (drop at bytes) (omega (arith, h)))

-- blocks that lie within the first bytes
pub blocks_in_lem : (number : ℕ) (from : BlockAddress) (n many : ℕ) (first second : List ℕ) → run_bytes number n ≤ many
    → differing_from number from n (take many first) (take many second) ≡ differing_from number from n first second
unfolding differing_from
blocks_in_lem number from n many first second h =
    alike (difference_at number from (take many first) (take many second)) (difference_at number from first second) 0 0 n
    (λ k low.
    let within = block_within number k n (omega (arith, low)) in
    rw (zero-add k, block_in number k many first (omega (arith, within, h)), block_in number k many second (omega (arith, within, h))))
