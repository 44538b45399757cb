-- The differing blocks and their lines, one block after the other. Assumes nothing.
use Rattle.std.specs.Prelude.{◌≡◌, ◌||◌, ◌∷◌, ◌++◌, ◌+◌, ◌-◌, ◌*◌, ◌/◌, ◌^◌, ◌<◌, ◌≤◌}
use Rattle.ground.specs.Kit.{refl, ap, ◌∙◌, Bool, true, false, cond, List, [], append-nil, map, map-append, flatten, ℕ, min, arith, one-mul, div-add-mod', mul-le-mul_right, ne_eqb, ltb-true, eqb, leb, ltb, length, take, drop, length-append, length-map, length-take, length-drop}
use Rattle.listing.specs.declared.{Difference.Difference, Comparison.Comparison}
use Rattle.disc.specs.declared.{Format.Format, BlockAddress.BlockAddress}
use Rattle.disc.specs.Formats.{no_format, formats, format_of, buffer_bytes, block_bytes, run_bytes}
use Rattle.ground.proofs.Tables.{always}
use Rattle.ground.proofs.Parts.{flatten_append}
use Rattle.disc.proofs.Discs.{run_add, block_fits}
use Rattle.text.specs.Ink.{Inked, put_on}
use Rattle.text.proofs.Putting.{put_on_append, put_on_then}
use Rattle.listing.specs.Differing.{among, difference_of, difference_at, differs_b, differing_from}
use Rattle.listing.specs.Listing.{line_of, lines_of}
use Rattle.listing.specs.Turns.{Listed, listed, with_block, listed_of, line_bytes, blocks_at_once, end_of, turned, turn_of}
use Rattle.listing.proofs.Among.{among_more, among_few}

pub lines_append : (xs ys : List Difference) → lines_of (xs ++ ys) ≡ lines_of xs ++ lines_of ys
unfolding lines_of
lines_append xs ys = rw (map-append line_of xs ys) (flatten_append (map line_of xs) (map line_of ys))

-- a block stands in the list if it differs
abbrev pub if_differs : Difference → List Difference
if_differs d = cond (differs_b d) (d ∷ []) []

module _ (number : ℕ) (from : BlockAddress) (first second : List ℕ) where
  pub one_block : (n : ℕ)
      → differing_from number from (n + 1) first second
      ≡ differing_from number from n first second ++ if_differs (difference_at number from first second n)
  unfolding differing_from
  one_block n =
      let told = difference_at number from first second in
      let differs : ℕ → Bool = λ k. differs_b (told k) in
      let before = among differs 0 n in
      ap (map told) (among_more differs n) ∙ map-append told before (cond (differs n) (n ∷ []) [])
      ∙ ap (λ (l : List Difference). map told before ++ l) (here (differs n))
    where
      here : (b : Bool)
          → map (difference_at number from first second) (cond b (n ∷ []) []) ≡ cond b (difference_at number from first second n ∷ []) []
      here true = refl
      here false = refl

  pub few_differ : (n : ℕ) → length (differing_from number from n first second) ≤ n
  unfolding differing_from
  few_differ n =
      let told = difference_at number from first second in
      let differs : ℕ → Bool = λ k. differs_b (told k) in
      rw (length-map (among differs 0 n) told) (among_few differs 0 n)

-- the text goes on with the block's line
pub listed_more : (ds : List Difference) (text : Inked) (d : Difference) → with_block (listed_of ds text) d ≡ listed_of (ds ++ if_differs d) text
unfolding lines_of flatten
listed_more ds text d = here (differs_b d)
  where
    here : (b : Bool)
        → cond b (record { count = length ds + 1; text = put_on (put_on text (lines_of ds)) (line_of d) }) (listed_of ds text)
        ≡ listed_of (ds ++ cond b (d ∷ []) []) text
    here true = rw (length-append ds (d ∷ []), lines_append ds (d ∷ []), append-nil (line_of d), put_on_append text (lines_of ds) (line_of d))
    here false = rw (append-nil ds)

-- a block of a run lies within it
pub block_within : (number k n : ℕ) → k < n → run_bytes number k + block_bytes number ≤ run_bytes number n
unfolding run_bytes
block_within number k n h =
    let next : run_bytes number (k + 1) ≡ run_bytes number k + block_bytes number = rw (run_add number k 1, one-mul (block_bytes number)) in
    rw (← next) (mul-le-mul_right (block_bytes number) (omega (arith, h)))

-- the bytes of a block that lies within both parts: as many in one as in the other, and no more than the block has
pub equally_many : (number at size : ℕ) (first second : List ℕ) → size ≡ block_bytes number → at + size ≤ min (length first) (length second)
    → let n = at + size - at in
    (length (take n (drop at first)) ≡ length (take n (drop at second))) × (length (take n (drop at first)) ≤ buffer_bytes)
equally_many number at size first second block h =
    let n = at + size - at in
    let one = length-take n (drop at first) in (
      omega (arith, h, one, length-take n (drop at second), length-drop at first, length-drop at second),
      omega (arith, one, block, block_fits number),
    )

-- one block more of two parts is compared and listed
pub listed_on : (number : ℕ) (from : BlockAddress) (first second : List ℕ) (text : Inked) (k at size : ℕ) (before now : Listed) (d : Difference)
    → at ≡ run_bytes number k → size ≡ block_bytes number
    → d ≡ difference_of (record { 0 = from.0 + k }) (take (at + size - at) (drop at first)) (take (at + size - at) (drop at second))
    → before ≡ listed_of (differing_from number from k first second) text → now ≡ with_block before d
    → now ≡ listed_of (differing_from number from (k + 1) first second) text
listed_on number from first second text k at size before now d place long told so_far more =
    let whole : at + size - at ≡ size = omega arith in
    let block : d ≡ difference_at number from first second k = rw (rw (whole, place, long) at told) in
    let ds = differing_from number from k first second in
    rw (more, so_far, listed_more ds text d, block, one_block number from first second k)

-- a disc with blocks has bytes in them
pub block_not_empty : (number : ℕ) → 0 < (format_of number).blocks → 0 < (format_of number).size
unfolding format_of
block_not_empty number h =
    let rule = always (λ f. eqb f.blocks 0 || ltb 0 f.size) no_format refl formats refl number in
    ltb-true 0 (format_of number).size (rw (ne_eqb (format_of number).blocks 0 (λ e. absurd (omega (arith, e, h)))) at rule)

-- the blocks that are compared at once are on the disc, lie within both parts, and have room for their lines
pub at_once : (number : ℕ) (from : BlockAddress) (first second text : ℕ)
    → let n = blocks_at_once number from first second text in
    (n ≤ (format_of number).blocks - from.0) × (run_bytes number n ≤ min first second) × (n * line_bytes ≤ text)
unfolding blocks_at_once run_bytes
at_once number from first second text =
    let size = block_bytes number in
    let there = min first second / size in
    let lines = text / line_bytes in
    let n = min ((format_of number).blocks - from.0) (min there lines) in
    let fits : n * size ≤ there * size = mul-le-mul_right size (omega arith) in (
      omega arith,
      omega (arith, fits, div-add-mod' (min first second) size),
      omega (arith, div-add-mod' text line_bytes),
    )

-- a turn, as its functions promise it
pub turns : (number : ℕ) (run : Comparison) (first second : List ℕ) (text lined ended : Inked) (n count room total : ℕ) (format : Format)
    → n ≡ blocks_at_once number run.block (length first) (length second) room → room ≡ length text.ink.line - text.ink.at
    → listed count lined ≡ listed_of (differing_from number run.block n first second) text
    → format ≡ format_of number → total ≡ min (run.total + count) (2 ^ 64 - 1)
    → ended ≡ put_on lined (end_of (leb format.blocks (run.block.0 + n)) total)
    → turned (record { block = record { 0 = run.block.0 + n }; total = total; over = leb format.blocks (run.block.0 + n) }) ended
    ≡ turn_of number run first second text
unfolding turn_of
turns number run first second text lined ended n count room total format blocks left told row sum end =
    let ds = differing_from number run.block n first second in
    let many : count ≡ length ds = ap (λ (l : Listed). l.count) told in
    let lines : lined ≡ put_on text (lines_of ds) = ap (λ (l : Listed). l.text) told in
    let put = put_on_then _ _ _ _ _ lines end in
    rw (← left, ← blocks, ← row, ← many, ← sum, ← put)
