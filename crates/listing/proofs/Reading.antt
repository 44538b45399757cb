-- In whatever parts two images come, their listing is printed. Assumes nothing.
use Rattle.std.specs.Prelude.{◌≡◌, ◌⊎◌, ◌&&◌, ◌++◌, ◌+◌, ◌-◌, ◌*◌, ◌^◌, ◌<◌, ◌≤◌, Option, Some, None}
use Rattle.ground.specs.Kit.{refl, sym, ap, ◌∙◌, ⊎_elim, Bool, true, false, true≢false, cond, not, and-false, List, [], append_assoc, append-nil, flatten, ℕ, zero, suc, min, arith, add_assoc, add-zero, zero-add, sub-zero, zero-mul, eqb, leb, eqb-true, eq-eqb, ne_eqb, not-false, lt-leb, leb-true, leb-false, ltb, ltb-true, ltb-false, length, take, drop, length-append, length-drop, length-take-le, take_all, drop-drop}
use Rattle.listing.specs.declared.{Difference.Difference, Comparison.Comparison}
use Rattle.disc.specs.declared.{BlockAddress.BlockAddress, BytePlace.BytePlace}
use Rattle.ground.specs.Bytes.{text as words}
use Rattle.disc.specs.Formats.{no_format, discs, format_of, block_bytes, run_bytes, disc_bytes, place_of}
use Rattle.ground.proofs.Tables.{at_row}
use Rattle.ground.proofs.Truth.{neither}
use Rattle.disc.proofs.Discs.{run_add, block_fits, few_blocks}
use Rattle.text.specs.Ink.{Ink, ink, begun, put_all}
use Rattle.window.proofs.Filling.{any_filling}
use Rattle.listing.specs.Differing.{differing_from, differing}
use Rattle.listing.specs.Listing.{lines_of, total_line, listing, outside_b, disc_of, refusal_of, unless_refused}
use Rattle.listing.specs.Turns.{start_of, due_of, line_bytes, blocks_at_once, end_of, Turned, turned, turn_of}
use Rattle.listing.specs.Theorems.{Images}
use Rattle.listing.specs.Reading.{Ways, filled_of, comparing, Roomy, AnyReading, ComesShort, AnyRun}
use Rattle.listing.proofs.Blocks.{few_differ, at_once, lines_append}
use Rattle.listing.proofs.Parts.{block_due, some_block, part_after_part, blocks_in_lem}
use Rattle.listing.proofs.Printing.{lines_short, end_short, put_whole, kept}

no_lines : lines_of [] ≡ []
unfolding lines_of flatten
no_lines = refl

no_blocks : (number : ℕ) (from : BlockAddress) (first second : List ℕ) → differing_from number from 0 first second ≡ []
unfolding differing_from
no_blocks number from first second = refl

when : (b : Bool) (x y : List ℕ) → b ≡ true → cond b x y ≡ x
when b x y e = rw e

unless : (b : Bool) (x y : List ℕ) → b ≡ false → cond b x y ≡ y
unless b x y e = rw e

-- a room after its reads: as much as there is of what is due, at its start
module _ (ways : Ways) (turn due : ℕ) (place : BytePlace) (image room : List ℕ) (fits : due ≤ length room) where
  filled_upto : (filled_of ways turn due place image room).window.upto ≡ min due (length (drop place.0 image))
  filled_upto =
      let long = length-take-le due room fits in
      let (upto, _, _) = any_filling (ways.leaves turn) (ways.keeps turn) (take due room) (drop place.0 image) (ways.parts turn) (due + 1) (omega (arith, long)) in
      rw long at upto

  filled : due ≤ length (drop place.0 image) → (filled_of ways turn due place image room).room ≡ take due (drop place.0 image)
  filled there =
      let long = length-take-le due room fits in
      let (_, same, bytes) = any_filling (ways.leaves turn) (ways.keeps turn) (take due room) (drop place.0 image) (ways.parts turn) (due + 1) (omega (arith, long)) in
      let f = filled_of ways turn due place image room in
      let all : f.window.upto ≡ due = omega (arith, filled_upto, there) in
      sym (take_all due f.room (omega (arith, same, long))) ∙ rw (all, long) at bytes

-- ---- a part

module _ (number : ℕ) (first second : List ℕ) (one two : Ways) (last : ℕ → List ℕ) where
  abbrev blocks : ℕ
  blocks = (format_of number).blocks

  -- what is left of an image from a block on
  abbrev left : BlockAddress → List ℕ → List ℕ
  left from image = drop (place_of number from).0 image

  -- the program's turns
  abbrev turns : ℕ → Comparison → List ℕ → List ℕ → List ℕ → List ℕ
  turns n run room space text = comparing number first second one two last n run room space text

  -- a comparison on its way, with room for a block and its line
  record Going (run : Comparison) (room space text : List ℕ) : Type 0 where
    over : run.over ≡ leb blocks run.block.0
    there : run.block.0 ≤ blocks
    few : run.total ≤ run.block.0
    roomy : Roomy number room space text

  module _ (run : Comparison) (room space text : List ℕ) (g : Going run room space text) (h : run.block.0 < blocks) where
    abbrev from : BlockAddress
    from = run.block

    abbrev due : ℕ
    due = due_of number from (length room)

    few-due : due ≤ length room
    unfolding due_of
    few-due = omega arith

    few-due-too : due ≤ length space
    few-due-too = omega (arith, few-due, g.roomy.alike)

    -- where an image comes short nothing more is printed
    short-part : (n : ℕ) → (due ≤ length (left from first) → due ≤ length (left from second) → ⊥) → turns (suc n) run room space text ≡ []
    short-part n short =
        let place = place_of number from in
        let f = filled_of one n due place first room in
        let s = filled_of two n due place second space in
        unless run.over _ _ (g.over ∙ lt-leb blocks from.0 h)
        ∙ unless (eqb f.window.upto due && eqb s.window.upto due) _ _
        (rw (filled_upto one n due place first room few-due, filled_upto two n due place second space few-due-too) (here (leb due a) (leb due b) refl refl))
      where
        a : ℕ
        a = length (left from first)

        b : ℕ
        b = length (left from second)

        less : (n : ℕ) → leb due n ≡ false → eqb (min due n) due ≡ false
        less n e = ne_eqb (min due n) due (λ same. absurd (omega (arith, same, leb-false due n e)))

        here : (x y : Bool) → leb due a ≡ x → leb due b ≡ y → (eqb (min due a) due && eqb (min due b) due) ≡ false
        here false y e f = rw (less a e)
        here true false e f = rw (less b f) (and-false (eqb (min due a) due))
        here true true e f = absurd (short (leb-true due a e) (leb-true due b f))

    -- so many blocks are compared, and these of them differ
    abbrev m : ℕ
    m = blocks_at_once number from due due (length text)

    abbrev ds : List Difference
    ds = differing_from number from m (left from first) (left from second)

    abbrev next : BlockAddress
    next = record { 0 = from.0 + m }

    abbrev total : ℕ
    total = run.total + length ds

    abbrev over : Bool
    over = leb blocks next.0

    abbrev said : List ℕ
    said = lines_of ds ++ end_of over total

    abbrev i : Ink
    i = put_all (ink 0 text) said

    abbrev t : Turned
    t = turned (record { block = next; total = total; over = over }) (record { buffer = 0; ink = i })

    whole : (m ≤ blocks - from.0) × (run_bytes number m ≤ min due due) × (m * line_bytes ≤ length text)
    whole = at_once number from due due (length text)

    few-told : length ds ≤ m
    few-told = few_differ number from (left from first) (left from second) m

    some : 1 ≤ m
    some = some_block number from due (length text) h (block_due number from (length room) h g.roomy.wide) g.roomy.long

    short_text : length said ≤ length text
    short_text =
        omega (arith, length-append (lines_of ds) (end_of over total), lines_short ds, end_short over total, few-told, whole.2, some)

    -- what differs from here on: in the blocks of this part, and in k behind them
    split : (k : ℕ) → differing_from number from (m + k) (left from first) (left from second) ≡ ds ++ differing_from number next k (left next first) (left next second)
    unfolding place_of
    split k =
        let at = run_bytes number from.0 in
        let past = run_bytes number m in
        rw (part_after_part number from m k (left from first) (left from second), drop-drop past at first, drop-drop past at second, run_add number from.0 m)

    module _ (a : due ≤ length (left from first)) (b : due ≤ length (left from second)) where
      one_turn : turn_of number run (take due (left from first)) (take due (left from second)) (begun 0 0 text) ≡ t
      unfolding turn_of
      one_turn =
          let in-part = blocks_in_lem number from m due (left from first) (left from second) (omega (arith, whole.1)) in
          let small : min total (2 ^ 64 - 1) ≡ total = omega (arith, few-told, whole.0, g.few, g.there, few_blocks number) in
          rw (sub-zero (length text), length-take-le due (left from first) a, length-take-le due (left from second) b, in-part, small)

      -- the rooms after the turn
      abbrev one-room : List ℕ
      one-room = take due (left from first) ++ drop due room

      abbrev two-room : List ℕ
      two-room = take due (left from second) ++ drop due space

      same_long : (image space : List ℕ) → due ≤ length (left from image) → due ≤ length space
          → length (take due (left from image) ++ drop due space) ≡ length space
      same_long image space e f =
          omega (arith, length-append (take due (left from image)) (drop due space), length-take-le due (left from image) e, length-drop due space, f)

      goes_on : Going t.run one-room two-room t.text.ink.line
      goes_on =
          let long = same_long first room a few-due in
          record {
            over = refl;
            there = omega (arith, whole.0, h);
            few = omega (arith, few-told, g.few);
            roomy =
                record {
                  wide = omega (arith, long, g.roomy.wide);
                  alike = same_long second space b few-due-too ∙ g.roomy.alike ∙ sym long;
                  long = omega (arith, kept text said, g.roomy.long);
                };
          }

      one-part : (n : ℕ) → turns (suc n) run room space text ≡ said ++ turns n t.run one-room two-room t.text.ink.line
      one-part n =
          let place = place_of number from in
          let upto : min due (length (left from first)) ≡ due = omega (arith, a) in
          let upto-two : min due (length (left from second)) ≡ due = omega (arith, b) in
          unless run.over _ _ (g.over ∙ lt-leb blocks from.0 h)
          ∙ rw (filled_upto one n due place first room few-due, upto, filled_upto two n due place second space few-due-too, upto-two, eq-eqb due due refl)
          (rw (filled one n due place first room few-due a, filled two n due place second space few-due-too b, one_turn, put_whole text said short_text))

  -- ---- two images of the disc

  -- what differs from a block on
  abbrev rest : BlockAddress → List Difference
  rest from = differing_from number from (blocks - from.0) (left from first) (left from second)

  -- what is still to be said
  abbrev still : Comparison → List ℕ
  still run = let total = run.total + length (rest run.block) in lines_of (rest run.block) ++ end_of (not run.over) total ++ last total

  -- after the last block
  none_left : (run : Comparison) → blocks ≤ run.block.0 → rest run.block ≡ []
  none_left run h =
      let none : blocks - run.block.0 ≡ 0 = omega (arith, h) in
      rw (none, no_blocks number run.block (left run.block first) (left run.block second))

  -- a part's lines, and what is still to be said behind them
  joined : (over : Bool) (xs ys : List Difference) (c : ℕ) → (over ≡ true → ys ≡ [])
      → let total = c + length xs + length ys in
      lines_of xs ++ end_of over (c + length xs) ++ (lines_of ys ++ end_of (not over) total ++ last total)
      ≡ lines_of (xs ++ ys) ++ total_line (c + length (xs ++ ys)) ++ last (c + length (xs ++ ys))
  joined true xs ys c none = rw (none refl, append-nil xs, add-zero (c + length xs), no_lines)
  joined false xs ys c none =
      let total = c + length xs + length ys in
      rw (append-nil (lines_of xs), lines_append xs ys, length-append xs ys, ← add_assoc c (length xs) (length ys))
      (rw (append_assoc (lines_of xs) (lines_of ys) (total_line total), append_assoc (lines_of xs) (lines_of ys ++ total_line total) (last total)))

  -- what is due of an image of the disc is there
  there_whole : (from : BlockAddress) (space : ℕ) (image : List ℕ) → length image ≡ disc_bytes number → due_of number from space ≤ length (left from image)
  unfolding due_of
  there_whole from space image e = omega (arith, e, length-drop (place_of number from).0 image)

  module _ (images : Images number first second) where
    abbrev Says : ℕ → Type 0
    Says n = (run : Comparison) (room space text : List ℕ) → Going run room space text → blocks - run.block.0 < n → turns n run room space text ≡ still run

    says : (n : ℕ) → Says n
    says zero run room space text g h = absurd (omega (arith, h))
    says (suc n) run room space text g few = here (leb blocks run.block.0) refl (says n)
      where
        here : (b : Bool) → leb blocks run.block.0 ≡ b → Says n → turns (suc n) run room space text ≡ still run
        here true e on =
            let over = g.over ∙ e in
            when run.over _ _ over ∙ rw (none_left run (leb-true blocks run.block.0 e), no_lines, over, add-zero run.total)
        here false e on =
            let h : run.block.0 < blocks = leb-false blocks run.block.0 e in
            let a = there_whole run.block (length room) first images.one in
            let b = there_whole run.block (length room) second images.two in
            let later = (t run room space text g h).run in
            let all : blocks - run.block.0 ≡ m run room space text g h + (blocks - later.block.0) = omega (arith, (whole run room space text g h).0) in
            one-part run room space text g h a b n
            ∙ ap (λ (l : List ℕ). said run room space text g h ++ l)
            (on later (one-room run room space text g h a b) (two-room run room space text g h a b) (t run room space text g h).text.ink.line (goes_on run room space text g h a b)
            (omega (arith, few, some run room space text g h, h)))
            ∙ joined later.over (ds run room space text g h) (rest later.block) run.total (λ end. none_left later (leb-true blocks later.block.0 end))
            ∙ rw (all, split run room space text g h (blocks - later.block.0), g.over, e)

    -- at the start everything is still to be said
    all-still : 0 < blocks → still (start_of number) ≡ listing number first second ++ last (length (differing number first second))
    unfolding place_of run_bytes
    all-still some =
        let whole : rest (start_of number).block ≡ differing number first second = rw (zero-mul (block_bytes number), sub-zero blocks) in
        rw (whole, ne_eqb blocks 0 (λ e. absurd (omega (arith, e, some))), zero-add (length (differing number first second)))

  -- ---- an image that comes short

  module _ (short : (length first < disc_bytes number) ⊎ (length second < disc_bytes number)) where
    -- so many bytes both images have
    abbrev both : ℕ
    both = min (length first) (length second)

    -- the lines of blocks that both have, of all but the last part of them, and nothing else
    abbrev FirstLines : ℕ → Comparison → List ℕ → List ℕ → List ℕ → Type 0
    FirstLines n run room space text =
        (k : ℕ) × (run_bytes number (run.block.0 + k) ≤ both) × (both < run_bytes number (run.block.0 + k) + length room)
        × (turns n run room space text ≡ lines_of (differing_from number run.block k (left run.block first) (left run.block second)))

    abbrev Cut : ℕ → Type 0
    Cut n = (run : Comparison) (room space text : List ℕ) → Going run room space text → run.block.0 < blocks → blocks - run.block.0 < n
        → run_bytes number run.block.0 ≤ both → FirstLines n run room space text

    module _ (n : ℕ) (run : Comparison) (room space text : List ℕ) (g : Going run room space text) (h : run.block.0 < blocks)
        (had : run_bytes number run.block.0 ≤ both) where
      abbrev needed : ℕ
      needed = due run room space text g h

      abbrev at : ℕ
      at = run_bytes number run.block.0

      -- a part that does not come whole is the last one
      cut-here : (needed ≤ length (left run.block first) → needed ≤ length (left run.block second) → ⊥) → both < at + length room
          → FirstLines (suc n) run room space text
      cut-here less end =
          let none = no_blocks number run.block (left run.block first) (left run.block second) in
          (0, rw (add-zero run.block.0) had, rw (add-zero run.block.0) end, short-part run room space text g h n less ∙ rw (none, no_lines))

      few-left : (image : List ℕ) → leb needed (length (left run.block image)) ≡ false → at ≤ length image → length image < at + length room
      unfolding place_of
      few-left image e there =
          omega (arith, leb-false needed (length (left run.block image)) e, few-due run room space text g h, length-drop at image, there)

      -- one that comes whole is within both images
      bytes-had : (image : List ℕ) → needed ≤ length (left run.block image) → at ≤ length image
          → at + run_bytes number (m run room space text g h) ≤ length image
      unfolding place_of
      bytes-had image a there = omega (arith, (whole run room space text g h).1, a, length-drop at image, there)

      -- and not the last one, as one of the images comes short
      not_last : at + run_bytes number (m run room space text g h) ≤ both → over run room space text g h ≡ true → ⊥
      unfolding disc_bytes
      not_last fits end =
          let from = run.block.0 in
          let n = m run room space text g h in
          let all : from + n ≡ blocks = omega (arith, leb-true blocks (from + n) end, (whole run room space text g h).0, h) in
          let bytes : disc_bytes number ≡ at + run_bytes number n = rw (← all, run_add number from n) in
          ⊎_elim (λ less. omega (arith, bytes, fits, less)) (λ less. omega (arith, bytes, fits, less)) short

      cut_on : Cut n → blocks - run.block.0 < suc n → needed ≤ length (left run.block first) → needed ≤ length (left run.block second)
          → FirstLines (suc n) run room space text
      cut_on on turns-left a b = here (over run room space text g h) refl
        where
          fits : at + run_bytes number (m run room space text g h) ≤ both
          fits = let one = bytes-had first a (omega (arith, had)) in omega (arith, one, bytes-had second b (omega (arith, had)))

          here : (o : Bool) → over run room space text g h ≡ o → FirstLines (suc n) run room space text
          here true e = absurd (not_last fits e)
          here false e =
              let from = run.block.0 in
              let k = m run room space text g h in
              let later = t run room space text g h in
              let before = ds run room space text g h in
              let long = same_long run room space text g h a b first room a (few-due run room space text g h) in
              let (more, low, high, lines) = on later.run (one-room run room space text g h a b) (two-room run room space text g h a b) later.text.ink.line
              (goes_on run room space text g h a b) (leb-false blocks later.run.block.0 e)
              (omega (arith, turns-left, some run room space text g h, h)) (rw (run_add number from k) fits) in
              let behind = differing_from number later.run.block more (left later.run.block first) (left later.run.block second) in (
                k + more,
                rw (← add_assoc from k more) low,
                rw (← add_assoc from k more) (omega (arith, high, long)),
                one-part run room space text g h a b n ∙ ap (λ (l : List ℕ). said run room space text g h ++ l) lines
                    ∙ ap (λ (l : List ℕ). lines_of before ++ l ++ lines_of behind) (unless (over run room space text g h) (total_line later.run.total) [] e)
                    ∙ rw (append-nil (lines_of before), split run room space text g h more) (sym (lines_append before behind)),
              )

    cut : (n : ℕ) → Cut n
    cut zero run room space text g h few had = absurd (omega (arith, few))
    cut (suc n) run room space text g h few had = here (leb need a) (leb need b) refl refl (cut n)
      where
        need : ℕ
        need = due run room space text g h

        a : ℕ
        a = length (left run.block first)

        b : ℕ
        b = length (left run.block second)

        here : (x y : Bool) → leb need a ≡ x → leb need b ≡ y → Cut n → FirstLines (suc n) run room space text
        here true true e f on = cut_on n run room space text g h had on few (leb-true need a e) (leb-true need b f)
        here false y e f on =
            let less = few-left n run room space text g h had first e (omega (arith, had)) in
            cut-here n run room space text g h had (λ c _. absurd (omega (arith, c, leb-false need a e))) (omega (arith, less))
        here true false e f on =
            let less = few-left n run room space text g h had second f (omega (arith, had)) in
            cut-here n run room space text g h had (λ _ c. absurd (omega (arith, c, leb-false need b f))) (omega (arith, less))

-- a disc has blocks
some_blocks : (number : ℕ) → outside_b number ≡ false → 0 < (format_of number).blocks
unfolding format_of
some_blocks zero e = absurd (true≢false e)
some_blocks (suc k) e =
    let (_, few) = neither (ltb (suc k) 1) (ltb 4 (suc k)) e in
    ltb-true 0 (format_of (suc k)).blocks (at_row (λ f. ltb 0 f.blocks) no_format discs refl k (omega (arith, ltb-false 4 (suc k) few)))

-- the start is on its way
started : (number : ℕ) (first second : List ℕ) (one two : Ways) (last : ℕ → List ℕ) (room space text : List ℕ) → 0 < (format_of number).blocks
    → Roomy number room space text → Going number first second one two last (start_of number) room space text
started number first second one two last room space text some roomy =
    record {
      over = ne_eqb (format_of number).blocks 0 (λ e. absurd (omega (arith, e, some))) ∙ sym (lt-leb (format_of number).blocks 0 some);
      there = omega arith;
      few = omega arith;
      roomy = roomy;
    }

pub any_reading : AnyReading
any_reading number inside first second images one two last room space text roomy n h =
    let some = some_blocks number inside in
    says number first second one two last images n (start_of number) room space text (started number first second one two last room space text some roomy)
    (omega (arith, h))
    ∙ all-still number first second one two last images some

pub comes_short : ComesShort
unfolding place_of run_bytes
comes_short number inside first second short one two last room space text roomy n h =
    let some = some_blocks number inside in
    let none = zero-mul (block_bytes number) in
    let (k, low, high, lines) = cut number first second one two last short n (start_of number) room space text
    (started number first second one two last room space text some roomy) some (omega (arith, h)) (rw none (omega arith)) in
    (k, rw (zero-add k) at low, rw (zero-add k) at high, lines ∙ rw none)

-- ---- the program

-- no refusal: none of the three faults
no_fault : (outside one two : Bool) → length (cond outside (words "disc\n") (cond one (words "size 1\n") (cond two (words "size 2\n") []))) ≡ 0
    → (outside ≡ false) × (one ≡ false) × (two ≡ false)
no_fault true one two e = absurd (omega (arith, e))
no_fault false true two e = absurd (omega (arith, e))
no_fault false false true e = absurd (omega (arith, e))
no_fault false false false e = (refl, refl, refl)

no_refusal : (number : ℕ) (first second : List ℕ) → length (refusal_of (Some number) (length first) (length second)) ≡ 0
    → (outside_b number ≡ false) × Images number first second
unfolding refusal_of
no_refusal number first second e =
    let right : (n : ℕ) → not (eqb n (disc_bytes number)) ≡ false → n ≡ disc_bytes number = λ n t. eqb-true n (disc_bytes number) (not-false _ t) in
    let (inside, one, two) = no_fault _ _ _ e in
    (inside, record { one = right (length first) one; two = right (length second) two })

pub any_run : AnyRun
any_run last refused said first second one two room space text wide alike long n h = by_disc (disc_of said)
  where
    by_disc : (o : Option ℕ)
        → unless_refused refused (refusal_of o (length first) (length second))
        (λ number. comparing number first second one two last n (start_of number) room space text) o
        ≡ unless_refused refused (refusal_of o (length first) (length second))
        (λ number. listing number first second ++ last (length (differing number first second))) o
    by_disc None = refl
    by_disc (Some number) = here (eqb (length refusal) 0) refl
      where
        refusal : List ℕ
        refusal = refusal_of (Some number) (length first) (length second)

        here : (b : Bool) → eqb (length refusal) 0 ≡ b
            → cond b (comparing number first second one two last n (start_of number) room space text) (refusal ++ refused)
            ≡ cond b (listing number first second ++ last (length (differing number first second))) (refusal ++ refused)
        here true e =
            let (inside, images) = no_refusal number first second (eqb-true (length refusal) 0 e) in
            let roomy : Roomy number room space text = record { wide = omega (arith, block_fits number, wide); alike = alike; long = long } in
            any_reading number inside first second images one two last room space text roomy n (omega (arith, few_blocks number, h))
        here false e = refl
