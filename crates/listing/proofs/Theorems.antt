-- What is listed is what differs: the statements of `specs/Theorems.antt`. Assumes nothing.
use Rattle.std.specs.Prelude.{◌≡◌, ◌⊎◌, ◌∷◌, ◌++◌, ◌+◌, ◌*◌, ◌<◌, ◌≤◌, Some, None}
use Rattle.ground.specs.Kit.{refl, sym, ap, fun_ext, ext_get_or, subst, ◌∙◌, inl, inr, ⊎_elim, Bool, true, false, not, not-true, not-false, List, [], map, flatten, ℕ, zero, suc, arith, zero-add, zero-mul, suc-mul, eqb, eqb-true, eqb-false, eq-eqb, ne_eqb, lt-ltb, le-ltb, ltb, or-true, length, take, drop, get_or, length-append, length-take, length-drop, length-take-le, take-add, take_all}
use Rattle.listing.specs.declared.{Difference.Difference}
use Rattle.disc.specs.declared.{BlockAddress.BlockAddress}
use Rattle.ground.specs.Bytes.{text, byte_at}
use Rattle.disc.specs.Formats.{format_of, block_bytes, run_bytes, disc_bytes, place_of}
use Rattle.text.specs.Numbers.{digits_before}
use Rattle.text.specs.Reading.{with_digit, after, number_of}
use Rattle.listing.specs.Differing.{among, places_of, difference_of, block_at, difference_at, differs_b, differing_from, differing}
use Rattle.listing.specs.Listing.{line_of, lines_of, total_line, outside_b, disc_of, refusal_of}
use Rattle.listing.specs.Theorems.{In, Rises, Images, Told, addresses, EveryDiffering, NoOther, RisingOrder, EachTold, EqualImages, OnlyEqual, Swapped, OneList, Refused, Printed, Named}
use Rattle.text.proofs.Numerals.{reads_numbers}
use Rattle.listing.proofs.Rising.{in_map, one_map, head_in, head_least, one_rising}
use Rattle.listing.proofs.Among.{among_rises, among_pass, among_all}
use Rattle.listing.proofs.Places.{same}
use Rattle.listing.proofs.Blocks.{block_within}

-- ---- the places at which two blocks differ

module _ (size : ℕ) (one two : List ℕ) where
  abbrev places : List ℕ
  places = places_of size one two

  abbrev Apart : ℕ → Type 0
  Apart i = byte_at one i ≡ byte_at two i → ⊥

  places_rise : Rises places
  unfolding places_of
  places_rise = among_rises (λ i. not (same one two i)) 0 size

  placed : (i : ℕ) → In i places → (i < size) × Apart i
  unfolding places_of
  placed i m =
      let (h, t) = among_pass (λ i. not (same one two i)) 0 size i m in
      (omega arith, eqb-false (byte_at one i) (byte_at two i) (not-true (same one two i) t))

  place : (i : ℕ) → i < size → Apart i → In i places
  unfolding places_of
  place i h d = among_all (λ i. not (same one two i)) 0 size i (omega arith) (omega arith) (ap not (ne_eqb (byte_at one i) (byte_at two i) d))

  -- elsewhere the bytes are equal
  no_place : (i : ℕ) → i < size → (In i places → ⊥) → byte_at one i ≡ byte_at two i
  no_place i h none = here (same one two i) refl
    where
      here : (b : Bool) → same one two i ≡ b → byte_at one i ≡ byte_at two i
      here true e = eqb-true (byte_at one i) (byte_at two i) e
      here false e = absurd (none (place i h (eqb-false (byte_at one i) (byte_at two i) e)))

  -- so blocks with no such place are equal
  no_places : length one ≡ size → length two ≡ size → length places ≡ 0 → one ≡ two
  no_places l m none = ext_get_or 0 one two (l ∙ sym m) (λ i h. no_place i (omega arith) (empty places none i))
    where
      empty : (xs : List ℕ) → length xs ≡ 0 → (i : ℕ) → In i xs → ⊥
      empty [] e i m = m
      empty (x ∷ xs) e i m = omega arith

  -- where there are some, the first is one of them
  first_place : 1 ≤ length places → (get_or places 0 size < size) × Apart (get_or places 0 size)
  first_place some = placed (get_or places 0 size) (head_in places size some)

  -- and before it there is none
  before_first : 1 ≤ length places → (i : ℕ) → i < get_or places 0 size → byte_at one i ≡ byte_at two i
  before_first some i early =
      no_place i (omega (arith, (first_place some).0)) (λ m. omega (arith, head_least places size places_rise i m))

-- ---- the blocks that differ

-- a block of a disc is whole
whole : (number : ℕ) (image : List ℕ) → length image ≡ disc_bytes number → (k : ℕ) → k < (format_of number).blocks
    → length (block_at number image k) ≡ block_bytes number
unfolding disc_bytes
whole number image l k h =
    let at = run_bytes number k in
    length-take-le (block_bytes number) (drop at image) (omega (arith, length-drop at image, block_within number k (format_of number).blocks h))

module _ (number : ℕ) (first second : List ℕ) where
  abbrev blocks : ℕ
  blocks = (format_of number).blocks

  abbrev telling_of : ℕ → Difference
  telling_of k = difference_at number (record { 0 = 0 }) first second k

  abbrev differs : ℕ → Bool
  differs k = differs_b (telling_of k)

  -- the addresses are those of the blocks that differ
  listed : addresses (differing number first second) ≡ among differs 0 blocks
  unfolding differing_from
  listed = each (among differs 0 blocks)
    where
      each : (ks : List ℕ) → addresses (map telling_of ks) ≡ ks
      each [] = refl
      each (k ∷ ks) = rw (zero-add k, each ks)

  passes : (k : ℕ) → In k (among differs 0 blocks) → (k < blocks) × (differs k ≡ true)
  passes k m = rw (zero-add blocks) at (among_pass differs 0 blocks k m)

  some_bytes : (k : ℕ) → differs k ≡ true → 1 ≤ (telling_of k).count
  some_bytes k t = let n = (telling_of k).count in omega (arith, eqb-false n 0 (not-true (eqb n 0) t))

  -- a block is equal, or it is listed
  equal_or_told : Images number first second → (k : ℕ) → k < blocks
      → (block_at number first k ≡ block_at number second k) ⊎ In k (addresses (differing number first second))
  equal_or_told images k h = rw listed (here (differs k) refl)
    where
      here : (b : Bool) → differs k ≡ b → (block_at number first k ≡ block_at number second k) ⊎ In k (among differs 0 blocks)
      here true t = inr (among_all differs 0 blocks k (omega arith) (omega arith) t)
      here false t =
          let one = block_at number first k in
          let two = block_at number second k in
          let n = (telling_of k).count in
          let long : length two ≡ length one = whole number second images.two k h ∙ sym (whole number first images.one k h) in
          inl (no_places (length one) one two refl long (eqb-true n 0 (not-false (eqb n 0) t)))

  told : Images number first second → (k : ℕ) → k < blocks → differs k ≡ true → Told number first second (telling_of k)
  unfolding place_of
  told images k h t =
      let one = block_at number first k in
      let two = block_at number second k in
      let size = block_bytes number in
      let long : length one ≡ size = whole number first images.one k h in
      let some : 1 ≤ length (places_of size one two) = rw long at (some_bytes k t) in
      rw (zero-add k, long)
      (record {
        places = places_of size one two;
        rising = places_rise size one two;
        those = placed size one two;
        all = place size one two;
        many = refl;
        some = some;
        there = first_place size one two some;
        before = before_first size one two some;
      })

pub every_differing : EveryDiffering
unfolding place_of
every_differing number first second images block h d = ⊎_elim (λ e. absurd (d e)) (λ m. m) (equal_or_told number first second images block.0 h)

pub no_other : NoOther
unfolding place_of
no_other number first second block m =
    let k = block.0 in
    let (h, t) = passes number first second k (rw (listed number first second) at m) in
    let one = block_at number first k in
    (h, λ e. (first_place (length one) one (block_at number second k) (some_bytes number first second k t)).1 (rw e))

pub rising_order : RisingOrder
rising_order number first second = rw (listed number first second) (among_rises (differs number first second) 0 (format_of number).blocks)

pub each_told : EachTold
unfolding differing_from
each_told number first second images d m =
    let those = among (differs number first second) 0 (format_of number).blocks in
    let (k, there, e) = in_map (telling_of number first second) those d m in
    let (h, t) = passes number first second k there in
    rw e (told number first second images k h t)

pub equal_images : EqualImages
unfolding lines_of flatten total_line digits_before
equal_images number image =
    let none = empty (differing number image image) (λ k m. (no_other number image image (record { 0 = k }) m).1 refl) in
    (none, rw none)
  where
    empty : (ds : List Difference) → ((k : ℕ) → In k (addresses ds) → ⊥) → ds ≡ []
    empty [] none = refl
    empty (d ∷ ds) none = absurd (none d.block.0 (inl refl))

-- equal blocks make equal images
equal_blocks : (number : ℕ) (first second : List ℕ) (n : ℕ) → ((k : ℕ) → k < n → block_at number first k ≡ block_at number second k)
    → take (run_bytes number n) first ≡ take (run_bytes number n) second
unfolding run_bytes
equal_blocks number first second zero equal = rw (zero-mul (block_bytes number))
equal_blocks number first second (suc n) equal =
    let size = block_bytes number in
    rw (
      suc-mul n size,
      take-add (n * size) size first,
      take-add (n * size) size second,
      equal_blocks number first second n (λ k h. equal k (omega arith)),
      equal n (omega arith),
    )

none_differing : (number : ℕ) (first second : List ℕ) → Images number first second → differing number first second ≡ [] → first ≡ second
unfolding disc_bytes
none_differing number first second images none =
    let blocks = (format_of number).blocks in
    sym (take_all (disc_bytes number) first (omega (arith, images.one)))
    ∙ equal_blocks number first second blocks (λ k h. ⊎_elim (λ e. e) (λ m. absurd (rw none at m)) (equal_or_told number first second images k h))
    ∙ take_all (disc_bytes number) second (omega (arith, images.two))

-- a line has three bytes at the least behind its numbers
pub only_equal : OnlyEqual
unfolding lines_of line_of flatten total_line
only_equal number first second images e = none_differing number first second images (here (differing number first second) e)
  where
    here : (ds : List Difference) → lines_of ds ++ total_line (length ds) ≡ text "total 0\n" → ds ≡ []
    here [] e = refl
    here (d ∷ ds) e = absurd (omega (arith, simp length-append at (ap length e)))

-- ---- the other way round

eqb_swap : (a b : ℕ) → eqb a b ≡ eqb b a
eqb_swap a b = here (eqb a b) refl
  where
    here : (t : Bool) → eqb a b ≡ t → t ≡ eqb b a
    here true e = sym (eq-eqb b a (sym (eqb-true a b e)))
    here false e = sym (ne_eqb b a (λ q. eqb-false a b e (sym q)))

difference_swap : (block : BlockAddress) (one two : List ℕ) → length one ≡ length two → difference_of block one two ≡ difference_of block two one
unfolding places_of
difference_swap block one two long =
    let tests = fun_ext (λ i. ap not (eqb_swap (byte_at one i) (byte_at two i))) in
    rw (long, tests)

pub swapped : Swapped
unfolding differing_from
swapped number first second images =
    let n = (format_of number).blocks in
    let long : (k : ℕ) → length (block_at number first k) ≡ length (block_at number second k) = λ k. simp (length-take, length-drop, images.one, images.two) in
    let told = fun_ext (λ k. difference_swap (record { 0 = 0 + k }) (block_at number first k) (block_at number second k) (long k)) in
    let same = ap (λ (d : ℕ → Difference). map d (among (λ k. differs_b (d k)) 0 n)) told in
    (same, ap (λ (ds : List Difference). lines_of ds ++ total_line (length ds)) same)

-- ---- no choice

-- two things that are told of a block are one
one_telling : (number : ℕ) (first second : List ℕ) (d e : Difference) → d.block.0 ≡ e.block.0
    → Told number first second d → Told number first second e → d ≡ e
one_telling number first second d e block t u =
    let v = subst (λ (k : ℕ). Told number first second (record { block = record { 0 = k }; count = e.count; first = e.first })) (sym block) u in
    let into : (i : ℕ) → In i t.places → In i v.places = λ i m. v.all i (t.those i m).0 (t.those i m).1 in
    let back : (i : ℕ) → In i v.places → In i t.places = λ i m. t.all i (v.those i m).0 (v.those i m).1 in
    let count : d.count ≡ e.count = t.many ∙ ap length (one_rising 0 t.places v.places t.rising v.rising into back) ∙ sym v.many in
    let early : d.first.0 < e.first.0 → ⊥ = λ h. t.there.1 (v.before d.first.0 h) in
    let late : e.first.0 < d.first.0 → ⊥ = λ h. v.there.1 (t.before e.first.0 h) in
    let place : d.first.0 ≡ e.first.0 = omega arith in
    λ i. record { block = record { 0 = block i }; count = count i; first = record { 0 = place i } }

pub one_list : OneList
one_list number first second images ds rises every each =
    let es = differing number first second in
    let same = one_rising 0 (addresses ds) (addresses es) rises (rising_order number first second) into back in
    one_map (λ d. d.block.0) ds es same
    (λ d e m n block. one_telling number first second d e block (each d m).1 (each_told number first second images e n))
  where
    into : (k : ℕ) → In k (addresses ds) → In k (addresses (differing number first second))
    into k m =
        let (d, there, e) = in_map (λ (d : Difference). d.block.0) ds k m in
        let (h, t) = each d there in
        rw e (every_differing number first second images d.block h (λ q. t.there.1 (rw q)))

    back : (k : ℕ) → In k (addresses (differing number first second)) → In k (addresses ds)
    back k m = let (h, apart) = no_other number first second (record { 0 = k }) m in every (record { 0 = k }) h apart

-- ---- refusals

outside : (number : ℕ) → (number < 1) ⊎ (4 < number) → outside_b number ≡ true
outside number h = ⊎_elim (λ few. rw (lt-ltb number 1 few)) (λ many. rw (lt-ltb 4 number many) (or-true (ltb number 1))) h

inside : (number : ℕ) → 1 ≤ number → number ≤ 4 → outside_b number ≡ false
inside number low high = rw (le-ltb number 1 low, le-ltb 4 number high)

pub refused : Refused
unfolding refusal_of
refused =
    record {
      disc = λ number first second out. rw (outside number out);
      nameless = λ first second. refl;
      one = λ number first second low high wrong. rw (inside number low high, ne_eqb first (disc_bytes number) wrong);
      two = λ number second low high wrong.
          rw (inside number low high, eq-eqb (disc_bytes number) (disc_bytes number) refl, ne_eqb second (disc_bytes number) wrong);
      none = λ number low high. rw (inside number low high, eq-eqb (disc_bytes number) (disc_bytes number) refl);
    }

texts_named : map disc_of (text "004" ∷ text "" ∷ text "4 " ∷ text " 4" ∷ text "+4" ∷ text "4." ∷ text "18446744073709551620" ∷ [])
    ≡ Some 4 ∷ None ∷ None ∷ None ∷ None ∷ None ∷ None ∷ []
unfolding disc_of number_of after with_digit
texts_named = refl

pub named : Named
unfolding disc_of
named =
    record {
      inside = λ n low high. rw (reads_numbers n (omega (arith, high)), inside n low high);
      outside = λ n few out. rw (reads_numbers n few, outside n out);
      texts = texts_named;
    }

-- ---- a case

pub printed : Printed
unfolding lines_of line_of flatten total_line digits_before
printed = refl
