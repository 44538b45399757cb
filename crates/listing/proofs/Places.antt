-- The places at which two blocks differ, and their bytes side by side. Assumes nothing.
use Rattle.std.specs.Prelude.{◌≡◌, ◌∷◌, ◌+◌, ◌<◌, ◌≤◌, ◌⊎◌, Option, Some, None, unwrap_or}
use Rattle.std.specs.List.{zip, fold, sum_by, position, position_or_len}
use Rattle.std.proofs.lemmas.List.Sums.{prefix_len-le-length}
use Rattle.std.proofs.lemmas.Slice.Zip.{length-zip}
use Rattle.ground.specs.Kit.{refl, sym, ⊎_elim, ltb, ltb-false, ◌∙◌, Bool, true, false, bool_byte, cond, not, List, [], ℕ, zero, suc, arith, zero-add, add-zero, eqb, length, get_or, drop, drop-cons, drop_of_length-le}
use Rattle.ground.specs.Bytes.{byte_at}
use Rattle.listing.specs.Differing.{among, apart_b, places_of, difference_of}
use Rattle.disc.specs.declared.{BlockAddress.BlockAddress}

module _ (first second : List ℕ) where
  abbrev pub same : ℕ → Bool
  same i = eqb (byte_at first i) (byte_at second i)

  abbrev differ : ℕ → Bool
  differ i = not (same i)

  counted : (n at k : ℕ) → at + n ≡ length first → at + n ≡ length second
      → fold (λ a p. a + bool_byte (apart_b p)) k (zip (drop at first) (drop at second)) ≡ k + length (among differ at n)
  counted zero at k e f = let end : length first ≤ at = omega arith in rw (drop_of_length-le first end) (omega arith)
  counted (suc n) at k e f =
      let one : at < length first = omega arith in
      let two : at < length second = omega arith in
      rw (drop-cons first at 0 one, drop-cons second at 0 two)
      (counted n (suc at) (k + bool_byte (differ at)) (omega arith) (omega arith) ∙ here (differ at) (among differ (suc at) n))
    where
      here : (b : Bool) (l : List ℕ) → k + bool_byte b + length l ≡ k + length (cond b (at ∷ l) l)
      here true l = omega arith
      here false l = omega arith

  placed : (n at : ℕ) → at + n ≡ length first → at + n ≡ length second
      → at + position_or_len apart_b (zip (drop at first) (drop at second)) ≡ get_or (among differ at n) 0 (at + n)
  placed zero at e f = let end : length first ≤ at = omega arith in rw (drop_of_length-le first end)
  placed (suc n) at e f =
      let one : at < length first = omega arith in
      let two : at < length second = omega arith in
      rw (drop-cons first at 0 one, drop-cons second at 0 two)
      (here (eqb (get_or first at 0) (get_or second at 0)) (among differ (suc at) n) (position_or_len apart_b (zip (drop (suc at) first) (drop (suc at) second)))
      (placed n (suc at) (omega arith) (omega arith)))
    where
      here : (b : Bool) (l : List ℕ) (k : ℕ) → suc at + k ≡ get_or l 0 (suc at + n)
          → at + cond (not (not b)) (1 + k) 0 ≡ get_or (cond (not b) (at ∷ l) l) 0 (at + suc n)
      here false l k h = add-zero at
      here true l k h = let next : at + suc n ≡ suc at + n = omega arith in rw next (omega (arith, h))

  pub count_apart : length first ≡ length second
      → length (places_of (length first) first second) ≡ sum_by (λ p. bool_byte (apart_b p)) (zip first second)
  unfolding places_of
  count_apart e = sym (counted (length first) 0 0 (zero-add (length first)) (zero-add (length first) ∙ e) ∙ zero-add (length (among differ 0 (length first))))

  pub first_apart : length first ≡ length second
      → get_or (places_of (length first) first second) 0 (length first) ≡ position_or_len apart_b (zip first second)
  unfolding places_of
  first_apart e =
      let size = length first in
      sym (simp zero-add at (placed size 0 (zero-add size) (zero-add size ∙ e)))

  found : length first ≡ length second
      → unwrap_or (position apart_b (zip first second)) (length first) ≡ get_or (places_of (length first) first second) 0 (length first)
  found e =
      here (ltb place (length pairs)) refl ∙ sym (first_apart e)
    where
      pairs : List (ℕ × ℕ)
      pairs = zip first second

      place : ℕ
      place = position_or_len apart_b pairs

      here : (b : Bool) → ltb place (length pairs) ≡ b → unwrap_or (cond b (Some place) None) (length first) ≡ place
      here true t = refl
      here false t = omega (arith, e, ltb-false place (length pairs) t, prefix_len-le-length (λ x. not (apart_b x)) pairs, length-zip first second)

  none_found : (size : ℕ) → length (places_of size first second) ≡ 0 → get_or (places_of size first second) 0 size ≡ size
  none_found size e = here (places_of size first second) e
    where
      here : (l : List ℕ) → length l ≡ 0 → get_or l 0 size ≡ size
      here [] e = refl
      here (x ∷ l) e = absurd (omega (arith, e))

  -- what is told of a block, as its functions promise it
  pub told_of : (block : BlockAddress) (count at : ℕ) (place : Option ℕ) → length first ≡ length second
      → count ≡ sum_by (λ p. bool_byte (apart_b p)) (zip first second) → at ≡ unwrap_or place (length first)
      → ((place ≡ position apart_b (zip first second)) ⊎ ((count ≡ 0) × (place ≡ None)))
      → record { block = block; count = count; first = record { 0 = at } } ≡ difference_of block first second
  told_of block count at place e many there which =
      let all : count ≡ length (places_of (length first) first second) = many ∙ sym (count_apart e) in
      let first_at : at ≡ get_or (places_of (length first) first second) 0 (length first) =
      there ∙ ⊎_elim (λ some. rw some (found e)) (λ none. rw none.1 (sym (none_found (length first) (sym all ∙ none.0)))) which in
      rw (← all, ← first_at)
