-- What one test says of the first that fails, and the first that fails of all tests. Assumes nothing.
use Rattle.std.specs.Prelude.{◌≡◌, ◌&&◌, ◌∷◌, ◌+◌, ◌≤◌, ◌<◌}
use Rattle.ground.specs.Kit.{refl, sym, ◌∙◌, Bool, true, false, cond, not, false≢true, List, [], ℕ, add-one, not-true, length, get_or, drop, drop_of_length-le, drop-cons}
use Rattle.ground.proofs.Truth.{both}
use Rattle.ground.proofs.Tables.{all}
use Rattle.ground.specs.First.{first}

module _ {A B : Type 0} (fails : A → Bool) (gives : A → B) (xs : List A) (other : B) (i : ℕ) where
  pub fails_here : (d : A) → i < length xs → fails (get_or xs i d) ≡ true → first fails gives (drop i xs) other ≡ gives (get_or xs i d)
  fails_here d h e = rw (drop-cons xs i d h, e)

  pub holds_here : (d : A) → i < length xs → fails (get_or xs i d) ≡ false
      → first fails gives (drop i xs) other ≡ first fails gives (drop (i + 1) xs) other
  holds_here d h e = rw (add-one, drop-cons xs i d h, e)

  pub none_fails : length xs ≤ i → first fails gives (drop i xs) other ≡ other
  none_fails h = rw (drop_of_length-le xs h)

-- where none of the answers is of some kind, and the outcome is, no test failed and the outcome is the other
module _ {A B : Type 0} (fails : A → Bool) (gives : A → B) (kind : B → Bool) where
  abbrev pub barred_b : List A → Bool
  barred_b [] = true
  barred_b (x ∷ xs) = not (kind (gives x)) && barred_b xs

  abbrev pub NoneFails : List A → Type 0
  NoneFails [] = Unit
  NoneFails (x ∷ xs) = (fails x ≡ false) × NoneFails xs

  pub none_failed : (xs : List A) (other : B) → barred_b xs ≡ true → kind (first fails gives xs other) ≡ true
      → NoneFails xs × (first fails gives xs other ≡ other)
  none_failed [] other b k = (tt, refl)
  none_failed (x ∷ xs) other b k =
      let (one, rest) = both (not (kind (gives x))) (barred_b xs) b in
      here (fails x) refl (not-true (kind (gives x)) one) (λ k'. none_failed xs other rest k')
    where
      here : (f : Bool) → fails x ≡ f → kind (gives x) ≡ false
          → (kind (first fails gives xs other) ≡ true → NoneFails xs × (first fails gives xs other ≡ other))
          → NoneFails (x ∷ xs) × (first fails gives (x ∷ xs) other ≡ other)
      here false e barred more = let (all, same) = more (rw e at k) in ((e, all), rw e same)
      here true e barred more = absurd (false≢true (sym barred ∙ (rw e at k)))

-- what every answer passes, the outcome passes
pub outcome_passes : {A B : Type 0} (fails : A → Bool) (gives : A → B) (test : B → Bool) (xs : List A) (other : B)
    → all (λ x. test (gives x)) xs ≡ true → test other ≡ true → test (first fails gives xs other) ≡ true
outcome_passes fails gives test [] other e o = o
outcome_passes fails gives test (x ∷ xs) other e o =
    let (one, more) = both (test (gives x)) (all (λ x. test (gives x)) xs) e in
    here (fails x) one (outcome_passes fails gives test xs other more o)
  where
    here : (f : Bool) → test (gives x) ≡ true → test (first fails gives xs other) ≡ true
        → test (cond f (gives x) (first fails gives xs other)) ≡ true
    here true one more = one
    here false one more = more
