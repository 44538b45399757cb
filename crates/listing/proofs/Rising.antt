-- What stands in a list, and lists of numbers that rise. Assumes nothing.
use Rattle.std.specs.Prelude.{◌≡◌, ◌∷◌, ◌≤◌}
use Rattle.ground.specs.Kit.{refl, sym, ⊎_elim, inl, inr, List, [], map, ℕ, suc, arith, le_refl, length, get_or}
use Rattle.listing.specs.Theorems.{In, RisesFrom, Rises}

-- ---- of what a list was made

module _ {A B : Type 0} (f : A → B) where
  pub in_map : (xs : List A) (y : B) → In y (map f xs) → (x : A) × In x xs × (y ≡ f x)
  in_map [] y m = absurd m
  in_map (x ∷ xs) y (inl e) = (x, inl refl, e)
  in_map (x ∷ xs) y (inr m) = let (z, there, e) = in_map xs y m in (z, inr there, e)

  -- two lists are equal if they are made alike, and what is made alike is equal
  pub one_map : (xs ys : List A) → map f xs ≡ map f ys → ((x y : A) → In x xs → In y ys → f x ≡ f y → x ≡ y) → xs ≡ ys
  one_map [] [] e one = refl
  one_map [] (y ∷ ys) e one = cc
  one_map (x ∷ xs) [] e one = cc
  one_map (x ∷ xs) (y ∷ ys) e one =
      let heads : f x ≡ f y = cc in
      let tails : map f xs ≡ map f ys = cc in
      rw (one x y (inl refl) (inl refl) heads, one_map xs ys tails (λ v w m n. one v w (inr m) (inr n)))

-- ---- rising

-- what rises from later on also rises from here
pub sooner : (at : ℕ) (xs : List ℕ) → RisesFrom (suc at) xs → RisesFrom at xs
sooner at [] r = tt
sooner at (x ∷ xs) r = (omega (arith, r.0), r.1)

-- none is less than where it starts
no_less : (at : ℕ) (xs : List ℕ) → RisesFrom at xs → (x : ℕ) → In x xs → at ≤ x
no_less at [] r x m = absurd m
no_less at (y ∷ ys) r x (inl e) = omega (arith, r.0)
no_less at (y ∷ ys) r x (inr m) = omega (arith, r.0, no_less (suc y) ys r.1 x m)

-- ---- the first of them

pub head_in : (xs : List ℕ) (other : ℕ) → 1 ≤ length xs → In (get_or xs 0 other) xs
head_in [] other h = absurd (omega arith)
head_in (x ∷ xs) other h = inl refl

pub head_least : (xs : List ℕ) (other : ℕ) → Rises xs → (x : ℕ) → In x xs → get_or xs 0 other ≤ x
head_least [] other r x m = absurd m
head_least (y ∷ ys) other r x m = no_less y (y ∷ ys) (le_refl y, r.1) x m

-- ---- there is but one rising list of the same numbers

-- past its head, what stands in one list stands in the other
past : (x y : ℕ) (xs ys : List ℕ) → x ≡ y → RisesFrom (suc x) xs → ((z : ℕ) → In z (x ∷ xs) → In z (y ∷ ys)) → (z : ℕ) → In z xs → In z ys
past x y xs ys e r into z m = ⊎_elim (λ same. absurd (omega (arith, no_less (suc x) xs r z m))) (λ there. there) (into z (inr m))

pub one_rising : (at : ℕ) (xs ys : List ℕ) → RisesFrom at xs → RisesFrom at ys
    → ((x : ℕ) → In x xs → In x ys) → ((y : ℕ) → In y ys → In y xs) → xs ≡ ys
one_rising at [] [] r s into back = refl
one_rising at [] (y ∷ ys) r s into back = absurd (back y (inl refl))
one_rising at (x ∷ xs) [] r s into back = absurd (into x (inl refl))
one_rising at (x ∷ xs) (y ∷ ys) r s into back =
    let low = head_least (x ∷ xs) 0 (omega arith, r.1) y (back y (inl refl)) in
    let high = head_least (y ∷ ys) 0 (omega arith, s.1) x (into x (inl refl)) in
    let same : x ≡ y = omega arith in
    rw (same, one_rising (suc y) xs ys (rw same at r.1) s.1 (past x y xs ys same r.1 into) (past y x ys xs (sym same) s.1 back))
