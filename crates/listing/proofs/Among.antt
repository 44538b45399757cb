-- Laws of the numbers that pass a test. Assumes nothing.
use Rattle.std.specs.Prelude.{◌≡◌, ◌⊎◌, ◌∷◌, ◌++◌, ◌+◌, ◌<◌, ◌≤◌}
use Rattle.ground.specs.Kit.{refl, sym, ◌∙◌, inl, inr, Bool, true, false, true≢false, cond, List, [], ℕ, zero, suc, arith, add-zero, zero-add, suc-add, le_refl, eq-or-lt_of_le, length}
use Rattle.listing.specs.Differing.{among}
use Rattle.listing.specs.Theorems.{In, RisesFrom}
use Rattle.listing.proofs.Rising.{sooner}

-- numbers after numbers
pub among_append : (test : ℕ → Bool) (at n m : ℕ) → among test at (n + m) ≡ among test at n ++ among test (at + n) m
among_append test at zero m = rw (zero-add m, add-zero at)
among_append test at (suc n) m =
    let next : at + suc n ≡ suc at + n = omega arith in
    rw (next, suc-add n m, among_append test (suc at) n m) (here (test at) (among test (suc at) n) (among test (suc at + n) m))
  where
    here : (b : Bool) (xs ys : List ℕ) → cond b (at ∷ xs ++ ys) (xs ++ ys) ≡ cond b (at ∷ xs) xs ++ ys
    here true xs ys = refl
    here false xs ys = refl

-- one number more
pub among_more : (test : ℕ → Bool) (n : ℕ) → among test 0 (n + 1) ≡ among test 0 n ++ cond (test n) (n ∷ []) []
among_more test n = rw (zero-add n) at (among_append test 0 n 1)

pub among_few : (test : ℕ → Bool) (at n : ℕ) → length (among test at n) ≤ n
among_few test at zero = omega arith
among_few test at (suc n) = here (test at) (among test (suc at) n) (among_few test (suc at) n)
  where
    here : (b : Bool) (l : List ℕ) → length l ≤ n → length (cond b (at ∷ l) l) ≤ suc n
    here true l h = omega (arith, h)
    here false l h = omega (arith, h)

-- they rise
pub among_rises : (test : ℕ → Bool) (at n : ℕ) → RisesFrom at (among test at n)
among_rises test at zero = tt
among_rises test at (suc n) = here (test at) (among test (suc at) n) (among_rises test (suc at) n)
  where
    here : (b : Bool) (l : List ℕ) → RisesFrom (suc at) l → RisesFrom at (cond b (at ∷ l) l)
    here true l r = (le_refl at, r)
    here false l r = sooner at l r

-- each passes
pub among_pass : (test : ℕ → Bool) (at n x : ℕ) → In x (among test at n) → (x < at + n) × (test x ≡ true)
among_pass test at zero x m = absurd m
among_pass test at (suc n) x m =
    let next : at + suc n ≡ suc at + n = omega arith in
    rw next (here (test at) refl (among test (suc at) n) (among_pass test (suc at) n x) m)
  where
    here : (b : Bool) → test at ≡ b → (l : List ℕ) → (In x l → (x < suc at + n) × (test x ≡ true)) → In x (cond b (at ∷ l) l)
        → (x < suc at + n) × (test x ≡ true)
    here true t l more (inl e) = (omega arith, rw e t)
    here true t l more (inr m) = more m
    here false t l more m = more m

-- and each that passes is one of them
pub among_all : (test : ℕ → Bool) (at n x : ℕ) → at ≤ x → x < at + n → test x ≡ true → In x (among test at n)
among_all test at zero x low high t = absurd (omega arith)
among_all test at (suc n) x low high t =
    here (test at) refl (eq-or-lt_of_le low) (among test (suc at) n) (λ l. among_all test (suc at) n x l (omega arith) t)
  where
    here : (b : Bool) → test at ≡ b → (at ≡ x) ⊎ (at < x) → (l : List ℕ) → (at < x → In x l) → In x (cond b (at ∷ l) l)
    here true s (inl e) l more = inl (sym e)
    here true s (inr h) l more = inr (more h)
    here false s (inl e) l more = absurd (true≢false (sym t ∙ rw (← e) s))
    here false s (inr h) l more = more h
