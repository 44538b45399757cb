-- A rule of a table is one test that antt computes over all of its rows; and an entry that is found is one of them. Assumes nothing.
use Rattle.std.specs.Prelude.{◌≡◌, ◌&&◌, ◌||◌, ◌∷◌, ◌<◌}
use Rattle.ground.specs.Kit.{refl, Bool, true, false, false≢true, List, [], ℕ, zero, suc, le_of_suc-le-suc, not-suc-le-zero, ne_eqb, eqb-true, eqb, length, get_or}
use Rattle.ground.specs.Tables.{Entry, find}
use Rattle.ground.proofs.Truth.{both}

module _ {A : Type 0} (test : A → Bool) where
  abbrev pub all : List A → Bool
  all [] = true
  all (x ∷ xs) = test x && all xs

  module _ (other : A) where
    pub at_row : (xs : List A) → all xs ≡ true → (k : ℕ) → k < length xs → test (get_or xs k other) ≡ true
    at_row [] e k h = absurd (not-suc-le-zero h)
    at_row (x ∷ xs) e zero h = (both (test x) (all xs) e).0
    at_row (x ∷ xs) e (suc k) h = at_row xs (both (test x) (all xs) e).1 k (le_of_suc-le-suc h)

    -- a test that what stands past the table passes too
    pub always : test other ≡ true → (xs : List A) → all xs ≡ true → (k : ℕ) → test (get_or xs k other) ≡ true
    always past [] e k = past
    always past (x ∷ xs) e zero = (both (test x) (all xs) e).0
    always past (x ∷ xs) e (suc k) = always past xs (both (test x) (all xs) e).1 k

-- within a table it does not matter what stands past it
pub in_table : {A : Type 0} (xs : List A) (k : ℕ) (d e : A) → k < length xs → get_or xs k d ≡ get_or xs k e
in_table [] k d e h = absurd (not-suc-le-zero h)
in_table (x ∷ xs) zero d e h = refl
in_table (x ∷ xs) (suc k) d e h = in_table xs k d e (le_of_suc-le-suc h)

-- ---- entries by their key

-- a test of every key with its item, and of what is found where there is none, holds of whatever is found
pub found : {A : Type 0} (test : ℕ → A → Bool) (other : A) (key : ℕ) → test key other ≡ true → (es : List (Entry A))
    → all (λ e. test e.key e.item) es ≡ true → test key (find key es other) ≡ true
found test other key past [] t = past
found test other key past (e ∷ es) t =
    let (one, more) = both (test e.key e.item) (all (λ e. test e.key e.item) es) t in
    here (eqb key e.key) refl one (found test other key past es more)
  where
    here : (b : Bool) → eqb key e.key ≡ b → test e.key e.item ≡ true → test key (find key es other) ≡ true
        → test key (find key (e ∷ es) other) ≡ true
    here true q one more = rw (q, eqb-true key e.key q) one
    here false q one more = rw q more

-- none of the keys of a `match`, as its default is told it: the last key outermost
abbrev pub NoneOf : ℕ → List ℕ → Type 0
NoneOf key [] = Unit
NoneOf key (k ∷ ks) = NoneOf key ks × (key ≡ k → ⊥)

abbrev is_key : List ℕ → ℕ → Bool
is_key [] x = false
is_key (k ∷ ks) x = eqb x k || is_key ks x

other_key : (key : ℕ) (ks : List ℕ) → NoneOf key ks → (x : ℕ) → is_key ks x ≡ true → eqb key x ≡ false
other_key key [] n x t = absurd (false≢true t)
other_key key (k ∷ ks) n x t = here (eqb x k) refl (λ t'. other_key key ks n.0 x t') t
  where
    here : (b : Bool) → eqb x k ≡ b → (is_key ks x ≡ true → eqb key x ≡ false) → (b || is_key ks x) ≡ true → eqb key x ≡ false
    here true e more t' = rw (eqb-true x k e) (ne_eqb key k n.1)
    here false e more t' = more t'

-- so nothing is found in a table that has no other keys
pub find_none : {A : Type 0} (key : ℕ) (ks : List ℕ) → NoneOf key ks → (es : List (Entry A)) (other : A)
    → all (λ e. is_key ks e.key) es ≡ true → find key es other ≡ other
find_none key ks n [] other t = refl
find_none key ks n (e ∷ es) other t =
    let (one, rest) = both (is_key ks e.key) (all (λ e. is_key ks e.key) es) t in
    rw (other_key key ks n e.key one) (find_none key ks n es other rest)
