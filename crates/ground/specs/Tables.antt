-- Tables by number: an entry is found by its key.
use Rattle.std.specs.Prelude.{◌∷◌}
use Rattle.ground.specs.Kit.{cond, List, [], ℕ, eqb}

pub record Entry (A : Type 0) : Type 0 where
  pub key : ℕ
  pub item : A

infix 20 ◌is◌
abbrev pub ◌is◌ : {A : Type 0} → ℕ → A → Entry A
key is item = record { key = key; item = item }

-- what the first entry of that key holds, `other` where there is none
abbrev pub find : {A : Type 0} → ℕ → List (Entry A) → A → A
find key [] other = other
find key (e ∷ es) other = cond (eqb key e.key) e.item (find key es other)
