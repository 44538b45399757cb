-- A law of what is found in a table, from a proof for each entry. Assumes nothing.
use Rattle.std.specs.Prelude.{◌∷◌}
use Rattle.ground.specs.Kit.{Bool, true, false, cond, List, [], ℕ, eqb}
use Rattle.ground.specs.Tables.{Entry, find}

module _ {A : Type 0} (P : A → Type 0) (other : A) where
  -- G, given a proof for each entry, one after the other, and one for what is found where there is none
  abbrev pub Each : List (Entry A) → Type 0 → Type 0
  Each [] G = P other → G
  Each (e ∷ es) G = P e.item → Each es G

  onward : (es : List (Entry A)) {G H : Type 0} → (G → H) → Each es G → Each es H
  onward [] f g = λ p. f (g p)
  onward (e ∷ es) f g = λ p. onward es f (g p)

  pub found_each : (key : ℕ) (es : List (Entry A)) → Each es (P (find key es other))
  found_each key [] = λ p. p
  found_each key (e ∷ es) = λ p. onward es (here (eqb key e.key) p) (found_each key es)
    where
      here : (b : Bool) → P e.item → P (find key es other) → P (cond b e.item (find key es other))
      here true p _ = p
      here false _ q = q
