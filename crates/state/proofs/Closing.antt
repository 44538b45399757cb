-- A transfer with nothing left is closed, any other stays as it is. Assumes nothing.
use Rattle.std.specs.Prelude.{◌≡◌}
use Rattle.ground.specs.Kit.{refl, Bool, true, false, cond, eqb-true, eqb-false, eqb}
use Rattle.state.specs.declared.{Transfer.Transfer}
use Rattle.state.specs.declared.Transfer.TheVariants.{Closed}
use Rattle.state.specs.States.{left_of, closed_at_zero}

pub by_left : (P : Transfer → Type 0) (t : Transfer) → (left_of t ≡ 0 → P Closed) → ((left_of t ≡ 0 → ⊥) → P t) → P (closed_at_zero t)
by_left P t none some = here (eqb (left_of t) 0) refl
  where
    here : (b : Bool) → eqb (left_of t) 0 ≡ b → P (cond b Closed t)
    here true q = none (eqb-true (left_of t) 0 q)
    here false q = some (eqb-false (left_of t) 0 q)
