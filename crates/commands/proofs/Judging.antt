-- Past the house tests the verdict decides; before them a refusal. Assumes nothing.
use Rattle.std.specs.Prelude.{◌≡◌, Result, IsErrAnd}
use Rattle.std.proofs.lemmas.Result.{err_from_is_err_and}
use Rattle.ground.specs.Kit.{List, [], ℕ, length, ne_eqb}
use Rattle.state.specs.declared.{State.State}
use Rattle.checks.specs.Verdicts.{verdict}
use Rattle.house.specs.declared.{Refusal.Refusal}
use Rattle.house.specs.World.{World, unless_refused, Reply}
use Rattle.house.specs.Refusals.{refusal_number}
use Rattle.house.specs.Theorems.{Ready}
use Rattle.house.proofs.Houses.{is_refusal, turned_away, command_admits}
use Rattle.commands.specs.declared.{Obeyed.Obeyed}
use Rattle.commands.specs.Events.{happened, event_of}
use Rattle.commands.specs.Obeying.{reply_to, commanded, command_of}

pub let_in : (w : World) (p : List ℕ) → Ready w → length p ≡ 12 → command_of w p ≡ reply_to (verdict w.state.media w.state.host p) w p
unfolding command_of
let_in w p r long = rw ((command_admits w p).1 long r)

-- a refusal that a `?` passes on
pub event_refused : (s next : State) (house : ℕ) (answer : Result State Refusal) (r : Refusal) → IsErrAnd answer (λ q. q ≡ r)
    → refusal_number r ≡ house → happened s answer ≡ event_of house s next
event_refused s next house answer r is e =
    let p = err_from_is_err_and answer is in
    rw (p.1, p.2, ← e, ne_eqb (refusal_number r) 0 (is_refusal r))

pub command_refused : (w : World) (house : ℕ) (accepted : Reply) (answer : Result Obeyed Refusal) (r : Refusal) → IsErrAnd answer (λ q. q ≡ r)
    → refusal_number r ≡ house → commanded answer w ≡ unless_refused house w [] accepted
command_refused w house accepted answer r is e = turned_away house w [] accepted _ answer r is e
