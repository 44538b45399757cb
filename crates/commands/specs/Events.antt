-- Paper 01, "House refusals": insertion and ejection. Each touches the state alone.
use Rattle.std.specs.Prelude.{Result, Ok, Err}
use Rattle.ground.specs.Kit.{Bool, cond, ℕ, eqb}
use Rattle.state.specs.declared.{State.State}
use Rattle.state.specs.States.{inserted_of, ejected_of}
use Rattle.house.specs.declared.{Refusal.Refusal}
use Rattle.house.specs.Refusals.{refusal_number, first_refusal, insert_tests, eject_tests}

-- the paper's house number, and the state after
pub record Event : Type 0 where
  pub house : ℕ
  pub state : State

abbrev pub event : ℕ → State → Event
event house s = record { house = house; state = s }

-- a reply by its number: a refusal leaves the state before
abbrev pub happened : State → Result State Refusal → Event
happened s (Ok next) = event 0 next
happened s (Err r) = event (refusal_number r) s

-- "Each returns its number .. and leaves state .. as they were."
abbrev pub event_of : ℕ → State → State → Event
event_of house s next = cond (eqb house 0) (event 0 next) (event house s)

-- the disc that is lent for it counts by its length
unfoldable pub insert_of : State → ℕ → Bool → ℕ → Event
insert_of s number prot disc = event_of (first_refusal (insert_tests s number disc)) s (inserted_of s number prot)

unfoldable pub eject_of : State → Event
eject_of s = event_of (first_refusal (eject_tests s)) s (ejected_of s)
