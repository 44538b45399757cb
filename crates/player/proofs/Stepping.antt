-- A step that waits, and one that plays. Assumes nothing.
use Rattle.std.specs.Prelude.{◌≡◌, Option, Some, None, is_some, unwrap_or}
use Rattle.ground.specs.Kit.{ap, Bool, true, false, not, List, ℕ}
use Rattle.state.specs.declared.{State.State}
use Rattle.player.specs.declared.{Outcome.Outcome}
use Rattle.house.specs.World.{World}
use Rattle.text.specs.Ink.{Ink, ink, put_all}
use Rattle.record.specs.Records.{length_field, record_of}
use Rattle.player.specs.Playing.{Said, said_of, outcome, spoken}
use Rattle.player.specs.Lines.{line_of}
use Rattle.player.specs.Steps.{stepped, ready_b, waiting, played_of, step_of}

pub waits : (w : World) (number : ℕ) (script : List ℕ) (ended : Bool) (line : List ℕ) → ready_b script ended ≡ false
    → step_of w number script ended line ≡ waiting w line
unfolding step_of
waits w number script ended line e = rw e

pub plays : (w : World) (number : ℕ) (script : List ℕ) (ended : Bool) (line : List ℕ) (s : Said) (used : ℕ) (i : Ink)
    → ready_b script ended ≡ true → s ≡ said_of w script (record_of script) → used ≡ length_field script
    → i ≡ put_all (ink 0 line) (line_of number s)
    → record { waits = false; bad = s.bad; used = used; line = i; house = s.house; count = s.count; world = s.world }
    ≡ step_of w number script ended line
unfolding step_of played_of
plays w number script ended line s used i ready says takes puts = rw (ready, takes, puts) (ap (played_of number script line) says)

-- what is left to tell of a record where its outcome, or that of a bad one, is at hand
pub answers : (state : State) (played : Option Outcome) (out line buffer disc : List ℕ) (used length : ℕ) (bad : Bool) (r : Outcome)
    → is_some played ≡ not bad → r ≡ unwrap_or played (outcome 0 0 0 state)
    → let s = spoken state played out buffer disc in
    stepped state (Some (record { bad = bad; used = used; length = length; house = r.house; count = r.count; state = r.state })) line buffer disc
    ≡ record { waits = false; bad = s.bad; used = used; line = ink length line; house = s.house; count = s.count; world = s.world }
answers state (Some o) out line buffer disc used length false r b e = rw e
answers state None out line buffer disc used length true r b e = rw e
answers state (Some o) out line buffer disc used length true r b e = cc
answers state None out line buffer disc used length false r b e = cc
