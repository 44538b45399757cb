-- Paper 01, "The bench player": what is played of a record.
use Rattle.std.specs.Prelude.{◌++◌, Option, Some, None, Result, Ok, Err}
use Rattle.ground.specs.Kit.{Bool, true, false, cond, List, [], ℕ, eqb, length, take, drop}
use Rattle.state.specs.declared.{State.State}
use Rattle.house.specs.declared.{Refusal.Refusal}
use Rattle.house.specs.Refusals.{refusal_number}
use Rattle.moves.specs.declared.{Moved.Moved}
use Rattle.player.specs.declared.{Outcome.Outcome}
use Rattle.record.specs.declared.{Record.Record}
use Rattle.ground.specs.Bytes.{zeros}
use Rattle.house.specs.World.{World, world, in_disc, Reply}
use Rattle.drive.specs.Calls.{Call, call_of}
use Rattle.drive.specs.Calls as call
use Rattle.record.specs.declared.Record.TheVariants.{Insert, Eject, Command, Feed, Pull}

-- "while no disc is in it lends length 0": how many of the disc's bytes the drive sees
unfoldable pub seen_of : ℕ → ℕ → ℕ
seen_of number bytes = cond (eqb number 0) 0 bytes

-- the bench's world as a call sees it
abbrev pub lending : World → World
lending w = in_disc w (take (seen_of w.state.media.disc (length w.disc)) w.disc)

-- "one 32,768-byte disc .. kept over ejections": the bench's world after a call, with the bytes behind those that came back
abbrev pub regained : World → World → World
regained w after = in_disc after (after.disc ++ drop (length after.disc) w.disc)

-- whether the record was bad, the house number, the count, the bytes to print, and the bench's world after
pub record Said : Type 0 where
  pub bad : Bool
  pub house : ℕ
  pub count : ℕ
  pub shown : List ℕ
  pub world : World

-- a record that was played
abbrev pub outcome : ℕ → ℕ → ℕ → State → Outcome
outcome house count shown state = record { house = house; count = count; shown = shown; state = state }

-- of a call that was answered so, by whether its bytes are to be printed: a refusal leaves the state
abbrev pub outcome_of : State → Result Moved Refusal → Bool → Outcome
outcome_of state (Ok m) shows = outcome 0 m.count (cond shows m.count 0) m.state
outcome_of state (Err r) shows = outcome (refusal_number r) 0 0 state

-- what it came to, with the caller's buffer, the block buffer and the disc afterwards
abbrev pub played_by : Outcome → List ℕ → List ℕ → List ℕ → Said
played_by r out buffer disc =
    record { bad = false; house = r.house; count = r.count; shown = take r.shown out; world = world r.state buffer disc }

-- "is bad: it isn't played"
abbrev pub bad_said : World → Said
bad_said w = record { bad = true; house = 0; count = 0; shown = []; world = w }

-- the answer of a function of the player in that state
abbrev pub spoken : State → Option Outcome → List ℕ → List ℕ → List ℕ → Said
spoken state (Some r) out buffer disc = played_by r out buffer disc
spoken state None out buffer disc = bad_said (world state buffer disc)

abbrev pub said : World → Reply → List ℕ → Said
said w r shown = record { bad = false; house = r.heard.house; count = r.heard.count; shown = shown; world = regained w r.world }

-- a call that prints no bytes
unfoldable pub called_of : World → Call → Said
called_of w c = said w (call_of (lending w) c) []

-- "for a pull with a count above 0 the bytes"
unfoldable pub pull_said : World → List ℕ → Said
pull_said w out = let r = call_of (lending w) (call.Pull out) in said w r (take r.heard.count r.heard.out)

-- an insertion is of the bench's disc; packet and piece stand behind the header of 4 bytes; a pull is into zeros
abbrev pub said_of : World → List ℕ → Option Record → Said
said_of w script (Some (Insert number prot)) = called_of w (call.Insert number prot w.disc)
said_of w script (Some Eject) = called_of w call.Eject
said_of w script (Some Command) = called_of w (call.Command (take 12 (drop 4 script)))
said_of w script (Some (Feed n)) = called_of w (call.Feed (take n (drop 4 script)))
said_of w script (Some (Pull n)) = pull_said w (zeros n)
said_of w script None = bad_said w
