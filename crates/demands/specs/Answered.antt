-- Demand 1: "Any packet, state, event and lent buffer is answered. No entry relies on a check made by its caller."
use Rattle.std.specs.Prelude.{◌≡◌, Ok, Err}
use Rattle.ground.specs.Kit.{Bool, true, false, List, ℕ}
use Rattle.state.specs.declared.{Sense.Sense}
use Rattle.state.specs.declared.Transfer.TheVariants.{Closed}
use Rattle.state.specs.Senses.{no_sense}
use Rattle.state.specs.States.{power_on}
use Rattle.sound.specs.Soundness.{sound_b}
use Rattle.checks.specs.Verdicts.{Verdict, verdict}
use Rattle.house.specs.World.{World, in_buffer, Reply, refusal}
use Rattle.house.specs.Theorems.{Ready}
use Rattle.drive.specs.Calls.{Call, Insert, Eject, Command, Feed, Pull, returned, house_of}
use Rattle.demands.specs.Device.{Device}

-- whether a command passes, and its triple
pub record Judged : Type 0 where
  pub passed : Bool
  pub sense : Sense

abbrev pub judged_of : Verdict → Judged
judged_of (Ok rule) = record { passed = true; sense = no_sense }
judged_of (Err sense) = record { passed = false; sense = sense }

-- "a failed command sets its sense triple, closes the open transfer and changes neither disc nor block buffer"
pub record Failed (w : World) (p : List ℕ) (a : Reply) : Type 0 where
  pub sets : a.world.state.host.sense ≡ (judged_of (verdict w.state.media w.state.host p)).sense
  pub heard : a.heard.sense ≡ a.world.state.host.sense
  pub closes : a.world.state.transfer ≡ Closed
  pub disc : a.world.disc ≡ w.disc
  pub buffer : a.world.buffer ≡ w.buffer

-- an insertion or an ejection
abbrev pub event_b : Call → Bool
event_b (Insert number prot disc) = true
event_b Eject = true
event_b (Command p) = false
event_b (Feed piece) = false
event_b (Pull out) = false

-- in every world: any state, block buffer and disc. `call` is a function, so there is a reply to every call; of ours it is what the promises
-- of the entries say, and no entry has a `requires`
pub record Answered (d : Device) : Type 0 where
  -- "It is given exactly then."
  pub numbered : (w : World) (c : Call) → (d.call w c).heard.house ≡ house_of w c
  -- "A house refusal returns its number and changes nothing"
  pub refused : (w : World) (c : Call) → (house_of w c ≡ 0 → ⊥) → d.call w c ≡ refusal (house_of w c) w (returned c)
  -- "(command, feed, pull)": an event is lent neither the block buffer nor the disc that is in; in two worlds of one state an accepted one is
  -- heard alike and leaves the same state and disc, and the block buffer as it was
  pub events : (w v : World) (c : Call) → event_b c ≡ true → house_of w c ≡ 0 → w.state ≡ v.state
      → d.call w c ≡ record { heard = (d.call v c).heard; world = in_buffer (d.call v c).world w.buffer }
  -- "a failed command sets its sense triple, .."
  pub failed : (w : World) (p : List ℕ) → (d.call w (Command p)).heard.house ≡ 0 → (d.call w (Command p)).heard.passed ≡ false
      → Failed w p (d.call w (Command p))
  -- "Power-on: no disc, motor off, power-on flag set, change flag clear, no sense, closed."
  pub starts : d.start ≡ power_on
  -- "Every call keeps soundness", and the right buffers stay right
  pub keeps : (w : World) (c : Call) → sound_b w.state ≡ true → sound_b (d.call w c).world.state ≡ true
  pub stays : (w : World) (c : Call) → Ready w → Ready (d.call w c).world
