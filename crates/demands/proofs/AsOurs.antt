-- A device that is heard as ours is, and whose states are ours, from every sound state. Assumes nothing.
use Rattle.std.specs.Prelude.{◌≡◌}
use Rattle.ground.specs.Kit.{refl, true}
use Rattle.state.specs.States.{power_on}
use Rattle.sound.specs.Soundness.{sound_b}
use Rattle.house.specs.World.{World}
use Rattle.drive.specs.Calls.{Call, call_of}
use Rattle.demands.specs.Device.{Device, drive}
use Rattle.demands.specs.Ledger.{Ledger}
use Rattle.demands.proofs.Agreeing.{Agrees}

-- a ledger that agrees with what ours leaves agrees with what it leaves
pub record AsOurs (d : Device) : Type 0 where
  pub start : d.start ≡ power_on
  pub heard : (w : World) (c : Call) → (d.call w c).heard ≡ (call_of w c).heard
  pub state : (w : World) (c : Call) → sound_b w.state ≡ true → (d.call w c).world.state ≡ (call_of w c).world.state
  pub agrees : (w : World) (c : Call) → sound_b w.state ≡ true → (l : Ledger) → Agrees (call_of w c).world l → Agrees (d.call w c).world l

pub ours : AsOurs drive
ours = record { start = refl; heard = λ w c. refl; state = λ w c sound. refl; agrees = λ w c sound l a. a }
