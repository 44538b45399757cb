-- The customer's three demands of a device, and that they leave nothing open that a caller can hear. proofs/Together: our drive meets them.
use Rattle.std.specs.Prelude.{◌≡◌, ◌∷◌}
use Rattle.ground.specs.Kit.{Bool, List, []}
use Rattle.state.specs.States.{state_of}
use Rattle.house.specs.World.{World, in_state, Heard}
use Rattle.house.specs.Theorems.{Ready}
use Rattle.drive.specs.Calls.{Call}
use Rattle.demands.specs.Device.{Device, drive, after}
use Rattle.demands.specs.Answered.{Answered}
use Rattle.demands.specs.Ledger.{ledger_of}
use Rattle.demands.specs.Faithful.{Accounts, Faithful}
use Rattle.demands.specs.Uncut.{Uncut}

pub record Demands (d : Device) : Type 0 where
  pub answered : Answered d
  pub faithful : Faithful d
  pub uncut : Uncut d

-- all that is heard in a run
abbrev pub heard_in : Device → World → List Call → List Heard
heard_in d w [] = []
heard_in d w (c ∷ cs) = (d.call w c).heard ∷ heard_in d (d.call w c).world cs

-- two devices that meet demand 1 and keep the account are heard alike and leave the same disc, whatever is called, from every world: any state,
-- block buffer and disc
abbrev pub HeardAlike : Type 0
HeardAlike =
    (d e : Device) → Answered d → Accounts d → Answered e → Accounts e → (w : World) (cs : List Call)
    → (heard_in d w cs ≡ heard_in e w cs) × ((after d w cs).disc ≡ (after e w cs).disc)

-- so, with demand 1, the account alone says all that demand 2 does
abbrev pub AccountSuffices : Type 0
AccountSuffices = (d : Device) → Answered d → Accounts d → Faithful d

-- and a device that is heard otherwise than ours in any run breaks one of them
abbrev pub ToldApart : Type 0
ToldApart = (d : Device) (w : World) (cs : List Call) → (heard_in d w cs ≡ heard_in drive w cs → ⊥) → Answered d → Accounts d → ⊥

-- the same but for the motor flag
abbrev pub with_motor : Bool → World → World
with_motor motor w = in_state w (state_of w.state.media motor w.state.host w.state.transfer)

-- "the flag changes no other answer": nor is it heard itself
abbrev pub MotorUnheard : Type 0
MotorUnheard = (d : Device) → Answered d → Accounts d → (w : World) (motor : Bool) (cs : List Call) → heard_in d w cs ≡ heard_in d (with_motor motor w) cs

-- two ready worlds that read as the same ledger are heard alike: what the ledger has nothing of is never heard
abbrev pub HeardByLedger : Type 0
HeardByLedger =
    (d e : Device) → Answered d → Accounts d → Answered e → Accounts e → (w v : World) (cs : List Call) → Ready w → Ready v → ledger_of w ≡ ledger_of v
    → heard_in d w cs ≡ heard_in e v cs
