-- A device as its caller meets it: its reply to every call, and runs of calls.
use Rattle.std.specs.Prelude.{◌∷◌}
use Rattle.ground.specs.Kit.{List, []}
use Rattle.state.specs.declared.{State.State}
use Rattle.state.specs.States.{power_on}
use Rattle.house.specs.World.{World, Reply}
use Rattle.drive.specs.Calls.{Call, call_of}

-- the state that it starts in, and its reply to any call in any world: any state, block buffer and disc
pub record Device : Type 0 where
  pub start : State
  pub call : World → Call → Reply

-- ours, by the definitions that the promises of the drive's entries cite
abbrev pub drive : Device
drive = record { start = power_on; call = call_of }

-- the world after calls, one after the other, whatever is answered
abbrev pub after : Device → World → List Call → World
after d w [] = w
after d w (c ∷ cs) = after d (d.call w c).world cs
