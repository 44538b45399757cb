-- What any accepted feed or pull leaves, whatever it moves. Assumes nothing.
use Rattle.std.specs.Prelude.{◌≡◌}
use Rattle.house.specs.World.{World, Reply}

-- no refusal; the disc that is in, and the attentions that are pending
pub record Leaves (w : World) (a : Reply) : Type 0 where
  pub house : a.heard.house ≡ 0
  pub media : a.world.state.media ≡ w.state.media
  pub power : a.world.state.host.power ≡ w.state.host.power
  pub change : a.world.state.host.change ≡ w.state.host.change
