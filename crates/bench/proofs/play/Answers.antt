use Rattle.turns.proofs.Theorems.{stays_within}
use Rattle.bench.proofs.play.Goals as goal

-- a turn leaves the window within the room
pub refill-failed-requires : goal.refill-failed-requires
refill-failed-requires c = (stays_within _ _ _ _ _ _ _ _ _ _ _ c.turn-played.ensures).0.there
