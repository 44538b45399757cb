use Rattle.std.specs.Prelude.{◌≤◌}
use Rattle.ground.specs.Kit.{length}
use Rattle.window.specs.Filling.{missing}
use Rattle.compare.proofs.Image.fill.Given as goal

abbrev pub invariant-loop-window : goal.invariant-loop-window
invariant-loop-window l = l.window.upto ≤ length l.room

abbrev pub decreases-loop-window : goal.decreases-loop-window
decreases-loop-window l = missing l.window (length l.room)
