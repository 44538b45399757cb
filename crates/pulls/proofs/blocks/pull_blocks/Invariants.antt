-- The loop's invariant: `out` begins with the first `done` bytes from the place on, and is its own after them.
use Rattle.std.specs.Prelude.{◌≡◌, ◌++◌, ◌≤◌, ◌-◌}
use Rattle.ground.specs.Kit.{length, take, drop}
use Rattle.pulls.proofs.blocks.pull_blocks.Given as goal

abbrev pub invariant-loop-done : goal.invariant-loop-done
invariant-loop-done l =
    (l.done ≤ l.wanted) × (l.out ≡ take l.done (drop l.at l.disc) ++ drop l.done l.initial.out) × (length l.out ≡ length l.initial.out)

abbrev pub decreases-loop-done : goal.decreases-loop-done
decreases-loop-done l = l.wanted - l.done
