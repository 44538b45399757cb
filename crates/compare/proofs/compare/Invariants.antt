use Rattle.std.specs.Prelude.{◌≡◌, ◌-◌}
use Rattle.ground.specs.Kit.{length}
use Rattle.disc.specs.Formats.{format_of}
use Rattle.listing.proofs.Parts.{Before}
use Rattle.compare.proofs.compare.Given as goal

abbrev pub invariant-loop-run : goal.invariant-loop-run
invariant-loop-run l =
    (16384 ≡ length l.first_room) × (16384 ≡ length l.second_room) × (2880 ≡ length l.text) × Before l.number l.run

abbrev pub decreases-loop-run : goal.decreases-loop-run
decreases-loop-run l = (format_of l.number).blocks - l.run.block.0
