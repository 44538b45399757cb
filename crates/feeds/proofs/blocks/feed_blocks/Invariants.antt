-- The loop's invariant: buffer and disc are what the piece's first `done` bytes leave.
use Rattle.std.specs.Prelude.{◌≡◌, ◌≤◌, ◌+◌, ◌-◌}
use Rattle.ground.specs.Kit.{length, take}
use Rattle.disc.specs.Formats.{block_bytes}
use Rattle.feeds.specs.Feeding.{writing, feed_bytes}
use Rattle.feeds.proofs.Feeding.{at_byte}
use Rattle.feeds.proofs.blocks.feed_blocks.Given as goal

abbrev pub invariant-loop-done : goal.invariant-loop-done
invariant-loop-done l =
    (l.done ≤ l.wanted)
    × (writing (at_byte (l.at + l.done)) l.buffer l.disc ≡ feed_bytes (block_bytes l.number) (writing (at_byte l.at) l.initial.buffer l.initial.disc) (take l.done l.piece))
    × (length l.buffer ≡ length l.initial.buffer)
    × (length l.disc ≡ length l.initial.disc)

abbrev pub decreases-loop-done : goal.decreases-loop-done
decreases-loop-done l = l.wanted - l.done
