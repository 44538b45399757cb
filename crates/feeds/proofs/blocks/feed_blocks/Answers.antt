-- The loop's invariant: buffer and disc are what the piece's first `done` bytes leave.
use Rattle.std.specs.Prelude.{◌+◌, ◌-◌, ◌%◌}
use Rattle.ground.specs.Kit.{arith, length, take, drop, length-drop, rules}
use Rattle.disc.specs.Formats.{block_bytes}
use Rattle.disc.proofs.Discs.{block_holds}
use Rattle.moves.proofs.Blocks.{Turn, turn}
use Rattle.ground.proofs.Parts.{tail_part}
use Rattle.feeds.specs.Feeding.{writing}
use Rattle.feeds.proofs.Feeding.{at_byte, taken_count, feed_more}
use Rattle.feeds.proofs.blocks.feed_blocks.Goals.{After-feed_share-done}
use Rattle.feeds.proofs.blocks.feed_blocks.Goals as goal

one_turn : (c : After-feed_share-done)
    → let call = c in
    let at-loop = call in
    Turn at-loop.loop-done.done at-loop.min-wanted.result call.feed_share-done.result
one_turn c =
    let call = c in
    let at-loop = call in
    let start = at-loop in
    let x = start.args in
    let piece = x.piece.now in
    let done = at-loop.loop-done.done in
    let p = start.requires in
    turn (block_bytes x.number) x.from.at.0 x.from.left (length piece) done at-loop.min-wanted.result call.feed_share-done.result
    (block_holds x.number p.span.whole.low p.span.whole.high)
    p.ends
    at-loop.min-wanted.ensures
    (omega arith)
    (rw (tail_part done piece, length-drop done piece) at
    (taken_count (block_bytes x.number) (block_bytes x.number - (x.from.at.0 + done) % block_bytes x.number) call.feed_share-done.result
    (writing (at_byte (x.from.at.0 + done)) at-loop.loop-done.buffer at-loop.loop-done.disc) _ _ (take (length piece - done) (drop done piece)) call.feed_share-done.ensures))

pub overflow_add-done : goal.overflow_add-done
overflow_add-done c =
    omega (arith, one_turn (goal.at.overflow_add-done c).After-feed_share-done)

pub loop-done-smaller : goal.loop-done-smaller
loop-done-smaller c =
    omega (arith, one_turn (goal.at.loop-done-smaller c).After-feed_share-done)

pub loop-done-preserved : goal.loop-done-preserved
loop-done-preserved c =
    let call = c in
    let at-loop = call in
    let x = at-loop.args in
    let piece = x.piece.now in
    let done = at-loop.loop-done.done in (
      (one_turn (goal.at.loop-done-preserved c).After-feed_share-done).within,
      feed_more (block_bytes x.number) x.from.at.0 done (block_bytes x.number - (x.from.at.0 + done) % block_bytes x.number) call.feed_share-done.result piece
          (take (length piece - done) (drop done piece)) x.buffer.now x.disc.now at-loop.loop-done.buffer at-loop.loop-done.disc
          call.feed_share-done.new.buffer call.feed_share-done.new.disc
          (tail_part done piece)
          at-loop.loop-done.invariant.1
          call.feed_share-done.ensures,
      search rules,
      search rules,
    )
