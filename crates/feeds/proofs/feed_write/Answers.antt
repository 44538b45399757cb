use Rattle.std.specs.Prelude.{◌≡◌}
use Rattle.ground.specs.Kit.{ap, false, min, arith, length}
use Rattle.disc.specs.Formats.{block_bytes}
use Rattle.state.specs.States.{moved_of, disc_after}
use Rattle.state.specs.declared.Transfer.TheVariants.{Write}
use Rattle.house.specs.World.{in_state, in_lent, reply}
use Rattle.feeds.specs.Feeding.{Writing, writing, written}
use Rattle.feeds.proofs.Feeding.{taken_count}
use Rattle.feeds.proofs.feed_write.Goals.{After-feed_blocks-count}
use Rattle.feeds.proofs.feed_write.Goals as goal

-- as many bytes are taken as the piece and the transfer have
count : (call : After-feed_blocks-count)
    → let x = call.args in
    call.feed_blocks-count.result ≡ min (length x.piece.now) x.from.left
count call =
    let x = call.args in
    taken_count (block_bytes x.state.media.disc) x.from.left call.feed_blocks-count.result (writing x.from.at x.buffer.now x.disc.now) _ _
    x.piece.now
    call.feed_blocks-count.ensures

pub overflow_add-rest : goal.overflow_add-rest
overflow_add-rest c = omega (arith, count (goal.at.overflow_add-rest c).After-feed_blocks-count, c.requires.span.within)

pub overflow_sub-rest : goal.overflow_sub-rest
overflow_sub-rest c = omega (arith, count (goal.at.overflow_sub-rest c).After-feed_blocks-count)

pub returns : goal.returns
returns c v =
    let x = c.args in
    let w = in_state (in_lent v x.buffer.now x.disc.now) x.state in
    let n = min (length x.piece.now) x.from.left in
    rw (c.moved-state.ensures, count (goal.at.returns c).After-feed_blocks-count)
    (ap (λ (u : Writing). reply 0 false n x.piece.now (written w (moved_of x.state (Write (disc_after x.from n))) u)) c.feed_blocks-count.ensures)
