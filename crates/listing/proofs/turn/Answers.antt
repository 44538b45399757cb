use Rattle.ground.specs.Kit.{arith, length, le-leb, lt-leb}
use Rattle.text.specs.Ink.{put_all}
use Rattle.disc.proofs.Discs.{few_blocks}
use Rattle.listing.proofs.Blocks.{at_once, turns}
use Rattle.listing.proofs.turn.Goals as goal

pub put_blocks-count-requires : goal.put_blocks-count-requires
put_blocks-count-requires c =
    let x = c.args in
    let there = at_once x.number x.run.block (length x.first.now) (length x.second.now) c.saturating_sub-room.result in
    rw c.blocks_at_once-n.ensures (record { n_bound = there.0; n_bound_2 = there.1 })

-- on the disc, or past its end, from where nothing is compared
pub overflow_add-next : goal.overflow_add-next
overflow_add-next c =
    let x = c.args in
    let there = (at_once x.number x.run.block (length x.first.now) (length x.second.now) c.saturating_sub-room.result).0 in
    record { fits = omega (arith, there, few_blocks x.number, c.blocks_at_once-n.ensures) }

pub returns-then-over : goal.returns-then-over
returns-then-over c =
    turns _ _ _ _ _ _ _ _ _ _ _ _ c.blocks_at_once-n.ensures c.saturating_sub-room.ensures c.put_blocks-count.ensures c.format_of.ensures c.saturating_add-total.ensures
    (rw (le-leb _ _ c.if-over.true) c.put_total.ensures)

pub returns-else-over : goal.returns-else-over
unfolding put_all
returns-else-over c =
    turns _ _ _ _ _ _ _ _ _ _ _ _ c.blocks_at_once-n.ensures c.saturating_sub-room.ensures c.put_blocks-count.ensures c.format_of.ensures c.saturating_add-total.ensures
    (rw (lt-leb _ _ c.if-over.false))
