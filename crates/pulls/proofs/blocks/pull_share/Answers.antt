use Rattle.ground.specs.Kit.{arith, length}
use Rattle.moves.proofs.Blocks.{Share, share}
use Rattle.pulls.proofs.blocks.pull_share.Goals.{After-block_bytes-block}
use Rattle.pulls.proofs.blocks.pull_share.Goals as goal

-- the block at the place
known : (c : After-block_bytes-block) → let x = c.args in Share c.block_bytes-block.result x.place.0 (length x.disc.now)
known c =
    let start = c in
    let x = start.args in
    share x.number x.place x.disc.now c.block_bytes-block.result c.block_bytes-block.ensures start.requires

pub nonzero_rem-first : goal.nonzero_rem-first
nonzero_rem-first c =
    omega (arith, known (goal.at.nonzero_rem-first c).After-block_bytes-block)

pub slice_bounds-fill-count : goal.slice_bounds-fill-count
slice_bounds-fill-count c =
    omega (arith, known (goal.at.slice_bounds-fill-count c).After-block_bytes-block)

pub slice_bounds-fill-start : goal.slice_bounds-fill-start
slice_bounds-fill-start c =
    omega (arith, known (goal.at.slice_bounds-fill-start c).After-block_bytes-block)

pub slice_bounds-fill-end : goal.slice_bounds-fill-end
slice_bounds-fill-end c =
    omega (arith, known (goal.at.slice_bounds-fill-end c).After-block_bytes-block)
