use Rattle.std.specs.Prelude.{◌++◌, ◌-◌, ◌%◌}
use Rattle.ground.specs.Kit.{List, ℕ, arith, length, take, drop}
use Rattle.moves.proofs.Blocks.{Share, share}
use Rattle.feeds.proofs.Sharing.{Copied, copied, part_done, full_done}
use Rattle.feeds.proofs.blocks.feed_share.Goals.{After-block_bytes-block, After-fill-count}
use Rattle.feeds.proofs.blocks.feed_share.Goals as goal

-- the block at the place
known : (c : After-block_bytes-block) → let x = c.args in Share c.block_bytes-block.result x.place.0 (length x.disc.now)
known c =
    let start = c in
    let x = start.args in
    share x.number x.place x.disc.now c.block_bytes-block.result c.block_bytes-block.ensures start.requires

-- the buffer after the copy
abbrev After : After-fill-count → List ℕ
After c =
    let block = c.block_bytes-block.result in
    let x = c.args in
    let within = x.place.0 % block in
    take within x.buffer.now ++ (c.fill-count.new.buffer ++ drop (block - within) (drop within x.buffer.now))

gathers : (c : After-fill-count)
    → let x = c.args in
    let block = c.block_bytes-block.result in
    Copied (x.place.0 % block) (block - x.place.0 % block) x.piece.now x.buffer.now (After c) c.fill-count.result
gathers c =
    let x = c.args in
    let b = c.block_bytes-block.result in
    let k : Share b x.place.0 (length x.disc.now) = share x.number x.place x.disc.now b c.block_bytes-block.ensures c.requires in
    copied (x.place.0 % b) (b - x.place.0 % b) x.piece.now x.buffer.now (omega arith) c.fill-count.result
    c.fill-count.new.buffer
    c.fill-count.ensures

pub nonzero_rem-within : goal.nonzero_rem-within
nonzero_rem-within c =
    omega (arith, known (goal.at.nonzero_rem-within c).After-block_bytes-block)

pub slice_bounds-fill-count : goal.slice_bounds-fill-count
slice_bounds-fill-count c =
    omega (arith, known (goal.at.slice_bounds-fill-count c).After-block_bytes-block)

pub slice_bounds-fill-start : goal.slice_bounds-fill-start
slice_bounds-fill-start c =
    omega (arith, known (goal.at.slice_bounds-fill-start c).After-block_bytes-block)

pub slice_bounds-fill-end : goal.slice_bounds-fill-end
slice_bounds-fill-end c =
    omega (arith, known (goal.at.slice_bounds-fill-end c).After-block_bytes-block)

pub store_block-requires : goal.store_block-requires
store_block-requires c =
    let block = c in
    let k = known (goal.at.store_block-requires c).After-block_bytes-block in
    let e = block.block_bytes-block.ensures in
    rw (← e) (omega arith)

pub returns-then-within-count : goal.returns-then-within-count
returns-then-within-count c =
    let filled = c in
    let block = filled in
    let x = block.args in
    let e = block.block_bytes-block.ensures in
    let k = known (goal.at.returns-then-within-count c).After-block_bytes-block in
    rw (← e)
    (full_done block.block_bytes-block.result x.place.0 (length x.disc.now) k x.piece.now x.buffer.now (omega arith) filled.fill-count.result
    (After (goal.at.returns-then-within-count c).After-fill-count) x.disc.now (gathers (goal.at.returns-then-within-count c).After-fill-count) c.store_block.new.disc
    (omega (arith, c.if-within-count.true))
    (rw (← e) at c.store_block.ensures))

pub returns-else-within-count : goal.returns-else-within-count
returns-else-within-count c =
    let filled = c in
    let block = filled in
    let x = block.args in
    let k = known (goal.at.returns-else-within-count c).After-block_bytes-block in
    rw (← block.block_bytes-block.ensures)
    (part_done block.block_bytes-block.result x.place.0 (length x.disc.now) k x.piece.now x.buffer.now (omega arith) filled.fill-count.result
    (After (goal.at.returns-else-within-count c).After-fill-count) x.disc.now (gathers (goal.at.returns-else-within-count c).After-fill-count)
    (λ e. omega (arith, c.if-within-count.false, e)))
