use Rattle.std.specs.Prelude.{◌+◌, ◌≤◌}
use Rattle.ground.specs.Kit.{refl, ap, min, arith, flatten, length}
use Rattle.listing.specs.Differing.{differing_from}
use Rattle.text.specs.Ink.{put_all}
use Rattle.listing.specs.Listing.{lines_of}
use Rattle.listing.specs.Turns.{Listed}
use Rattle.disc.proofs.Discs.{few_blocks}
use Rattle.listing.proofs.Blocks.{few_differ, block_within, equally_many, listed_on}
use Rattle.listing.proofs.put_blocks.Goals.{After-run_bytes-at}
use Rattle.listing.proofs.put_blocks.Goals as goal

-- the block's bytes lie within both parts
ends : (c : After-run_bytes-at)
    → let x = c.args in
    c.run_bytes-at.result + c.block_bytes-size.result ≤ min (length x.first.now) (length x.second.now)
ends c =
    let x = c.args in
    let within = block_within x.number c.loop-k.k x.n c.loop-k-test.true in
    omega (arith, within, c.run_bytes-at.ensures, c.block_bytes-size.ensures)

pub loop-k-init : goal.loop-k-init
unfolding differing_from lines_of flatten put_all
loop-k-init c = refl

pub overflow_add-upto : goal.overflow_add-upto
overflow_add-upto c = record { fits = omega (arith, ends (goal.at.overflow_add-upto c).After-run_bytes-at) }

pub overflow_add-from : goal.overflow_add-from
overflow_add-from c = let few = few_blocks c.args.number in record { fits = omega (arith, few) }

pub slice_bounds-pair-end : goal.slice_bounds-pair-end
slice_bounds-pair-end c =
    let there = ends (goal.at.slice_bounds-pair-end c).After-run_bytes-at in omega (arith, there)

pub slice_bounds-pair-end-in-loop-k : goal.slice_bounds-pair-end-in-loop-k
slice_bounds-pair-end-in-loop-k c =
    let there = ends (goal.at.slice_bounds-pair-end-in-loop-k c).After-run_bytes-at in omega (arith, there)

pub invariant_of-pair : goal.invariant_of-pair
invariant_of-pair c =
    let x = c.args in
    let many = equally_many x.number _ _ x.first.now x.second.now c.block_bytes-size.ensures (ends (goal.at.invariant_of-pair c).After-run_bytes-at) in
    record { alike = many.0; few = many.1 }

-- no more differ than were compared
pub with_block-count-requires : goal.with_block-count-requires
with_block-count-requires c =
    let loop = c.loop-k in
    let x = c.args in
    let told = ap (λ (l : Listed). l.count) loop.invariant in
    omega (arith, told, few_differ x.number x.from x.first.now x.second.now loop.k, few_blocks x.number)

pub loop-k-preserved : goal.loop-k-preserved
loop-k-preserved c =
    let loop = c.loop-k in
    listed_on _ _ _ _ _ _ _ _ _ _ _ c.run_bytes-at.ensures c.block_bytes-size.ensures c.compared-difference.ensures loop.invariant c.with_block-count.ensures
