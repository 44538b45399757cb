-- The loop's invariant: `out` begins with the first `done` bytes from the place on, and is its own after them.
use Rattle.std.specs.Prelude.{◌≤◌, ◌+◌, ◌-◌}
use Rattle.ground.specs.Kit.{ap, mod-lt, arith, length, drop, length-take, length-drop, drop-drop, rules}
use Rattle.disc.proofs.Discs.{block_holds}
use Rattle.ground.specs.Filling.{Filled}
use Rattle.moves.proofs.Blocks.{Turn}
use Rattle.pulls.proofs.Pulling.{fill_more}
use Rattle.pulls.proofs.blocks.pull_blocks.Goals.{After-pull_share-done}
use Rattle.pulls.proofs.blocks.pull_blocks.Goals as goal

one_turn : (c : After-pull_share-done)
    → let call = c in
    let at-loop = call in
    Turn at-loop.loop-done.done at-loop.min-wanted.result call.pull_share-done.result
one_turn c =
    let call = c in
    let at-loop = call in
    let start = at-loop in
    let x = start.args in
    let whole = start.requires.whole in
    let done = at-loop.loop-done.done in
    let inside = mod-lt (x.from.at.0 + done) (block_holds x.number whole.low whole.high) in
    let r = simp (length-take, length-drop) at (ap (λ (f : Filled). f.count) call.pull_share-done.ensures) in
    record { some = omega (arith, r); within = omega (arith, r) }

pub loop-done-smaller : goal.loop-done-smaller
loop-done-smaller c =
    omega (arith, one_turn (goal.at.loop-done-smaller c).After-pull_share-done)

pub loop-done-preserved : goal.loop-done-preserved
loop-done-preserved c =
    let call = c in
    let at-loop = call in
    let start = at-loop in
    let x = start.args in
    let at = x.from.at.0 in
    let disc = x.disc.now in
    let done = at-loop.loop-done.done in
    let r = call.pull_share-done.result in
    let share = call.pull_share-done.ensures in
    let t = one_turn (goal.at.loop-done-preserved c).After-pull_share-done in
    let room : done + r ≤ length (drop at disc) = simp length-drop (omega (arith, start.requires.within, at-loop.min-wanted.ensures)) in (
      t.within,
      fill_more (drop at disc) x.out.now at-loop.loop-done.out call.pull_share-done.new.out done (at-loop.min-wanted.result - done) r
          room (omega arith) (omega arith)
          at-loop.loop-done.invariant.1
          (rw (drop-drop done at disc, ap (λ (f : Filled). f.count) share) (ap (λ (f : Filled). f.bytes) share)),
      search rules,
    )
