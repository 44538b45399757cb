use Rattle.std.specs.Prelude.{◌≡◌, ◌+◌, ◌-◌, ◌^◌, ◌<◌, ◌≤◌}
use Rattle.ground.specs.Kit.{ℕ, ap, arith, rules, sym, not-true, length, length-take-le}
use Rattle.disc.specs.Formats.{format_of}
use Rattle.disc.proofs.Discs.{block_fits}
use Rattle.text.specs.Ink.{Inked}
use Rattle.listing.specs.Turns.{due_of}
use Rattle.listing.proofs.Parts.{turn_before, turn_nearer, ends_on_disc, few_bytes}
use Rattle.compare.proofs.compare.Goals as goal
use Rattle.compare.proofs.compare.Goals.{After-due-n}

-- there is a block before the comparison
before : (c : After-due-n) → c.loop-run.run.block.0 < (format_of c.args.number).blocks
before c = c.loop-run.invariant.3 (not-true c.loop-run.run.over c.loop-run-test.true)

-- what is due has room, and ends on the disc
fits : (c : After-due-n) → (c.place_of-place.result.0 + c.due-n.result ≤ 2 ^ 62) × (c.due-n.result ≤ 16384)
unfolding due_of
fits c =
    let ends = ends_on_disc c.args.number c.loop-run.run.block 16384 (before c) in
    (rw (c.place_of-place.ensures, c.due-n.ensures) (omega (arith, ends, few_bytes c.args.number)), rw c.due-n.ensures (omega arith))

pub fill_first-requires-clause-n_bound : goal.fill_first-requires-clause-n_bound
fill_first-requires-clause-n_bound c = (fits (goal.at.fill_first-requires-clause-n_bound c).After-due-n).0

pub fill_first-requires-clause-n_in_bounds : goal.fill_first-requires-clause-n_in_bounds
fill_first-requires-clause-n_in_bounds c =
    let few = (fits (goal.at.fill_first-requires-clause-n_in_bounds c).After-due-n).1 in omega (arith, few, c.loop-run.invariant.0)

pub fill_first-requires-in-loop-run-clause-n_bound : goal.fill_first-requires-in-loop-run-clause-n_bound
fill_first-requires-in-loop-run-clause-n_bound c = (fits (goal.at.fill_first-requires-in-loop-run-clause-n_bound c).After-due-n).0

pub fill_first-requires-in-loop-run-clause-n_in_bounds :
    goal.fill_first-requires-in-loop-run-clause-n_in_bounds
fill_first-requires-in-loop-run-clause-n_in_bounds c =
    let few = (fits (goal.at.fill_first-requires-in-loop-run-clause-n_in_bounds c).After-due-n).1 in
    omega (arith, few, c.loop-run.invariant.1)

-- the first n bytes of a room of so many, which was filled
few_of : (n room filled : ℕ) → n ≤ 16384 → 16384 ≡ room → filled ≡ room → n ≤ filled
few_of n room filled few long same = omega (arith, few, long, same)

pub slice_bounds-first_room-end : goal.slice_bounds-first_room-end
slice_bounds-first_room-end c =
    few_of _ _ _ (fits (goal.at.slice_bounds-first_room-end c).After-due-n).1 c.loop-run.invariant.0 (search rules)

pub slice_bounds-turn-end : goal.slice_bounds-turn-end
slice_bounds-turn-end c =
    sym (length-take-le _ _ (few_of _ _ _ (fits (goal.at.slice_bounds-turn-end c).After-due-n).1 c.loop-run.invariant.0 (search rules)))

pub slice_bounds-second_room-end : goal.slice_bounds-second_room-end
slice_bounds-second_room-end c =
    few_of _ _ _ (fits (goal.at.slice_bounds-second_room-end c).After-due-n).1 c.loop-run.invariant.1 (search rules)

pub slice_bounds-turn-end-in-loop-run : goal.slice_bounds-turn-end-in-loop-run
slice_bounds-turn-end-in-loop-run c =
    sym (length-take-le _ _ (few_of _ _ _ (fits (goal.at.slice_bounds-turn-end-in-loop-run c).After-due-n).1 c.loop-run.invariant.1 (search rules)))

pub loop-run-smaller : goal.loop-run-smaller
loop-run-smaller c =
    let due = (goal.at.loop-run-smaller c).After-due-n in
    let few = (fits due).1 in
    let room = block_fits due.args.number in
    let text = ap (λ (i : Inked). length i.ink.line - i.ink.at) c.new-line.ensures in
    turn_nearer _ _ _ _ _ _ _ c.turn-run.ensures 16384 _ (omega (arith, room)) (omega (arith, c.loop-run.invariant.2, text)) c.due-n.ensures
    (length-take-le _ _ (few_of _ _ _ few c.loop-run.invariant.0 (search rules)))
    (length-take-le _ _ (few_of _ _ _ few c.loop-run.invariant.1 (search rules)))
    (before due)

pub loop-run-preserved : goal.loop-run-preserved
loop-run-preserved c = (search rules, search rules, search rules, turn_before _ _ _ _ _ _ _ c.turn-run.ensures)
