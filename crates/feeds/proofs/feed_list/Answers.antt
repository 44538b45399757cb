use Rattle.std.specs.Prelude.{◌≡◌, ◌++◌, ◌-◌}
use Rattle.ground.specs.Kit.{ap, ◌∙◌, false, List, ℕ, min, arith, length, take, drop}
use Rattle.state.specs.States.{list_bytes}
use Rattle.house.specs.World.{World, in_state, in_lent, Reply, reply}
use Rattle.feeds.specs.Feeding.{list_goes}
use Rattle.feeds.proofs.Sharing.{Copied, copied}
use Rattle.feeds.proofs.feed_list.Goals.{After-fill-taken}
use Rattle.feeds.proofs.feed_list.Goals as goal

-- the block buffer after the copy
abbrev After : After-fill-taken → List ℕ
After c =
    let x = c.args in
    let at = list_bytes - x.from.left in
    take at x.buffer.now ++ (c.fill-taken.new.buffer ++ drop (list_bytes - at) (drop at x.buffer.now))

gathers : (c : After-fill-taken)
    → let x = c.args in
    let at = list_bytes - x.from.left in
    Copied at (list_bytes - at) x.piece.now x.buffer.now (After c) c.fill-taken.result
gathers c =
    let start = c in
    let x = start.args in
    let at = list_bytes - x.from.left in
    copied at (list_bytes - at) x.piece.now x.buffer.now (omega (arith, start.requires)) c.fill-taken.result c.fill-taken.new.buffer
    c.fill-taken.ensures

-- as many bytes are taken as the piece and the list have
count : (c : After-fill-taken)
    → let x = c.args in
    c.fill-taken.result ≡ min (length x.piece.now) x.from.left
count c = omega (arith, (gathers c).share, c.requires)

pub returns : goal.returns
returns c w =
    let goes = c in
    let fill = goes in
    let x = fill.args in
    let n = fill.fill-taken.result in
    let left : World → Reply = reply 0 false n x.piece.now in
    let bytes : List ℕ → Reply = λ buffer. left (list_goes x.from n (in_state (in_lent w buffer x.disc.now) x.state)) in
    rw (← count (goal.at.returns c).After-fill-taken) (ap left (goes.list_goes.ensures w) ∙ ap bytes (gathers (goal.at.returns c).After-fill-taken).bytes)
