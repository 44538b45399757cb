use Rattle.std.specs.Prelude.{◌≡◌}
use Rattle.ground.specs.Kit.{sym, ◌∙◌, true≢false, length, rules}
use Rattle.house.specs.Refusals.{first_refusal, move_tests}
use Rattle.moves.proofs.Spans.{ready, whole_buffer, write_span, list_left}
use Rattle.feeds.proofs.ByTransfer.{feeds_write, feeds_list}
use Rattle.feeds.proofs.feed.Goals as goal

pub feed_write-requires : goal.feed_write-requires
feed_write-requires c =
    let x = c.args in
    let none : 0 ≡ first_refusal (move_tests x.state (length x.buffer.now) (length x.disc.now)) = search rules in
    write_span _ _ _ none _ c.in-Write.is

pub feed_list-requires : goal.feed_list-requires
feed_list-requires c =
    (list_left _ _ _ c.in_ok-move_house.ensures _ c.in-ParameterList.is).few

pub returns-in_err-block : goal.returns-in_err-block
returns-in_err-block c w =
    let some = c.as_mut_array.ensures.variant.1 (whole_buffer _ _ _ c.in_ok-move_house.ensures) in
    absurd (true≢false (sym some ∙ sym c.in_err-block.ensures.variant))

pub returns-in-Write : goal.returns-in-Write
returns-in-Write c w =
    let whole = rw c.in_ok-block.ensures.ok_part at c.as_mut_array.ensures.cases in
    rw whole.same at (c.feed_write.ensures w) ∙ feeds_write _ _ (ready _ _ _ c.in_ok-move_house.ensures w) _ c.in-Write.is

pub returns-in-ParameterList : goal.returns-in-ParameterList
returns-in-ParameterList c w =
    let whole = rw c.in_ok-block.ensures.ok_part at c.as_mut_array.ensures.cases in
    rw whole.same at (c.feed_list.ensures w) ∙ feeds_list _ _ (ready _ _ _ c.in_ok-move_house.ensures w) _ c.in-ParameterList.is
