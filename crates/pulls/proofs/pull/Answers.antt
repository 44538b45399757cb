use Rattle.std.specs.Prelude.{◌≡◌}
use Rattle.ground.specs.Kit.{◌∙◌, length, rules}
use Rattle.house.specs.Refusals.{first_refusal, move_tests}
use Rattle.moves.proofs.Spans.{ready, answer_span, read_span}
use Rattle.pulls.proofs.ByTransfer.{pulls_answer, pulls_read}
use Rattle.pulls.proofs.pull.Goals as goal

pub pull_answer-requires : goal.pull_answer-requires
pull_answer-requires c =
    let x = c.args in
    let none : 0 ≡ first_refusal (move_tests x.state (length x.buffer.now) (length x.disc.now)) = search rules in
    answer_span _ _ _ none _ c.in-Answer.is

pub pull_read-requires : goal.pull_read-requires
pull_read-requires c = read_span _ _ _ c.in_ok-move_house.ensures _ c.in-Read.is

pub returns-in-Answer : goal.returns-in-Answer
returns-in-Answer c w = c.pull_answer.ensures w ∙ pulls_answer _ _ (ready _ _ _ c.in_ok-move_house.ensures w) _ c.in-Answer.is

pub returns-in-Read : goal.returns-in-Read
returns-in-Read c w = c.pull_read.ensures w ∙ pulls_read _ _ (ready _ _ _ c.in_ok-move_house.ensures w) _ c.in-Read.is
