use Rattle.ground.specs.Kit.{le-ltb}
use Rattle.explain.specs.Words.{reasons, reason_text}
use Rattle.explain.proofs.words.put_reason.Goals as goal

pub returns-else-house-gt7 : goal.returns-else-house-gt7
unfolding reason_text reasons
returns-else-house-gt7 c = rw (le-ltb 7 _ c.if-house-gt7.false) c.put_row.ensures
