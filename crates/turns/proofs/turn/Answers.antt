use Rattle.turns.proofs.Turning.{turns}
use Rattle.turns.proofs.turn.Goals as goal

pub returns : goal.returns
returns c =
    turns _ _ _ _ _ _ _ _ _ _ _ _ c.within-window.result c.used-left.result c.settled-after.result c.done.result c.put_words-length.result
    c.is_due-due.result c.step-step.result c.is_none.result c.within-window.ensures c.step-step.ensures c.put_words-length.ensures
    c.done.ensures c.used-left.ensures c.is_none.ensures c.is_due-due.ensures c.settled-after.ensures c.run_of.ensures
