use Rattle.explain.specs.Words.{whys, why_text}
use Rattle.explain.proofs.words.put_why.Goals as goal

pub returns-then-named : goal.returns-then-named
unfolding why_text whys
returns-then-named c = rw (← c.named.ensures, c.if-named.true) c.put_row.ensures
