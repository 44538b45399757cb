use Rattle.std.specs.Prelude.{◌≡◌}
use Rattle.ground.specs.Kit.{drop}
use Rattle.text.specs.Ink.{ink, put_all}
use Rattle.text.proofs.Line.put_all.Given as goal

abbrev pub invariant-loop-b : goal.invariant-loop-b
invariant-loop-b l = put_all (ink l.next l.line) (drop l.b-index l.text) ≡ put_all (ink l.initial.next l.initial.line) l.text
