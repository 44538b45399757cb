use Rattle.text.specs.Ink.{inked}
use Rattle.text.specs.Numbers.{hexes_of}
use Rattle.text.proofs.Putting.{PutSoFar}
use Rattle.text.proofs.Line.put_hexes.Given as goal

abbrev pub invariant-loop-b : goal.invariant-loop-b
invariant-loop-b l = PutSoFar hexes_of l.bytes (inked l.initial.self) l.b-index (inked l.self)
