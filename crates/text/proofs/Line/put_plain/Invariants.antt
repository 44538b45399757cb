use Rattle.text.specs.Ink.{inked}
use Rattle.text.specs.Plain.{plain_of}
use Rattle.text.proofs.Putting.{PutSoFar}
use Rattle.text.proofs.Line.put_plain.Given as goal

abbrev pub invariant-loop-byte : goal.invariant-loop-byte
invariant-loop-byte l = PutSoFar plain_of l.text (inked l.initial.self) l.byte-index (inked l.self)
