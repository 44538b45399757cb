use Rattle.ground.specs.Kit.{refl}
use Rattle.text.specs.Plain.{plain_byte, plain_of}
use Rattle.text.proofs.Putting.{one_more}
use Rattle.text.proofs.Line.put_plain.Goals as goal

pub loop-byte-preserved : goal.loop-byte-preserved
loop-byte-preserved c = one_more plain_of plain_byte (λ _ _. refl) _ _ _ _ _ c.loop-byte.invariant c.loop-byte-test.true c.put_plain_byte.ensures
