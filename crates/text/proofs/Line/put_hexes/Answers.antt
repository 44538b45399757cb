use Rattle.ground.specs.Kit.{refl}
use Rattle.text.specs.Numbers.{hex_of, hexes_of}
use Rattle.text.proofs.Putting.{one_more}
use Rattle.text.proofs.Line.put_hexes.Goals as goal

pub loop-b-preserved : goal.loop-b-preserved
loop-b-preserved c = one_more hexes_of hex_of (λ _ _. refl) _ _ _ _ _ c.loop-b.invariant c.loop-b-test.true c.put_hex.ensures
