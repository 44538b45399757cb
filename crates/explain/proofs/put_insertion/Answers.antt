use Rattle.ground.specs.Kit.{eq-eqb}
use Rattle.text.proofs.Putting.{put_on_then}
use Rattle.explain.specs.Explaining.{insertion_text}
use Rattle.explain.proofs.put_insertion.Goals as goal

pub returns-then-protected : goal.returns-then-protected
unfolding insertion_text
returns-then-protected c =
    let disc = put_on_then _ _ _ _ _ c.put_all.ensures (rw c.from.ensures at c.put_decimal.ensures) in
    rw (eq-eqb _ 0 c.if-house-ne0.false, c.if-protected.true) (put_on_then _ _ _ _ _ disc c.put_all-then-protected.ensures)
