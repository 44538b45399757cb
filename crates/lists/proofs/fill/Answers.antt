use Rattle.ground.specs.Kit.{arith}
use Rattle.lists.proofs.Filling.{filled_span}
use Rattle.lists.proofs.fill.Goals as goal

pub returns : goal.returns
returns c =
    let x = c.args in
    filled_span _ x.from.0 _ _ _ x.count _ (c.fill.ensures.after (λ y e. e)) (omega arith) (omega arith)
