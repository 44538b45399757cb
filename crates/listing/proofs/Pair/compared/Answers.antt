use Rattle.ground.specs.Kit.{◌∙◌, inl, inr, arith}
use Rattle.listing.proofs.Places.{told_of}
use Rattle.listing.proofs.Pair.compared.Goals as goal
use Rattle.listing.proofs.Pair.compared.Goals.{then-count-gt0, else-count-gt0}

pub returns : goal.returns
returns c =
    let pair = c.args.self.now in
    let told = told_of pair.first.now pair.second.now c.args.block _ _ _ pair.alike c.differing_bytes-count.ensures c.unwrap_or.ensures
    (elim c.if-count-gt0.branch [
      | then-count-gt0 w ↦ inl (w.place-is ∙ w.first_differing-place.ensures)
      | else-count-gt0 w ↦ inr (omega arith, w.place-is)
    ]) in
    grind (arith, told)
