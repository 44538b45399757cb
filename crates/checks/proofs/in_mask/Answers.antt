use Rattle.std.specs.Prelude.{◌≡◌}
use Rattle.ground.specs.Kit.{◌∙◌, arith, rules, length}
use Rattle.std.specs.List.{list_all, zip}
use Rattle.std.proofs.lemmas.Iterator.{YieldsList-from_slice, YieldsList-from_zip}
use Rattle.std.proofs.lemmas.Iterator.Search.{all_from_yields_List}
use borrow.Author.Tests.{tests}
use Rattle.checks.specs.Verdicts.{in_mask_b}
use Rattle.checks.proofs.Below.{pair_b, pairs}
use Rattle.checks.proofs.in_mask.Goals as goal

pub returns : goal.returns
unfolding in_mask_b
returns c =
    let masks = c.mask_row.result in
    let p = c.args.packet.now in
    let long : length masks ≡ 12 = omega arith in
    let all : c.all.result ≡ list_all pair_b (zip masks p) =
    all_from_yields_List pair_b c.all.new.self _ _ c.all.ensures.ran (YieldsList-from_zip (YieldsList-from_slice masks cc) (YieldsList-from_slice p cc)) (λ x b q k. search (rules, tests)) in
    let e = all ∙ pairs masks p in
    rw (long, c.mask_row.ensures) at e
