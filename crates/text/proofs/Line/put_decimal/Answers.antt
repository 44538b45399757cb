use Rattle.std.specs.Prelude.{◌-◌, ◌/◌}
use Rattle.ground.specs.Kit.{◌∙◌, arith, drop, length-set, length-drop, get_or-set_same, take_all}
use Rattle.text.specs.Numbers.{last_digit}
use Rattle.text.proofs.Digits.{one_more, no_more}
use Rattle.text.proofs.Line.put_decimal.Goals as goal

pub loop-rest-preserved : goal.loop-rest-preserved
loop-rest-preserved c =
    let l = c.loop-rest in
    let x = last_digit (l.rest / 10) in (
      omega arith,
      length-set l.digits (l.i - 1) x ∙ l.invariant.1,
      get_or-set_same l.digits (l.i - 1) x 0 (omega arith),
      one_more l.digits l.rest x l.i c.loop-rest-test.true (omega arith) l.invariant.2 ∙ l.invariant.3,
    )

pub returns : goal.returns
returns c =
    let l = c.loop-rest in
    let left = drop l.i l.digits in
    c.put_all.ensures
    ∙ rw (take_all (20 - l.i) left (rw (length-drop l.i l.digits) (omega (arith, l.invariant.1))), no_more l.digits l.rest l.i c.loop-rest-test.false (omega arith) l.invariant.2, l.invariant.3)
