use Rattle.std.specs.Prelude.{◌≡◌, ◌+◌, ◌<◌}
use Rattle.ground.specs.Kit.{length, drop, get_or}
use Rattle.text.specs.Numbers.{last_digit, digits_before, decimal_of}
use Rattle.text.proofs.Line.put_decimal.Given as goal

abbrev pub invariant-loop-rest : goal.invariant-loop-rest
invariant-loop-rest l =
    (l.i < 20) × (length l.digits ≡ 20) × (get_or l.digits l.i 0 ≡ last_digit l.rest) × (digits_before l.i l.rest (drop (l.i + 1) l.digits) ≡ decimal_of l.n)

abbrev pub decreases-loop-rest : goal.decreases-loop-rest
decreases-loop-rest l = l.i
