use Rattle.std.specs.Prelude.{◌≡◌, Some}
use Rattle.ground.specs.Kit.{drop}
use Rattle.text.specs.Reading.{after, number_of}
use Rattle.text.proofs.number.Given as goal

abbrev pub invariant-loop-digit : goal.invariant-loop-digit
invariant-loop-digit l = after (drop l.digit-index l.text) (Some l.n) ≡ number_of l.text
