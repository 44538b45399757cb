-- No words are missing. Assumes nothing.
use Rattle.std.specs.Prelude.{◌≡◌, ◌<◌, Some}
use Rattle.std.proofs.lemmas.Bool.Decides.{nat_tests}
use Rattle.ground.specs.Kit.{true, false, List, ℕ, arith, length}
use Rattle.packet.specs.declared.{Rule.Rule}
use Rattle.state.specs.declared.{Sense.Sense}
use Rattle.packet.specs.Rules.{rules, code_of, rule_of}
use Rattle.state.specs.Senses.{no_sense, same_b, named_b}
use Rattle.explain.specs.Words.{names, name_text, whys, why_text, reasons, reason_text}
use Rattle.explain.specs.Explaining.{AllSaid}

each_name : (p : List ℕ) (rule : Rule) → rule_of p ≡ Some rule → 0 < length (name_text (code_of p))
unfolding rule_of rules name_text names
each_name p rule e = grind (arith, nat_tests)

each_why : (s : Sense) → named_b s ≡ true → same_b s no_sense ≡ false → 0 < length (why_text s)
unfolding named_b why_text whys
each_why s n e = grind (arith, nat_tests)

each_reason : (house : ℕ) → 0 < house → 0 < length (reason_text house)
unfolding reason_text reasons
each_reason house some = grind (arith, nat_tests)

pub all_said : AllSaid
all_said = record { names = each_name; whys = each_why; reasons = each_reason }
