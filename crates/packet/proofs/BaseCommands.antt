-- The table of base commands: each rule is one test that antt computes over all entries. Assumes nothing.
use Rattle.std.specs.Prelude.{◌≡◌, ◌||◌, Option, Some, None}
use Rattle.ground.specs.Kit.{refl, Bool, true, false, not, beq, false≢true, List, ℕ, eqb}
use Rattle.packet.specs.declared.{Rule.Rule, Routine.Routine, Values.Values}
use Rattle.ground.proofs.Tables.{all, found}
use Rattle.packet.specs.Rules.{rules, code_of, rule_of}
use Rattle.packet.specs.declared.Routine.TheVariants.{Nothing, Motor, Answer, Read, Write, ParameterList}
use Rattle.packet.specs.declared.Values.TheVariants.{Any, ZeroBits, Page, FormatUnit}

module _ (test : ℕ → Rule → Bool) where
  abbrev pub of_known : ℕ → Option Rule → Bool
  of_known code None = true
  of_known code (Some rule) = test code rule

  -- a test that every entry passes holds of every base command
  pub of_base : all (λ e. of_known e.key e.item) rules ≡ true → (p : List ℕ) (rule : Rule) → rule_of p ≡ Some rule → test (code_of p) rule ≡ true
  unfolding rule_of
  of_base e p rule known = rw known at (found of_known None (code_of p) refl rules e)

abbrev pub opens_b : Routine → Bool
opens_b Nothing = false
opens_b Motor = false
opens_b (Answer a) = false
opens_b Read = true
opens_b Write = true
opens_b ParameterList = false

abbrev pub writes_b : Routine → Bool
writes_b Nothing = false
writes_b Motor = false
writes_b (Answer a) = false
writes_b Read = false
writes_b Write = true
writes_b ParameterList = false

abbrev pub lists_b : Routine → Bool
lists_b Nothing = false
lists_b Motor = false
lists_b (Answer a) = false
lists_b Read = false
lists_b Write = false
lists_b ParameterList = true

abbrev pub formats_b : Values → Bool
formats_b Any = false
formats_b (ZeroBits bits) = false
formats_b Page = false
formats_b FormatUnit = true

-- what opens blocks asks for a disc and for the range, a write for no protection; a list asks for a disc, its fields and no protection
pub record Guarded (rule : Rule) : Type 0 where
  pub disc : (not (opens_b rule.routine) || rule.asked.disc) ≡ true
  pub range : (not (opens_b rule.routine) || rule.asked.range) ≡ true
  pub unprotected : (not (writes_b rule.routine) || rule.asked.unprotected) ≡ true
  pub list_disc : (not (lists_b rule.routine) || rule.asked.disc) ≡ true
  pub list_fields : (not (lists_b rule.routine) || formats_b rule.values) ≡ true
  pub list_unprotected : (not (lists_b rule.routine) || rule.asked.unprotected) ≡ true

pub guarded : (p : List ℕ) (rule : Rule) → rule_of p ≡ Some rule → Guarded rule
unfolding rules
guarded p rule known =
    record {
      disc = of_base (λ code rule. not (opens_b rule.routine) || rule.asked.disc) refl p rule known;
      range = of_base (λ code rule. not (opens_b rule.routine) || rule.asked.range) refl p rule known;
      unprotected = of_base (λ code rule. not (writes_b rule.routine) || rule.asked.unprotected) refl p rule known;
      list_disc = of_base (λ code rule. not (lists_b rule.routine) || rule.asked.disc) refl p rule known;
      list_fields = of_base (λ code rule. not (lists_b rule.routine) || formats_b rule.values) refl p rule known;
      list_unprotected = of_base (λ code rule. not (lists_b rule.routine) || rule.asked.unprotected) refl p rule known;
    }

same : (a b : Bool) → beq a b ≡ true → a ≡ b
same true true e = refl
same false false e = refl
same true false e = absurd (false≢true e)
same false true e = absurd (false≢true e)

-- a check that the entries ask of these codes and of no others
exactly : (asks : Rule → Bool) (codes : ℕ → Bool) → all (λ e. of_known (λ code rule. beq (asks rule) (codes code)) e.key e.item) rules ≡ true
    → (p : List ℕ) (rule : Rule) → rule_of p ≡ Some rule → asks rule ≡ codes (code_of p)
exactly asks codes e p rule known =
    same (asks rule) (codes (code_of p)) (of_base (λ code rule. beq (asks rule) (codes code)) e p rule known)

-- check C is asked of all but 03 and 12
abbrev pub free_b : ℕ → Bool
free_b code = eqb code 0x03 || eqb code 0x12

pub attended : (p : List ℕ) (rule : Rule) → rule_of p ≡ Some rule → rule.asked.attention ≡ not (free_b (code_of p))
unfolding rules
attended = exactly (λ rule. rule.asked.attention) (λ code. not (free_b code)) refl

-- check B is asked of all but 12
pub unit_asked : (p : List ℕ) (rule : Rule) → rule_of p ≡ Some rule → rule.asked.unit ≡ not (eqb (code_of p) 0x12)
unfolding rules
unit_asked = exactly (λ rule. rule.asked.unit) (λ code. not (eqb code 0x12)) refl
