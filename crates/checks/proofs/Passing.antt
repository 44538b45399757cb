-- What a verdict says: a command that passes has a rule and passed each of its checks, one that fails gives a named triple. Assumes nothing.
use Rattle.std.specs.Prelude.{◌≡◌, ◌&&◌, ◌||◌, ◌+◌, ◌%◌, ◌≤◌, ◌<◌, Option, Some, None, Ok, Err}
use Rattle.ground.specs.Kit.{refl, ap, Bool, true, false, false≢true, not, List, ℕ, arith, not-false, eqb-false, leb-false, ltb-false, eqb, leb, ltb}
use Rattle.state.specs.declared.{Sense.Sense, Media.Media, Host.Host}
use Rattle.packet.specs.declared.{Values.Values, Rule.Rule}
use Rattle.ground.specs.Bytes.{byte_at}
use Rattle.ground.proofs.Truth.{neither, implies}
use Rattle.ground.proofs.First.{none_failed, outcome_passes}
use Rattle.ground.proofs.Tables.{all}
use Rattle.disc.specs.Formats.{format_of}
use Rattle.state.specs.Senses.{no_sense, unknown_code, same_b, named_b}
use Rattle.state.specs.States.{list_bytes}
use Rattle.packet.specs.Fields.{address_of, length_of}
use Rattle.packet.specs.Rules.{rule_of}
use Rattle.packet.specs.declared.Values.TheVariants.{Any, ZeroBits, Page, FormatUnit}
use Rattle.packet.specs.declared.Field.TheVariants.{Bytes7To8}
use Rattle.packet.proofs.BaseCommands.{opens_b, writes_b, lists_b, formats_b, guarded}
use Rattle.checks.specs.Verdicts.{other_unit_b, in_mask_b, bad_format_b, bad_value_b, past_end_b, fails_b, failing, checks_of, Verdict, verdict_of, verdict}

abbrev pub passes_b : Verdict → Bool
passes_b (Ok rule) = true
passes_b (Err sense) = false

-- the checks A to H hold; of F2 nobody asks
pub record Passed (m : Media) (h : Host) (p : List ℕ) (rule : Rule) : Type 0 where
  pub known : rule_of p ≡ Some rule
  pub unit : (rule.asked.unit && other_unit_b p) ≡ false
  pub power : (rule.asked.attention && h.power) ≡ false
  pub change : (rule.asked.attention && h.change) ≡ false
  pub disc : (rule.asked.disc && eqb m.disc 0) ≡ false
  pub mask : in_mask_b p rule.row ≡ true
  pub value : bad_value_b m.disc rule.values p ≡ false
  pub range : (rule.asked.range && past_end_b m.disc (address_of p) (length_of rule.length p)) ≡ false
  pub unprotected : (rule.asked.unprotected && m.protected) ≡ false

module _ (m : Media) (h : Host) (p : List ℕ) where
  pub passed : (rule : Rule) → verdict m h p ≡ Ok rule → Passed m h p rule
  unfolding verdict checks_of
  passed rule e = here (rule_of p) refl e
    where
      here : (k : Option Rule) → rule_of p ≡ k → verdict_of k m h p ≡ Ok rule → Passed m h p rule
      here None q f = absurd (let z : ◌≡◌ {A = ℕ} 0 1 = cc in omega arith)
      here (Some own) q v =
          let (b, outcome) = none_failed fails_b failing passes_b (checks_of m h own p) (Ok own) refl (ap passes_b v) in
          let c = b.1 in
          let d = c.1.1 in
          let f = d.1.1 in
          let g = f.1.1 in
          let same : own ≡ rule = cc in
          let all : Passed m h p own = record {
            known = q;
            unit = b.0;
            power = c.0;
            change = c.1.0;
            disc = d.0;
            mask = not-false (in_mask_b p own.row) d.1.0;
            value = f.0;
            range = g.0;
            unprotected = g.1.0;
          } in
          rw same at all

  -- what the triple of each check passes, a triple that is given passes
  abbrev given_b : (Sense → Bool) → Verdict → Bool
  given_b test (Ok rule) = true
  given_b test (Err sense) = test sense

  given_passes : (test : Sense → Bool) → test unknown_code ≡ true → ((rule : Rule) → all (λ c. test c.sense) (checks_of m h rule p) ≡ true) → (sense : Sense)
      → verdict m h p ≡ Err sense → test sense ≡ true
  unfolding verdict
  given_passes test unknown each sense e = rw e at (here (rule_of p))
    where
      here : (k : Option Rule) → given_b test (verdict_of k m h p) ≡ true
      here None = unknown
      here (Some rule) = outcome_passes fails_b failing (given_b test) (checks_of m h rule p) (Ok rule) (each rule) refl

  pub gives_named : (sense : Sense) → verdict m h p ≡ Err sense → named_b sense ≡ true
  unfolding checks_of named_b
  gives_named = given_passes named_b refl (λ _. refl)

  pub gives_told : (sense : Sense) → verdict m h p ≡ Err sense → not (same_b sense no_sense) ≡ true
  unfolding checks_of
  gives_told = given_passes (λ s. not (same_b s no_sense)) refl (λ _. refl)

-- ---- what opens blocks: a disc is in, its blocks are on it, and a write finds no protection

module _ {m : Media} {h : Host} {p : List ℕ} {rule : Rule} (passes : Passed m h p rule) (opens : opens_b rule.routine ≡ true) where
  pub disc_in : m.disc ≡ 0 → ⊥
  disc_in =
      eqb-false m.disc 0
      (rw opens at (implies (opens_b rule.routine) rule.asked.disc (eqb m.disc 0) (guarded p rule passes.known).disc passes.disc))

  pub in_range : (address_of p).0 + length_of rule.length p ≤ (format_of m.disc).blocks
  in_range =
      let last = (format_of m.disc).blocks in
      let from = (address_of p).0 in
      let n = length_of rule.length p in
      let past = past_end_b m.disc (address_of p) n in
      let g = rw opens at (implies (opens_b rule.routine) rule.asked.range past (guarded p rule passes.known).range passes.range) in
      ltb-false last (from + n) (neither (leb last from) (ltb last (from + n)) g).1

pub bare : {m : Media} {h : Host} {p : List ℕ} {rule : Rule} → Passed m h p rule → writes_b rule.routine ≡ true → m.protected ≡ false
bare {m} {h} {p} {rule} passes writes =
    rw writes at (implies (writes_b rule.routine) rule.asked.unprotected m.protected (guarded p rule passes.known).unprotected passes.unprotected)

-- ---- what opens a list: a disc is in, its track is on it, and it is not protected

-- 04 alone asks for these fields
format_fields : (v : Values) (number : ℕ) (p : List ℕ) → formats_b v ≡ true → bad_value_b number v p ≡ false → bad_format_b number p ≡ false
format_fields Any number p e bad = absurd (false≢true e)
format_fields (ZeroBits bits) number p e bad = absurd (false≢true e)
format_fields Page number p e bad = absurd (false≢true e)
format_fields FormatUnit number p e bad = bad

module _ {m : Media} {h : Host} {p : List ℕ} {rule : Rule} (passes : Passed m h p rule) (lists : lists_b rule.routine ≡ true) where
  pub list_bare : m.protected ≡ false
  list_bare =
      rw lists at
      (implies (lists_b rule.routine) rule.asked.unprotected m.protected (guarded p rule passes.known).list_unprotected passes.unprotected)

  pub list_in : m.disc ≡ 0 → ⊥
  list_in =
      eqb-false m.disc 0
      (rw lists at (implies (lists_b rule.routine) rule.asked.disc (eqb m.disc 0) (guarded p rule passes.known).list_disc passes.disc))

  pub on_track : byte_at p 2 < (format_of m.disc).cylinders
  on_track =
      let fields = rw lists at (guarded p rule passes.known).list_fields in
      let wrong = not (eqb (byte_at p 1 % 32) 0x17) || not (eqb (length_of Bytes7To8 p) list_bytes) in
      let past = leb (format_of m.disc).cylinders (byte_at p 2) in
      leb-false (format_of m.disc).cylinders (byte_at p 2) (neither wrong past (format_fields rule.values m.disc p fields passes.value)).1
