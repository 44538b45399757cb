-- INQUIRY to whatever unit, and any other command to a unit that isn't there. Assumes nothing.
use Rattle.std.specs.Prelude.{◌≡◌, ◌||◌, ◌∷◌, ◌++◌, ◌*◌, ◌/◌, ◌%◌, ◌<◌, Option, Some, None, Ok, Err, is_some}
use Rattle.ground.specs.Kit.{refl, sym, ◌∙◌, Bool, true, false, cond, not, false≢true, List, ℕ, zero, suc, min, arith, bit_and, and_mask, not-true, lt-ltb, eq-eqb, ne_eqb, eqb-true, eqb-false, eqb, take, drop, set}
use Rattle.state.specs.declared.{Media.Media, Host.Host}
use Rattle.packet.specs.declared.{Rule.Rule}
use Rattle.ground.specs.Bytes.{byte_at}
use Rattle.disc.specs.Formats.{buffer_bytes}
use Rattle.disc.specs.Masks.{masks, mask_row}
use Rattle.state.specs.Senses.{no_sense, other_unit, bad_field}
use Rattle.state.specs.States.{obeyed_of}
use Rattle.packet.specs.Fields.{length_of}
use Rattle.packet.specs.Rules.{asking_of, rules, code_of, rule_of}
use Rattle.packet.specs.declared.Values.TheVariants.{Any}
use Rattle.packet.specs.declared.Field.TheVariants.{Byte4}
use Rattle.packet.specs.declared.Answering.TheVariants.{Inquiry}
use Rattle.packet.specs.declared.Routine.TheVariants.{Answer}
use Rattle.packet.proofs.BaseCommands.{unit_asked}
use Rattle.checks.specs.Verdicts.{bits_b, in_mask_b, checks_of, Verdict, verdict}
use Rattle.checks.proofs.Below.{one_fails, below_at}
use Rattle.answer.specs.Answers.{inquiry_data}
use Rattle.answer.specs.Giving.{answer_of, allocation_of, give_of}
use Rattle.house.specs.World.{World}
use Rattle.house.proofs.Houses.{command_admits}
use Rattle.commands.specs.Obeying.{performed_of, reply_to}
use Rattle.drive.specs.Calls.{Command, house_of, call_of}
use Rattle.drive.specs.Theorems.{InquiryByMask, LowBitsFail, scan_packet, ScanPasses, ToAnotherUnit, OthersFailAtB}
use Rattle.drive.proofs.Calling.{accepted}

-- the rule of 12
abbrev inquiry : Rule
inquiry = record { row = 3; asked = asking_of false false false false false; values = Any; length = Byte4; routine = Answer Inquiry }

-- what holds of passing within the mask and of failing at E outside it holds of the verdict on INQUIRY
by_mask : (m : Media) (h : Host) (p : List ℕ) → code_of p ≡ 0x12 → (P : Verdict → Type 0)
    → (in_mask_b p 3 ≡ true → P (Ok inquiry)) → (in_mask_b p 3 ≡ false → P (Err bad_field)) → P (verdict m h p)
unfolding verdict rules rule_of checks_of
by_mask m h p code P passes fails = rw code (here (in_mask_b p 3) refl)
  where
    here : (b : Bool) → in_mask_b p 3 ≡ b → P (cond (not b) (Err bad_field) (Ok inquiry))
    here true q = passes q
    here false q = fails q

pub inquiry_by_mask : InquiryByMask
unfolding performed_of obeyed_of
inquiry_by_mask w p code none =
    rw (accepted w (Command p) none) (by_mask w.state.media w.state.host p code ByMask (λ q. rw q (refl, refl)) (λ q. rw q (refl, refl)))
  where
    ByMask : Verdict → Type 0
    ByMask v = let h = (reply_to v w p).heard in (h.passed ≡ in_mask_b p 3) × (h.sense ≡ cond (in_mask_b p 3) no_sense bad_field)

-- ---- bits outside the mask

-- any of bits 4-0 of byte 1
low_out : (p : List ℕ) → byte_at p 1 < 256 → (byte_at p 1 % 32 ≡ 0 → ⊥) → in_mask_b p 3 ≡ false
unfolding in_mask_b masks mask_row
low_out p byte low =
    let x = byte_at p 1 in
    let each = below_at (λ y. eqb (y % 32) 0 || not (eqb (bit_and y 0xe0) y)) 256 x (lt-ltb x 256 byte) refl in
    one_fails (bits_b p (mask_row 3)) 12 1 (omega arith) (not-true (eqb (bit_and x 0xe0) x) (rw (ne_eqb (x % 32) 0 low) at each))

pub low_bits_fail : LowBitsFail
low_bits_fail w p code byte low none = rw (low_out p byte low) at (inquiry_by_mask w p code none)

-- ---- the scan

module _ (unit allocation : ℕ) (low : unit < 8) (small : allocation < 256) where
  abbrev scan : List ℕ
  scan = scan_packet unit allocation

  unit_in : bits_b scan (mask_row 3) 1 ≡ true
  unfolding masks mask_row
  unit_in = below_at (λ u. bits_b (scan_packet u allocation) (mask_row 3) 1) 8 unit (lt-ltb unit 8 low) refl

  allocation_in : bits_b scan (mask_row 3) 4 ≡ true
  unfolding masks mask_row
  allocation_in = eq-eqb (bit_and allocation 0xff) allocation (and_mask allocation 8 ∙ omega arith)

  in_mask : in_mask_b scan 3 ≡ true
  unfolding in_mask_b masks mask_row
  in_mask = rw (unit_in, allocation_in)

  scanned : (w : World) → house_of w (Command scan) ≡ 0 → call_of w (Command scan) ≡ reply_to (Ok inquiry) w scan
  scanned w none =
      accepted w (Command scan) none
      ∙ by_mask w.state.media w.state.host scan refl (λ v. reply_to v w scan ≡ reply_to (Ok inquiry) w scan)
      (λ _. refl)
      (λ out. absurd (false≢true (sym out ∙ in_mask)))

pub scan_passes : ScanPasses
scan_passes w unit allocation low small none = rw (scanned unit allocation low small w none)

-- a start of two lists that differ in their first byte, put into a buffer
put_typed : (x y : ℕ) (xs buffer : List ℕ) (none : Bool) (n : ℕ) → (none ≡ true → n ≡ 0) → (none ≡ false → 0 < n)
    → let put = take n (x ∷ xs) ++ drop n buffer in
    take n (y ∷ xs) ++ drop n buffer ≡ cond none put (set put 0 y)
put_typed x y xs buffer true n closed some = rw (closed refl)
put_typed x y xs buffer false zero closed some = absurd (omega (arith, some refl))
put_typed x y xs buffer false (suc n) closed some = refl

pub to_another_unit : ToAnotherUnit
unfolding performed_of obeyed_of length_of give_of answer_of allocation_of inquiry_data
to_another_unit w unit allocation other low small none =
    let long = ((command_admits w (scan_packet 0 allocation)).0 none).1.buffer in
    let own : unit * 32 / 32 ≡ unit = omega arith in
    let n = min (min allocation 36) buffer_bytes in
    rw (
      scanned 0 allocation (omega arith) small w none,
      scanned unit allocation low small w none,
      own,
      ne_eqb unit 0 (λ e. omega arith),
      long,
      put_typed 0x00 0x1f (drop 1 inquiry_data) w.buffer (eqb allocation 0) n
          (λ e. let z = eqb-true allocation 0 e in omega arith)
          (λ e. let z = eqb-false allocation 0 e in omega arith),
    )

-- ---- any other command

at_b : (m : Media) (h : Host) (p : List ℕ) (k : Option Rule) → (code_of p ≡ 0x12 → ⊥) → rule_of p ≡ k → is_some k ≡ true → (byte_at p 1 / 32 ≡ 0 → ⊥)
    → verdict m h p ≡ Err other_unit
unfolding verdict checks_of
at_b m h p None other known base unit = absurd (false≢true base)
at_b m h p (Some rule) other known base unit =
    rw (known, unit_asked p rule known, ne_eqb (code_of p) 0x12 other, ne_eqb (byte_at p 1 / 32) 0 unit)

pub others_fail_at_b : OthersFailAtB
unfolding obeyed_of
others_fail_at_b w p other base unit none =
    let fails = at_b w.state.media w.state.host p (rule_of p) other refl base (λ e. omega arith) in
    rw (accepted w (Command p) none, fails) (refl, refl)
