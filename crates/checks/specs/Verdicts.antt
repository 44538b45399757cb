-- Paper 01, "A command": "the first check to fail gives the sense".
use Rattle.std.specs.Prelude.{◌&&◌, ◌||◌, ◌∷◌, ◌+◌, ◌/◌, ◌%◌, Option, Some, None, Result, Ok, Err}
use Rattle.ground.specs.Kit.{Bool, true, false, not, List, [], ℕ, zero, suc, bit_and, eqb, leb, ltb}
use Rattle.disc.specs.declared.{BlockAddress.BlockAddress}
use Rattle.state.specs.declared.{Sense.Sense, Media.Media, Host.Host}
use Rattle.packet.specs.declared.{Values.Values, Rule.Rule}
use Rattle.disc.specs.Formats.{format_of}
use Rattle.disc.specs.Masks.{mask_row}
use Rattle.ground.specs.First.{first}
use Rattle.ground.specs.Bytes.{byte_at}
use Rattle.state.specs.Senses.{unknown_code, other_unit, power_told, change_told, no_disc, bad_field, not_saved, out_of_range, is_protected}
use Rattle.state.specs.States.{list_bytes}
use Rattle.packet.specs.Fields.{address_of, length_of}
use Rattle.packet.specs.Rules.{rule_of}
use Rattle.packet.specs.declared.Values.TheVariants.{Any, ZeroBits, Page, FormatUnit}
use Rattle.packet.specs.declared.Field.TheVariants.{Bytes7To8}

-- not B: "unit number (byte 1, bits 7-5) is 0"
abbrev pub other_unit_b : List ℕ → Bool
other_unit_b p = not (eqb (byte_at p 1 / 32) 0)

-- E: "no bit set outside the mask", at one byte and at each below n
abbrev pub bits_b : List ℕ → List ℕ → ℕ → Bool
bits_b p masks i = eqb (bit_and (byte_at p i) (byte_at masks i)) (byte_at p i)

abbrev pub below_b : (ℕ → Bool) → ℕ → Bool
below_b f zero = true
below_b f (suc n) = below_b f n && f n

unfoldable pub in_mask_b : List ℕ → ℕ → Bool
in_mask_b p row = below_b (bits_b p (mask_row row)) 12

-- not F of 04, Req 03: "17 in byte 1 bits 4-0, list length 12 and a track (byte 2) not past the last cylinder" of the disc that is in
abbrev pub bad_format_b : ℕ → List ℕ → Bool
bad_format_b number p =
    not (eqb (byte_at p 1 % 32) 0x17)
    || not (eqb (length_of Bytes7To8 p) list_bytes)
    || leb (format_of number).cylinders (byte_at p 2)

-- not F: "1B has byte 4 bit 1 zero; 1E has byte 4 bit 0 zero; 5A has page (byte 2, bits 5-0) 05 or 3F"
abbrev pub bad_value_b : ℕ → Values → List ℕ → Bool
bad_value_b number Any p = false
bad_value_b number (ZeroBits bits) p = not (eqb (bit_and (byte_at p 4) bits) 0)
bad_value_b number Page p = not (eqb (byte_at p 2 % 64) 0x05) && not (eqb (byte_at p 2 % 64) 0x3f)
bad_value_b number FormatUnit p = bad_format_b number p

-- not F2: "5A has page control (byte 2, bits 7-6) not 3"
abbrev pub bad_control_b : Values → List ℕ → Bool
bad_control_b Any p = false
bad_control_b (ZeroBits bits) p = false
bad_control_b Page p = eqb (byte_at p 2 / 64) 3
bad_control_b FormatUnit p = false

-- not G: "address at most the last block, and address plus length at most the block count"
abbrev pub past_end_b : ℕ → BlockAddress → ℕ → Bool
past_end_b number from count = leb (format_of number).blocks from.0 || ltb (format_of number).blocks (from.0 + count)

-- whether a check fails, and the triple that it then gives
pub record Check : Type 0 where
  pub fails : Bool
  pub sense : Sense

infix 20 ◌gives◌
abbrev pub ◌gives◌ : Bool → Sense → Check
fails gives sense = record { fails = fails; sense = sense }

-- B to H of a base command
unfoldable pub checks_of : Media → Host → Rule → List ℕ → List Check
checks_of m h rule p =
    -- B
    (rule.asked.unit && other_unit_b p gives other_unit)
    -- C
    ∷ (rule.asked.attention && h.power gives power_told)
    ∷ (rule.asked.attention && h.change gives change_told)
    -- D
    ∷ (rule.asked.disc && eqb m.disc 0 gives no_disc)
    -- E
    ∷ (not (in_mask_b p rule.row) gives bad_field)
    -- F
    ∷ (bad_value_b m.disc rule.values p gives bad_field)
    -- F2
    ∷ (bad_control_b rule.values p gives not_saved)
    -- G
    ∷ (rule.asked.range && past_end_b m.disc (address_of p) (length_of rule.length p) gives out_of_range)
    -- H
    ∷ (rule.asked.unprotected && m.protected gives is_protected)
    ∷ []

-- "the first check to fail gives the sense"
abbrev pub fails_b : Check → Bool
fails_b c = c.fails

-- the rule by which a packet passes, or the sense of the check that it fails
abbrev pub Verdict : Type 0
Verdict = Result Rule Sense

abbrev pub failing : Check → Verdict
failing c = Err c.sense

abbrev pub first_of : List Check → Rule → Verdict
first_of cs rule = first fails_b failing cs (Ok rule)

-- A: "the operation code is a base command", then the others
abbrev pub verdict_of : Option Rule → Media → Host → List ℕ → Verdict
verdict_of None m h p = Err unknown_code
verdict_of (Some rule) m h p = first_of (checks_of m h rule p) rule

unfoldable pub verdict : Media → Host → List ℕ → Verdict
verdict m h p = verdict_of (rule_of p) m h p
