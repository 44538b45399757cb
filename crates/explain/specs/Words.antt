-- The words of an explanation: the names of the commands, why a command failed, why a call was refused.
use Rattle.std.specs.Prelude.{◌∷◌, ◌++◌}
use Rattle.ground.specs.Kit.{cond, List, [], ℕ, eqb, ltb}
use Rattle.std.specs.Borrow.{Bor}
use Rattle.state.specs.declared.{Sense.Sense}
use Rattle.ground.specs.Bytes.{text}
use Rattle.ground.specs.Tables.{Entry, ◌is◌, find}
use Rattle.state.specs.Senses.{unknown_code, other_unit, power_told, change_told, no_disc, bad_field, not_saved, out_of_range, is_protected, bad_list, named_b}
use Rattle.text.specs.Numbers.{hex_of, decimal_of}

-- by operation code
unfoldable pub names : List (Entry (List ℕ))
names =
    (0x00 is text "TEST UNIT READY")
    ∷ (0x01 is text "REZERO UNIT")
    ∷ (0x03 is text "REQUEST SENSE")
    ∷ (0x04 is text "FORMAT UNIT")
    ∷ (0x12 is text "INQUIRY")
    ∷ (0x1b is text "START STOP UNIT")
    ∷ (0x1e is text "PREVENT REMOVAL")
    ∷ (0x23 is text "READ FORMAT CAPACITIES")
    ∷ (0x25 is text "READ CAPACITY")
    ∷ (0x28 is text "READ (10)")
    ∷ (0x2a is text "WRITE (10)")
    ∷ (0x2b is text "SEEK")
    ∷ (0x2e is text "WRITE AND VERIFY")
    ∷ (0x2f is text "VERIFY")
    ∷ (0x5a is text "MODE SENSE")
    ∷ (0xa8 is text "READ (12)")
    ∷ (0xaa is text "WRITE (12)")
    ∷ []

unfoldable pub name_text : ℕ → List ℕ
name_text code = find code names []

abbrev pub code_text : ℕ → List ℕ
code_text code = text "code " ++ hex_of code

-- why a command failed, or a list: the triples that the paper names differ in their additional code
unfoldable pub whys : List (Entry (List ℕ))
whys =
    (unknown_code.1 is text "not one of the seventeen codes")
    ∷ (other_unit.1 is text "unit number not 0")
    ∷ (power_told.1 is text "power-on reported")
    ∷ (change_told.1 is text "change of disc reported")
    ∷ (no_disc.1 is text "no disc is in")
    ∷ (bad_field.1 is text "a bit or value that is not allowed")
    ∷ (not_saved.1 is text "saved values are not kept")
    ∷ (out_of_range.1 is text "past the last block")
    ∷ (is_protected.1 is text "the disc is protected")
    ∷ (bad_list.1 is text "the parameter list is refused")
    ∷ []

unfoldable pub sense_text : Sense → List ℕ
sense_text s = text "sense " ++ hex_of s.0 ++ text " " ++ hex_of s.1 ++ text " " ++ hex_of s.2

unfoldable pub why_text : Sense → List ℕ
why_text s = cond (named_b s) (find s.1 whys []) (sense_text s)

-- why a call was refused, by its house number
unfoldable pub reasons : List (Entry (List ℕ))
reasons =
    (1 is text "the packet has not 12 bytes")
    ∷ (2 is text "the state is not sound")
    ∷ (3 is text "the block buffer has not 1,024 bytes")
    ∷ (4 is text "the lent disc has another length")
    ∷ (5 is text "a disc is in")
    ∷ (6 is text "no disc is in")
    ∷ (7 is text "no disc has that number")
    ∷ []

abbrev pub house_text : ℕ → List ℕ
house_text house = text "house number " ++ decimal_of house

unfoldable pub reason_text : ℕ → List ℕ
reason_text house = cond (ltb 7 house) (house_text house) (find house reasons [])

-- the words of a key in a table as the code has it
abbrev pub row_text : ℕ → List (ℕ × Bor (List ℕ)) → List ℕ
row_text key [] = []
row_text key (row ∷ rows) = cond (eqb key row.0) row.1.now (row_text key rows)
