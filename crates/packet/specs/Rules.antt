-- The base commands: by operation code the row of the masks, the check set, and what is done.
use Rattle.std.specs.Prelude.{◌∷◌, Option, Some, None}
use Rattle.ground.specs.Kit.{Bool, true, false, List, [], ℕ}
use Rattle.packet.specs.declared.{Asked.Asked, Values.Values, Field.Field, Rule.Rule, Routine.Routine}
use Rattle.ground.specs.Bytes.{byte_at}
use Rattle.ground.specs.Tables.{Entry, ◌is◌, find}
use Rattle.packet.specs.declared.Values.TheVariants.{Any, ZeroBits, Page, FormatUnit}
use Rattle.packet.specs.declared.Field.TheVariants.{Nowhere, Byte4, Bytes7To8, Bytes6To9}
use Rattle.packet.specs.declared.Answering.TheVariants.{Sense, Inquiry, FormatCapacities, Capacity, Mode}
use Rattle.packet.specs.declared.Routine.TheVariants.{Nothing, Motor, Answer, Read, Write, ParameterList}

-- whether B, C, D, G and H are asked
abbrev pub asking_of : Bool → Bool → Bool → Bool → Bool → Asked
asking_of b c d g h = record { unit = b; attention = c; disc = d; range = g; unprotected = h }

-- a check that is asked, by its letter, and one that isn't
abbrev B : Bool
B = true

abbrev C : Bool
C = true

abbrev D : Bool
D = true

abbrev G : Bool
G = true

abbrev H : Bool
H = true

abbrev no : Bool
no = false

abbrev pub base_of : ℕ → Asked → Values → Field → Routine → Option Rule
base_of row asked values length routine =
    Some (record { row = row; asked = asked; values = values; length = length; routine = routine })

-- "Base commands: 00 01 03 12 1B 1E 23 25 28 2A 2B 2E 2F 5A A8 AA (hex)."
-- B: "for every command", replaced by Req 02: "Check B no longer applies to code 12"
-- C: "not for 03 and 12"; D: "not for 03, 12, 1B, 1E, 23"
-- F: "1B has byte 4 bit 1 zero; 1E has byte 4 bit 0 zero; 5A has page .."; H: "2A, 2E, AA"
-- "G applies to 28, 2A, 2E, 2F, A8, AA; for 2B the length counts as 0."
-- Req 03: "Add code 04"; "Check F asks for ..; protection is check H"
unfoldable pub rules : List (Entry (Option Rule))
rules =
    (0x00 is base_of 0 (asking_of B C D no no) Any Nowhere Nothing)
    ∷ (0x01 is base_of 1 (asking_of B C D no no) Any Nowhere Nothing)
    ∷ (0x03 is base_of 2 (asking_of B no no no no) Any Byte4 (Answer Sense))
    ∷ (0x12 is base_of 3 (asking_of no no no no no) Any Byte4 (Answer Inquiry))
    ∷ (0x1b is base_of 4 (asking_of B C no no no) (ZeroBits 0x02) Nowhere Motor)
    ∷ (0x1e is base_of 5 (asking_of B C no no no) (ZeroBits 0x01) Nowhere Nothing)
    ∷ (0x23 is base_of 6 (asking_of B C no no no) Any Bytes7To8 (Answer FormatCapacities))
    ∷ (0x25 is base_of 7 (asking_of B C D no no) Any Nowhere (Answer Capacity))
    ∷ (0x28 is base_of 8 (asking_of B C D G no) Any Bytes7To8 Read)
    ∷ (0x2a is base_of 9 (asking_of B C D G H) Any Bytes7To8 Write)
    ∷ (0x2b is base_of 10 (asking_of B C D G no) Any Nowhere Nothing)
    ∷ (0x2e is base_of 11 (asking_of B C D G H) Any Bytes7To8 Write)
    ∷ (0x2f is base_of 12 (asking_of B C D G no) Any Bytes7To8 Nothing)
    ∷ (0x5a is base_of 13 (asking_of B C D no no) Page Bytes7To8 (Answer Mode))
    ∷ (0xa8 is base_of 14 (asking_of B C D G no) Any Bytes6To9 Read)
    ∷ (0xaa is base_of 15 (asking_of B C D G H) Any Bytes6To9 Write)
    ∷ (0x04 is base_of 16 (asking_of B C D no H) FormatUnit Bytes7To8 ParameterList)
    ∷ []

-- the operation code, and the rule of the command that it is
abbrev pub code_of : List ℕ → ℕ
code_of p = byte_at p 0

unfoldable pub rule_of : List ℕ → Option Rule
rule_of p = find (code_of p) rules None
