-- Paper 01, "Answers from the block buffer": the five answers, whole.
use Rattle.std.specs.Prelude.{◌∷◌, ◌++◌, ◌-◌}
use Rattle.ground.specs.Kit.{Bool, cond, List, ℕ, eqb, set}
use Rattle.disc.specs.Formats.{format_of, heads}
use Rattle.state.specs.declared.Sense as sense
use Rattle.ground.specs.Bytes.{zeros, be2, be3, be4, text}

-- "03, 18 bytes: 70, 0, key, four 0, 0A, four 0, code, qualifier, four 0."
unfoldable pub sense_data : sense.Sense → List ℕ
sense_data s = 0x70 ∷ 0 ∷ s.0 ∷ zeros 4 ++ 0x0a ∷ zeros 4 ++ s.1 ∷ s.2 ∷ zeros 4

-- "12, 36 bytes: 00, 80, 00, 01, 1F, three 0, `EPHEMERA`, `ELEMENT DISC` and four spaces, `0100`."
unfoldable pub inquiry_data : List ℕ
inquiry_data =
    0x00 ∷ 0x80 ∷ 0x00 ∷ 0x01 ∷ 0x1f ∷ zeros 3 ++ text "EPHEMERA" ++ text "ELEMENT DISC" ++ text "    " ++ text "0100"

-- and of another unit by Req 02: "with a nonzero unit byte 0 of the answer is 1F, the other 35 bytes are unchanged"
abbrev pub inquiry_to : ℕ → List ℕ
inquiry_to unit = cond (eqb unit 0) inquiry_data (set inquiry_data 0 0x1f)

-- "25, 8 bytes: last block address, block length"
unfoldable pub capacity_data : ℕ → List ℕ
capacity_data number = be4 ((format_of number).blocks - 1) ++ be4 (format_of number).size

-- "descriptors: blocks (4 bytes), code, block length (3 bytes)"
abbrev descriptor : ℕ → ℕ → ℕ → List ℕ
descriptor blocks code size = be4 blocks ++ code ∷ be3 size

abbrev own : ℕ → ℕ → List ℕ
own number code = descriptor (format_of number).blocks code (format_of number).size

-- "With a disc: its own with code 2, then its own with code 0; length 16, 20 bytes in all."
unfoldable pub with_disc_data : ℕ → List ℕ
with_disc_data number = zeros 3 ++ 16 ∷ own number 2 ++ own number 0

-- "Without: 2880 of 512 with code 3; length 8, 12 bytes in all."
unfoldable pub without_disc_data : List ℕ
without_disc_data = zeros 3 ++ 8 ∷ descriptor 2880 3 512

-- "23: three 0, list length, then descriptors"
unfoldable pub capacities_data : ℕ → List ℕ
capacities_data number = cond (eqb number 0) without_disc_data (with_disc_data number)

-- "5A, 40 bytes: header 00 26, medium type, 80 if protected else 00, four 0"
abbrev header : ℕ → Bool → List ℕ
header number prot = 0x00 ∷ 0x26 ∷ (format_of number).medium ∷ cond prot 0x80 0x00 ∷ zeros 4

-- "rate (2), 02, sectors, block length (2), cylinders (2), zeros, 05 at byte 19, 1E at byte 20, rpm at 28-29, zeros"
abbrev page : ℕ → List ℕ
page number =
    be2 (format_of number).rate
    ++ heads ∷ (format_of number).sectors ∷ be2 (format_of number).size
    ++ be2 (format_of number).cylinders
    ++ zeros 9
    ++ 0x05 ∷ 0x1e ∷ zeros 7
    ++ be2 (format_of number).rpm
    ++ zeros 2

-- "Page control 1 gives zeros in page bytes 2-31; 0 and 2 give the table. 3F gives page 05 only."
unfoldable pub mode_data : ℕ → Bool → Bool → List ℕ
mode_data number prot changeable = header number prot ++ 0x05 ∷ 0x1e ∷ cond changeable (zeros 30) (page number)
