-- Paper 01, "Masks of allowed bits".
use Rattle.std.specs.Prelude.{◌∷◌, ◌++◌, ◌-◌}
use Rattle.ground.specs.Kit.{List, [], ℕ, suc, get_or, take, drop, set, replicate}

-- "Byte 1 is E0 unless given; bytes not given are 00", "Byte 0 has no mask"
abbrev none : List ℕ
none = 0xff ∷ 0xe0 ∷ replicate 10 0

-- bytes i to j are FF
abbrev ff : ℕ → ℕ → List ℕ → List ℕ
ff i j row = take i row ++ replicate (suc j - i) 0xff ++ drop (suc j) row

-- a row for each base command of paper 01 in the order of the codes, and behind them that of 04
unfoldable pub masks : List (List ℕ)
masks =
    -- 00, 01: none
    none
    ∷ none
    -- 03, 12: byte 4 FF
    ∷ ff 4 4 none
    ∷ ff 4 4 none
    -- 1B: byte 1 E1, byte 4 03
    ∷ set (set none 1 0xe1) 4 0x03
    -- 1E: byte 4 01
    ∷ set none 4 0x01
    -- 23: bytes 7-8 FF
    ∷ ff 7 8 none
    -- 25: none
    ∷ none
    -- 28, 2A: bytes 2-5 and 7-8 FF
    ∷ ff 2 5 (ff 7 8 none)
    ∷ ff 2 5 (ff 7 8 none)
    -- 2B: bytes 2-5 FF
    ∷ ff 2 5 none
    -- 2E, 2F: bytes 2-5 and 7-8 FF
    ∷ ff 2 5 (ff 7 8 none)
    ∷ ff 2 5 (ff 7 8 none)
    -- 5A: byte 1 E8, bytes 2, 7, 8 FF
    ∷ set (ff 2 2 (ff 7 8 none)) 1 0xe8
    -- A8, AA: bytes 2-9 FF
    ∷ ff 2 9 none
    ∷ ff 2 9 none
    -- Req 03, 04: "byte 1 FF, bytes 2, 7, 8 FF"
    ∷ ff 1 2 (ff 7 8 none)
    ∷ []

-- past the table nothing may be set
unfoldable pub mask_row : ℕ → List ℕ
mask_row row = get_or masks row (replicate 12 0)
