-- What the table of discs has to satisfy; proved in proofs/Discs.
use Rattle.std.specs.Prelude.{◌≡◌, ◌∷◌, ◌+◌, ◌*◌, ◌≤◌, ◌<◌}
use Rattle.ground.specs.Kit.{[], map, ℕ}
use Rattle.disc.specs.Formats.{format_of, heads, buffer_bytes, block_bytes, disc_bytes}

-- the column "disc bytes", and 0 for no disc
abbrev pub DiscBytesColumn : Type 0
DiscBytesColumn = map disc_bytes (0 ∷ 1 ∷ 2 ∷ 3 ∷ 4 ∷ []) ≡ 0 ∷ 737280 ∷ 1261568 ∷ 1474560 ∷ 32768 ∷ []

-- cylinders, heads and sectors make up the blocks
abbrev pub Geometry : Type 0
Geometry = (number : ℕ) → (format_of number).blocks ≡ (format_of number).cylinders * heads * (format_of number).sectors

-- a block fits the block buffer
abbrev pub BlockFits : Type 0
BlockFits = (number : ℕ) → block_bytes number ≤ buffer_bytes

-- a disc's block is not empty
abbrev pub BlockHolds : Type 0
BlockHolds = (number : ℕ) → 0 < number → number ≤ 4 → 0 < block_bytes number

-- a disc's track is not empty
abbrev pub TrackHolds : Type 0
TrackHolds = (number : ℕ) → 0 < number → number ≤ 4 → 0 < (format_of number).sectors

-- the blocks of a side of one of its cylinders' tracks are on the disc, from "(track times 2 plus side) times sectors per track" on
abbrev pub TrackWithin : Type 0
TrackWithin =
    (number track side : ℕ) → track < (format_of number).cylinders → side < heads
    → let sectors = (format_of number).sectors in
    (track * heads + side) * sectors + sectors ≤ (format_of number).blocks
