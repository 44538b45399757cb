-- Paper 01, "Discs".
use Rattle.std.specs.Prelude.{◌∷◌, ◌*◌}
use Rattle.ground.specs.Kit.{List, [], ℕ, get_or}
use Rattle.disc.specs.declared.{Format.Format, BlockAddress.BlockAddress, BytePlace.BytePlace}

-- a row: blocks, block bytes, sectors a track, cylinders, rate, rpm, medium type
abbrev row : ℕ → ℕ → ℕ → ℕ → ℕ → ℕ → ℕ → Format
row blocks size sectors cylinders rate rpm medium =
    record {
      blocks = blocks;
      size = size;
      sectors = sectors;
      cylinders = cylinders;
      rate = rate;
      rpm = rpm;
      medium = medium;
    }

-- "Number 0 means no disc."
abbrev pub no_format : Format
no_format = row 0 0 0 0 0 0 0

-- 1 to 4
abbrev pub discs : List Format
discs =
    row 1440 512 9 80 250 300 0x1e
    ∷ row 1232 1024 8 77 500 360 0x93
    ∷ row 2880 512 18 80 500 300 0x94
    ∷ row 64 512 8 4 250 300 0x00
    ∷ []

-- by number
abbrev pub formats : List Format
formats = no_format ∷ discs

-- "Heads are 2."
abbrev pub heads : ℕ
heads = 2

-- "The block buffer is exactly 1,024 bytes."
abbrev pub buffer_bytes : ℕ
buffer_bytes = 1024

unfoldable pub format_of : ℕ → Format
format_of number = get_or formats number no_format

unfoldable pub block_bytes : ℕ → ℕ
block_bytes number = (format_of number).size

-- the bytes of so many blocks
unfoldable pub run_bytes : ℕ → ℕ → ℕ
run_bytes number blocks = blocks * block_bytes number

-- "disc bytes", 0 for no disc
unfoldable pub disc_bytes : ℕ → ℕ
disc_bytes number = run_bytes number (format_of number).blocks

-- "A block address and a byte place are different kinds of number": the one way between them
unfoldable pub place_of : ℕ → BlockAddress → BytePlace
place_of number block = record { 0 = run_bytes number block.0 }
