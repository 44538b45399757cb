-- Req 03: what a whole parameter list of FORMAT UNIT makes of the disc; tables 6 to 8 of source document 003.
use Rattle.std.specs.Prelude.{◌&&◌, ◌||◌, ◌+◌, ◌*◌, ◌/◌, ◌%◌}
use Rattle.ground.specs.Kit.{Bool, true, false, cond, not, List, ℕ, eqb, leb, ltb, replicate, sets}
use Rattle.disc.specs.declared.{Format.Format, BlockAddress.BlockAddress}
use Rattle.lists.specs.declared.{Blocks.Blocks}
use Rattle.ground.specs.Bytes.{byte_at, word, long}
use Rattle.disc.specs.Formats.{heads, format_of, run_bytes, place_of}

-- "In list byte 1 Single Track is bit 4, Immediate bit 1, Side bit 0."
abbrev pub single_track_b : List ℕ → Bool
single_track_b list = eqb (byte_at list 1 / 16 % 2) 1

abbrev pub immediate_b : List ℕ → Bool
immediate_b list = eqb (byte_at list 1 / 2 % 2) 1

abbrev pub side_of : List ℕ → ℕ
side_of list = byte_at list 1 % 2

-- "a descriptor other than the inserted disc's blocks and block length": bytes 4-7 and 9-11
abbrev pub other_format_b : Format → List ℕ → Bool
other_format_b f list =
    not (eqb (long (byte_at list 4) (byte_at list 5) (byte_at list 6) (byte_at list 7)) f.blocks)
    || not (eqb (long 0 (byte_at list 9) (byte_at list 10) (byte_at list 11)) f.size)

-- "Defect list length other than 8, the Immediate bit set, or a descriptor ..": bytes 2-3; "Other list bits aren't judged"
unfoldable pub bad_list_b : Format → List ℕ → Bool
bad_list_b f list = not (eqb (word (byte_at list 2) (byte_at list 3)) 8) || immediate_b list || other_format_b f list

abbrev pub blocks_from : ℕ → ℕ → Blocks
blocks_from first count = record { first = record { 0 = first }; count = count }

-- "every block, or with Single Track the blocks of that track and side (first block: (track times 2 plus side) times sectors per track)";
-- "track and side count only with Single Track"
unfoldable pub meant_of : Format → ℕ → List ℕ → Blocks
meant_of f track list =
    cond (single_track_b list) (blocks_from ((track * heads + side_of list) * f.sectors) f.sectors) (blocks_from 0 f.blocks)

-- block k is one of them
abbrev pub among_b : Blocks → BlockAddress → Bool
among_b meant k = leb meant.first.0 k.0 && ltb k.0 (meant.first.0 + meant.count)

-- "is filled with F6"
abbrev pub filler : ℕ
filler = 0xf6

unfoldable pub formatted : ℕ → Blocks → List ℕ → List ℕ
formatted number meant disc = sets disc (place_of number meant.first).0 (replicate (run_bytes number meant.count) filler)

-- what comes of a list: whether it is refused, and the disc
pub record Judged : Type 0 where
  pub refused : Bool
  pub disc : List ℕ

abbrev pub judged : Bool → List ℕ → Judged
judged refused disc = record { refused = refused; disc = disc }

-- ".. gives 05 26 00 and changes no disc byte. Otherwise .. is filled with F6 in that same call."
unfoldable pub list_judged : ℕ → ℕ → List ℕ → List ℕ → Judged
list_judged number track list disc =
    cond (bad_list_b (format_of number) list) (judged true disc) (judged false (formatted number (meant_of (format_of number) track list) disc))
