-- Req 01: "The images are read a part at a time."
use Rattle.std.specs.Prelude.{◌++◌, ◌+◌, ◌-◌, ◌*◌, ◌/◌, ◌^◌}
use Rattle.ground.specs.Kit.{Bool, cond, List, [], ℕ, min, eqb, leb, length}
use Rattle.listing.specs.declared.{Difference.Difference, Comparison.Comparison}
use Rattle.disc.specs.declared.{BlockAddress.BlockAddress}
use Rattle.disc.specs.Formats.{format_of, block_bytes, disc_bytes, place_of}
use Rattle.text.specs.Ink.{Inked, put_on}
use Rattle.listing.specs.Differing.{differs_b, differing_from}
use Rattle.listing.specs.Listing.{line_of, lines_of, total_line}

-- before the first block
abbrev pub start_of : ℕ → Comparison
start_of number = record { block = record { 0 = 0 }; total = 0; over = eqb (format_of number).blocks 0 }

-- how many bytes of each image are due from a block on, where there is room for so many at the most
unfoldable pub due_of : ℕ → BlockAddress → ℕ → ℕ
due_of number from most = min most (disc_bytes number - (place_of number from).0)

-- three numbers of up to 20 digits, each with a byte behind it, and the last line
abbrev pub line_bytes : ℕ
line_bytes = 3 * 21 + 27

-- how many blocks of the disc are compared at once, from one on: those that both parts hold whole, and for whose lines there is room
unfoldable pub blocks_at_once : ℕ → BlockAddress → ℕ → ℕ → ℕ → ℕ
blocks_at_once number from first second text = min ((format_of number).blocks - from.0) (min (min first second / block_bytes number) (text / line_bytes))

-- how many blocks differ, and the text with their lines
pub record Listed : Type 0 where
  pub count : ℕ
  pub text : Inked

abbrev pub listed : ℕ → Inked → Listed
listed count text = record { count = count; text = text }

-- a block that does not differ has no line
abbrev pub with_block : Listed → Difference → Listed
with_block before d = cond (differs_b d) (record { count = before.count + 1; text = put_on before.text (line_of d) }) before

abbrev pub listed_of : List Difference → Inked → Listed
listed_of ds text = listed (length ds) (put_on text (lines_of ds))

-- a comparison with the text of its last part
pub record Turned : Type 0 where
  pub run : Comparison
  pub text : Inked

abbrev pub turned : Comparison → Inked → Turned
turned run text = record { run = run; text = text }

-- what stands behind the lines of the last part: "The last line is `total` .."
abbrev pub end_of : Bool → ℕ → List ℕ
end_of over total = cond over (total_line total) []

-- two parts that start with the next block, in what room is left of the text; a total that 64 bits don't hold stays at the largest number
unfoldable pub turn_of : ℕ → Comparison → List ℕ → List ℕ → Inked → Turned
turn_of number run first second text =
    let n = blocks_at_once number run.block (length first) (length second) (length text.ink.line - text.ink.at) in
    let ds = differing_from number run.block n first second in
    let next = run.block.0 + n in
    let over = leb (format_of number).blocks next in
    let total = min (run.total + length ds) (2 ^ 64 - 1) in
    turned (record { block = record { 0 = next }; total = total; over = over }) (put_on text (lines_of ds ++ end_of over total))
