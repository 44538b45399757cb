-- Paper 01, "The bench player": the bytes of a script, record by record.
use Rattle.std.specs.Prelude.{◌&&◌, ◌∷◌, ◌-◌, Option, Some, None}
use Rattle.ground.specs.Kit.{Bool, cond, List, [], ℕ, eqb, leb, length}
use Rattle.record.specs.declared.{Record.Record}
use Rattle.ground.specs.Bytes.{byte_at, little}
use Rattle.ground.specs.Tables.{Entry, ◌is◌, find}
use Rattle.record.specs.declared.Record.TheVariants.{Insert, Eject, Command, Feed, Pull}

-- "little-endian": "Each record starts with its whole length (2 bytes), then its kind (2 bytes)"
abbrev pub length_field : List ℕ → ℕ
length_field bytes = little (byte_at bytes 0) (byte_at bytes 1)

abbrev pub kind_field : List ℕ → ℕ
kind_field bytes = little (byte_at bytes 2) (byte_at bytes 3)

-- "A record cut short, of another .. length .. is bad"
abbrev pub whole_b : ℕ → ℕ → List ℕ → Bool
whole_b least most bytes =
    leb least (length_field bytes) && leb (length_field bytes) most && leb (length_field bytes) (length bytes)

abbrev pub if_whole : ℕ → ℕ → List ℕ → Option Record → Option Record
if_whole least most bytes r = cond (whole_b least most bytes) r None

-- "insert (disc number, protection 0 or 1)"; "with protection above 1 .. is bad"
abbrev pub insert_record : ℕ → ℕ → Option Record
insert_record number protection = cond (leb protection 1) (Some (Insert number (eqb protection 1))) None

-- "feed (0 to 512 bytes)"
abbrev pub feed_record : List ℕ → Option Record
feed_record bytes = Some (Feed (length_field bytes - 4))

-- "pull (2-byte little-endian count, at most 512)"; "a pull above 512 is bad"
abbrev pub pull_record : ℕ → ℕ → Option Record
pull_record low high = cond (leb (little low high) 512) (Some (Pull (little low high))) None

-- the two bytes after length and kind
abbrev pub two_bytes : (ℕ → ℕ → Option Record) → List ℕ → Option Record
two_bytes says bytes = says (byte_at bytes 4) (byte_at bytes 5)

-- the least and the greatest whole length of a kind, and what its bytes say
pub record Row : Type 0 where
  pub least : ℕ
  pub most : ℕ
  pub says : List ℕ → Option Record

abbrev row : ℕ → ℕ → (List ℕ → Option Record) → Row
row least most says = record { least = least; most = most; says = says }

-- "Kinds: 1 insert ..; 2 eject; 3 command (12 bytes); 4 feed ..; 5 pull ..", each with the 4 bytes of length and kind before it
unfoldable pub script_rows : List (Entry Row)
script_rows =
    (1 is row 6 6 (two_bytes insert_record))
    ∷ (2 is row 4 4 (λ _. Some Eject))
    ∷ (3 is row 16 16 (λ _. Some Command))
    ∷ (4 is row 4 516 feed_record)
    ∷ (5 is row 6 6 (two_bytes pull_record))
    ∷ []

-- "of another kind .. is bad"
abbrev pub other_row : Row
other_row = row 4 516 (λ _. None)

abbrev pub row_of : List ℕ → Row
row_of bytes = find (kind_field bytes) script_rows other_row

-- the record at the front of a script, none where it is bad
unfoldable pub record_of : List ℕ → Option Record
record_of bytes = if_whole (row_of bytes).least (row_of bytes).most bytes ((row_of bytes).says bytes)
