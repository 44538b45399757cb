-- What a line of the player means, in words behind it.
use Rattle.std.specs.Prelude.{◌≡◌, ◌&&◌, ◌∷◌, ◌++◌, ◌<◌, ◌≤◌, Option, Some, None}
use Rattle.ground.specs.Kit.{Bool, true, false, cond, not, List, [], ℕ, eqb, length, take, drop}
use Rattle.state.specs.declared.{Sense.Sense}
use Rattle.disc.specs.declared.{BlockAddress.BlockAddress}
use Rattle.packet.specs.declared.{Rule.Rule}
use Rattle.record.specs.declared.{Record.Record}
use Rattle.ground.specs.Bytes.{text}
use Rattle.state.specs.Senses.{no_sense, bad_list, same_b, named_b}
use Rattle.packet.specs.Fields.{address_of, length_of}
use Rattle.packet.specs.Rules.{code_of, rule_of}
use Rattle.record.specs.Records.{record_of}
use Rattle.record.specs.Waiting.{enough_b}
use Rattle.text.specs.Numbers.{decimal_of}
use Rattle.explain.specs.Words.{name_text, code_text, why_text, reason_text}
use Rattle.record.specs.declared.Record.TheVariants.{Insert, Eject, Command, Feed, Pull}

abbrev pub refused_text : ℕ → List ℕ
refused_text house = text " refused, " ++ reason_text house

abbrev pub put_in_text : Bool → List ℕ
put_in_text prot = cond prot (text " put in, protected") (text " put in")

unfoldable pub insertion_text : ℕ → ℕ → Bool → List ℕ
insertion_text house number prot = text "disc " ++ decimal_of number ++ cond (eqb house 0) (put_in_text prot) (refused_text house)

unfoldable pub ejection_text : ℕ → List ℕ
ejection_text house = cond (eqb house 0) (text "disc taken out") (text "ejection" ++ refused_text house)

abbrev pub blocks_text : ℕ → List ℕ
blocks_text count = cond (eqb count 1) (text " block from ") (text " blocks from ")

-- a command of no blocks has an address alone
unfoldable pub range_text : BlockAddress → ℕ → List ℕ
range_text from count =
    cond (eqb count 0) (text " at " ++ decimal_of from.0) (text " of " ++ decimal_of count ++ blocks_text count ++ decimal_of from.0)

-- the name, and the blocks of a command that asks check G
unfoldable pub base_text : Rule → List ℕ → List ℕ
base_text rule p = name_text (code_of p) ++ cond rule.asked.range (range_text (address_of p) (length_of rule.length p)) []

abbrev pub called_by : Option Rule → List ℕ → List ℕ
called_by None p = code_text (code_of p)
called_by (Some rule) p = base_text rule p

unfoldable pub called_text : List ℕ → List ℕ
called_text p = called_by (rule_of p) p

-- an accepted command has passed where it left the triple 00 00 00 (`drive` specs/Theorems `PassedByTriple`)
unfoldable pub ended_text : ℕ → Sense → List ℕ
ended_text house sense =
    cond (eqb house 0) (cond (same_b sense no_sense) (text " passed") (text " failed, " ++ why_text sense)) (refused_text house)

unfoldable pub command_text : List ℕ → ℕ → Sense → List ℕ
command_text p house sense = called_text p ++ ended_text house sense

-- a feed or a pull: of the bytes of its piece, or that it asked for, so many
unfoldable pub move_text : List ℕ → List ℕ → ℕ → ℕ → ℕ → List ℕ
move_text called moved house count bytes =
    cond (eqb house 0) (decimal_of count ++ text " of " ++ decimal_of bytes ++ moved) (called ++ refused_text house)

-- a feed that took bytes and left 05 26 00 had its list refused: from power-on a command that passed came before, and left 00 00 00
unfoldable pub fed_text : ℕ → Sense → ℕ → ℕ → List ℕ
fed_text house sense count bytes =
    move_text (text "feed") (text " bytes taken") house count bytes
    ++ cond (not (eqb count 0) && same_b sense bad_list) (text ", " ++ why_text sense) []

unfoldable pub bad_text : List ℕ
bad_text = text "cut short, or of another kind or length, or a protection above 1, or a pull above 512"

-- a packet stands behind the header of 4 bytes
abbrev pub meaning_of : List ℕ → ℕ → Sense → ℕ → Option Record → List ℕ
meaning_of bytes house sense count (Some (Insert number prot)) = insertion_text house number prot
meaning_of bytes house sense count (Some Eject) = ejection_text house
meaning_of bytes house sense count (Some Command) = command_text (take 12 (drop 4 bytes)) house sense
meaning_of bytes house sense count (Some (Feed n)) = fed_text house sense count n
meaning_of bytes house sense count (Some (Pull n)) = move_text (text "pull") (text " bytes given") house count n
meaning_of bytes house sense count None = bad_text

-- what is put behind a line in the place of its line feed
unfoldable pub explained_text : List ℕ → ℕ → Sense → ℕ → List ℕ
explained_text bytes house sense count = text ": " ++ meaning_of bytes house sense count (record_of bytes) ++ (10 ∷ [])

-- no words are missing: every base command has a name, every triple of a check says why, and every refusal
pub record AllSaid : Type 0 where
  pub names : (p : List ℕ) (rule : Rule) → rule_of p ≡ Some rule → 0 < length (name_text (code_of p))
  pub whys : (s : Sense) → named_b s ≡ true → same_b s no_sense ≡ false → 0 < length (why_text s)
  pub reasons : (house : ℕ) → 0 < house → 0 < length (reason_text house)

-- what comes behind a record that can be told changes no word
abbrev pub SameWords : Type 0
SameWords = (bytes more : List ℕ) (house : ℕ) (sense : Sense) (count : ℕ) → enough_b bytes ≡ true
    → explained_text (bytes ++ more) house sense count ≡ explained_text bytes house sense count

-- it is short, so that a line can be lent that holds it
abbrev pub ShortText : Type 0
ShortText = (bytes : List ℕ) (house : ℕ) (sense : Sense) (count : ℕ) → length (explained_text bytes house sense count) ≤ 128
