-- Paper 01, "The bench player": the line of a record.
use Rattle.std.specs.Prelude.{◌∷◌, ◌++◌}
use Rattle.ground.specs.Kit.{cond, List, [], ℕ, ltb, length}
use Rattle.state.specs.declared.{Sense.Sense}
use Rattle.ground.specs.Bytes.{text}
use Rattle.text.specs.Numbers.{hex_of, hexes_of, decimal_of}
use Rattle.player.specs.Playing.{Said}

abbrev space : List ℕ
space = text " "

abbrev newline : List ℕ
newline = 10 ∷ []

-- a number and a space
abbrev pub number_text : ℕ → List ℕ
number_text n = decimal_of n ++ space

-- a byte and a space: "triple and bytes are lower-case hex"
unfoldable pub digits_text : ℕ → List ℕ
digits_text b = hex_of b ++ space

unfoldable pub sense_text : Sense → List ℕ
sense_text s = digits_text s.0 ++ digits_text s.1 ++ digits_text s.2

-- "for a pull with a count above 0 the bytes"
unfoldable pub shown_text : List ℕ → List ℕ
shown_text bytes = cond (ltb 0 (length bytes)) (space ++ hexes_of bytes) []

-- "record number from 1, house number (0 for none), the state's triple afterwards, count .. the other numbers decimal"
unfoldable pub played_line : ℕ → Said → List ℕ
played_line number s =
    number_text number ++ number_text s.house ++ sense_text s.world.state.host.sense ++ decimal_of s.count ++ shown_text s.shown ++ newline

-- "a line with its number and `bad` is printed, as `6 bad`"
unfoldable pub bad_line : ℕ → List ℕ
bad_line number = decimal_of number ++ (text " bad" ++ newline)

abbrev pub line_of : ℕ → Said → List ℕ
line_of number s = cond s.bad (bad_line number) (played_line number s)
