-- Text put into a line of a fixed length, byte after byte.
use Rattle.std.specs.Prelude.{◌≡◌, ◌∷◌, ◌++◌, ◌+◌, ◌≤◌}
use Rattle.ground.specs.Kit.{cond, List, [], ℕ, ltb, length, set, take, drop}
use Rattle.text.specs.declared.Line.{Line}

-- the place of the next byte, and the line's bytes
pub record Ink : Type 0 where
  pub at : ℕ
  pub line : List ℕ

abbrev pub ink : ℕ → List ℕ → Ink
ink at line = record { at = at; line = line }

-- of a line that is at hand also which buffer it was lent
pub record Inked : Type 0 where
  pub buffer : ℕ
  pub ink : Ink

abbrev pub begun : ℕ → ℕ → List ℕ → Inked
begun buffer at line = record { buffer = buffer; ink = ink at line }

abbrev pub inked : Line → Inked
inked l = begun l.bytes.ghost_name l.at l.bytes.now

-- a line that is full is left as it is
abbrev pub put_byte : Ink → ℕ → Ink
put_byte i b = cond (ltb i.at (length i.line)) (ink (i.at + 1) (set i.line i.at b)) i

unfoldable pub put_all : Ink → List ℕ → Ink
put_all i [] = i
put_all i (b ∷ bs) = put_all (put_byte i b) bs

-- the same in the line at hand, which keeps its buffer
abbrev pub put_on : Inked → List ℕ → Inked
put_on i text = record { buffer = i.buffer; ink = put_all i.ink text }

-- a text that fits stands at its place, the rest of the line as it was
abbrev pub FitsWhole : Type 0
FitsWhole = (at : ℕ) (line text : List ℕ) → at + length text ≤ length line
    → put_all (ink at line) text ≡ ink (at + length text) (take at line ++ text ++ drop (at + length text) line)

-- putting never leaves the line, and keeps its length
abbrev pub StaysInLine : Type 0
StaysInLine = (i : Ink) (text : List ℕ) → i.at ≤ length i.line
    → ((put_all i text).at ≤ length i.line) × (length (put_all i text).line ≡ length i.line)

-- two answers that a promise of a place and a lent line allows are equal: the place, and each byte of the line
abbrev pub OneText : Type 0
OneText = (i : Ink) (text : List ℕ) (r q : ℕ) (l m : List ℕ) → ink r l ≡ put_all i text → ink q m ≡ put_all i text → (r ≡ q) × (l ≡ m)

-- and two lines that it allows: the place, each byte, and the buffer that was lent
abbrev pub OneLine : Type 0
OneLine = (i : Inked) (text : List ℕ) (l m : Line) → inked l ≡ put_on i text → inked m ≡ put_on i text
    → (l.at ≡ m.at) × (l.bytes.now ≡ m.bytes.now) × (l.bytes.ghost_name ≡ m.bytes.ghost_name)
