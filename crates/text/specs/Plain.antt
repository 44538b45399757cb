-- Bytes shown so that a reader can tell each: those that do not print are escaped.
use Rattle.std.specs.Prelude.{◌≡◌, ◌&&◌, ◌∷◌, ◌++◌, ◌<◌}
use Rattle.ground.specs.Kit.{Bool, cond, not, List, [], ℕ, eqb, leb, get_or}
use Rattle.ground.specs.Bytes.{text}
use Rattle.text.specs.Numbers.{hex_of}

-- what ASCII prints, but for the byte that an escape starts with
abbrev pub prints_b : ℕ → Bool
prints_b b = (leb 32 b && leb b 126) && not (eqb b 92)

-- such a byte stands as it is, any other as `\x` and two digits
unfoldable pub plain_byte : ℕ → List ℕ
plain_byte b = cond (prints_b b) (b ∷ []) (text "\\x" ++ hex_of b)

abbrev pub plain_of : List ℕ → List ℕ
plain_of [] = []
plain_of (b ∷ bs) = plain_byte b ++ plain_of bs

-- different bytes are shown by different texts
abbrev pub PlainApart : Type 0
PlainApart = (xs ys : List ℕ) → ((i : ℕ) → get_or xs i 0 < 256) → ((i : ℕ) → get_or ys i 0 < 256) → plain_of xs ≡ plain_of ys → xs ≡ ys
