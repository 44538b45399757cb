-- Numbers as text, in ASCII: "lower-case hex, the other numbers decimal".
use Rattle.std.specs.Prelude.{◌≡◌, ◌∷◌, ◌++◌, ◌+◌, ◌-◌, ◌*◌, ◌/◌, ◌%◌, ◌^◌, ◌<◌, ◌≤◌}
use Rattle.ground.specs.Kit.{cond, List, [], ℕ, zero, suc, ltb, length}

-- `0` to `9`, then `a` to `f`
unfoldable pub glyph_of : ℕ → ℕ
glyph_of digit = cond (ltb digit 10) (48 + digit) (87 + digit)

-- a byte as two digits
unfoldable pub hex_of : ℕ → List ℕ
hex_of b = glyph_of (b / 16) ∷ glyph_of (b % 16) ∷ []

abbrev pub hexes_of : List ℕ → List ℕ
hexes_of [] = []
hexes_of (b ∷ bs) = hex_of b ++ hexes_of bs

abbrev pub last_digit : ℕ → ℕ
last_digit n = 48 + n % 10

-- the last k + 1 digits of n, without zeros in front, before a text
unfoldable pub digits_before : ℕ → ℕ → List ℕ → List ℕ
digits_before zero n text = last_digit n ∷ text
digits_before (suc k) n text = cond (ltb 9 n) (digits_before k (n / 10) (last_digit n ∷ text)) (last_digit n ∷ text)

-- 20 digits hold every number of 64 bits
abbrev pub decimal_of : ℕ → List ℕ
decimal_of n = digits_before 19 n []

-- what digits say, after those that were read
abbrev pub read_after : ℕ → List ℕ → ℕ
read_after n [] = n
read_after n (d ∷ ds) = read_after (n * 10 + (d - 48)) ds

-- no digit is lost: read back, the text is the number
abbrev pub ReadsBack : Type 0
ReadsBack = (n : ℕ) → n < 10 ^ 20 → read_after 0 (decimal_of n) ≡ n

-- no number has more than 20 digits
abbrev pub FewDigits : Type 0
FewDigits = (n : ℕ) → length (decimal_of n) ≤ 20
