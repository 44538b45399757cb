-- A number that a text says: of digits only; any other text, an empty one and a number too large say none.
use Rattle.std.specs.Prelude.{◌≡◌, ◌&&◌, ◌∷◌, ◌+◌, ◌-◌, ◌*◌, ◌^◌, ◌<◌, Option, Some, None}
use Rattle.ground.specs.Kit.{Bool, cond, List, [], ℕ, eqb, leb, ltb, length}
use Rattle.text.specs.Numbers.{decimal_of}

abbrev pub digit_b : ℕ → Bool
digit_b b = leb 48 b && leb b 57

-- a number with a digit more behind it: 64 bits have to hold it
unfoldable pub with_digit : ℕ → ℕ → Option ℕ
with_digit n b = let m = n * 10 + (b - 48) in cond (digit_b b && ltb m (2 ^ 64)) (Some m) None

abbrev pub and_digit : Option ℕ → ℕ → Option ℕ
and_digit None b = None
and_digit (Some n) b = with_digit n b

-- what a text says behind digits that said so much
unfoldable pub after : List ℕ → Option ℕ → Option ℕ
after [] told = told
after (b ∷ bs) told = after bs (and_digit told b)

unfoldable pub number_of : List ℕ → Option ℕ
number_of text = cond (eqb (length text) 0) None (after text (Some 0))

-- what `put_decimal` puts is read back
abbrev pub ReadsNumbers : Type 0
ReadsNumbers = (n : ℕ) → n < 2 ^ 64 → number_of (decimal_of n) ≡ Some n
