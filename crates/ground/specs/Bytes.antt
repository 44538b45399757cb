-- Bytes: one at a place, numbers of several, zeros, texts.
use Rattle.std.specs.Prelude.{◌∷◌, ◌+◌, ◌*◌, ◌/◌, ◌%◌}
use Rattle.ground.specs.Kit.{List, [], ℕ, get_or, replicate}
use Prim.Native.Char.{code}
use Prim.Native.String.{String, [] as end, ◌∷◌ as ◌then◌}

-- 0 past the end
abbrev pub byte_at : List ℕ → ℕ → ℕ
byte_at bytes i = get_or bytes i 0

-- big-endian, of two and of four bytes
abbrev pub word : ℕ → ℕ → ℕ
word a b = a * 256 + b

abbrev pub long : ℕ → ℕ → ℕ → ℕ → ℕ
long a b c d = word (word (word a b) c) d

-- little-endian, of two bytes
abbrev pub little : ℕ → ℕ → ℕ
little low high = low + high * 256

abbrev pub zeros : ℕ → List ℕ
zeros n = replicate n 0

-- a number in two, three and four bytes, big-endian
abbrev pub be2 : ℕ → List ℕ
be2 n = n / 256 % 256 ∷ n % 256 ∷ []

abbrev pub be3 : ℕ → List ℕ
be3 n = n / 65536 % 256 ∷ be2 n

abbrev pub be4 : ℕ → List ℕ
be4 n = n / 16777216 % 256 ∷ be3 n

abbrev pub text : String → List ℕ
text end = []
text (c then cs) = code c ∷ text cs
