-- Req 01: what the compare tool prints.
use Rattle.std.specs.Prelude.{◌||◌, ◌∷◌, ◌++◌, Option, Some, None}
use Rattle.ground.specs.Kit.{Bool, cond, not, List, [], map, flatten, ℕ, eqb, ltb, length}
use Rattle.listing.specs.declared.{Difference.Difference}
use Rattle.ground.specs.Bytes.{text}
use Rattle.disc.specs.Formats.{disc_bytes}
use Rattle.text.specs.Numbers.{decimal_of}
use Rattle.text.specs.Reading.{number_of}
use Rattle.listing.specs.Differing.{differing}

-- a number, and the byte that stands behind it: a space or a line feed
abbrev pub number_then : ℕ → ℕ → List ℕ
number_then n mark = decimal_of n ++ (mark ∷ [])

-- "in decimal with single spaces"
unfoldable pub line_of : Difference → List ℕ
line_of d = number_then d.block.0 32 ++ number_then d.count 32 ++ number_then d.first.0 10

unfoldable pub lines_of : List Difference → List ℕ
lines_of ds = flatten (map line_of ds)

-- "The last line is `total` and the number of differing blocks."
unfoldable pub total_line : ℕ → List ℕ
total_line total = text "total " ++ number_then total 10

abbrev pub listing_of : List Difference → List ℕ
listing_of ds = lines_of ds ++ total_line (length ds)

abbrev pub listing : ℕ → List ℕ → List ℕ → List ℕ
listing number first second = listing_of (differing number first second)

-- "A number outside 1 to 4"
abbrev pub outside_b : ℕ → Bool
outside_b number = ltb number 1 || ltb 4 number

-- the disc that a text names, none where its number is outside and where it is no number
abbrev pub disc_for : Option ℕ → Option ℕ
disc_for (Some n) = cond (outside_b n) None (Some n)
disc_for None = None

unfoldable pub disc_of : List ℕ → Option ℕ
disc_of said = disc_for (number_of said)

-- "prints `disc` only, tested first", "prints only `size` and its number (1 or 2, the first wrong one)"; nothing where two files of these lengths can be compared
unfoldable pub refusal_of : Option ℕ → ℕ → ℕ → List ℕ
refusal_of None first second = text "disc\n"
refusal_of (Some number) first second =
    cond (outside_b number) (text "disc\n")
    (cond (not (eqb first (disc_bytes number))) (text "size 1\n")
    (cond (not (eqb second (disc_bytes number))) (text "size 2\n") []))

-- what comes of a refusal: behind one comes `refused`, and where there is none what the disc's number brings
abbrev pub unless_refused : (refused refusal : List ℕ) (brings : ℕ → List ℕ) → Option ℕ → List ℕ
unless_refused refused refusal brings None = refusal ++ refused
unless_refused refused refusal brings (Some number) = cond (eqb (length refusal) 0) (brings number) (refusal ++ refused)

-- all that is printed, by the text of the number and the bytes of the two files; behind a listing comes `last` of its total, behind a refusal `refused`
abbrev pub printed_of : (last : ℕ → List ℕ) (refused said first second : List ℕ) → List ℕ
printed_of last refused said first second =
    unless_refused refused (refusal_of (disc_of said) (length first) (length second))
    (λ number. listing number first second ++ last (length (differing number first second))) (disc_of said)
