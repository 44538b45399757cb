-- Req 01: "The listing must hold every differing block once and no other." Each statement holds of every disc, and is proved in `proofs/` under the
-- name in small letters, `EveryDiffering` as `every_differing`.
use Rattle.std.specs.Prelude.{◌≡◌, ◌⊎◌, ◌∷◌, ◌^◌, ◌<◌, ◌≤◌, Some, None}
use Rattle.ground.specs.Kit.{List, [], map, ℕ, suc, length, take, drop}
use Rattle.listing.specs.declared.{Difference.Difference}
use Rattle.disc.specs.declared.{BlockAddress.BlockAddress}
use Rattle.ground.specs.Bytes.{text, byte_at}
use Rattle.disc.specs.Formats.{format_of, block_bytes, disc_bytes, place_of}
use Rattle.text.specs.Numbers.{decimal_of}
use Rattle.listing.specs.Differing.{differing}
use Rattle.listing.specs.Listing.{listing_of, listing, disc_of, refusal_of}

-- it stands in the list
abbrev pub In : {A : Type 0} → A → List A → Type 0
In x [] = ⊥
In x (y ∷ ys) = (x ≡ y) ⊎ In x ys

-- each is larger than the one before it, and the first no less than `at`
abbrev pub RisesFrom : ℕ → List ℕ → Type 0
RisesFrom at [] = Unit
RisesFrom at (x ∷ xs) = (at ≤ x) × RisesFrom (suc x) xs

abbrev pub Rises : List ℕ → Type 0
Rises xs = RisesFrom 0 xs

-- the bytes of a block of an image
abbrev pub block_of : ℕ → List ℕ → BlockAddress → List ℕ
block_of number image block = take (block_bytes number) (drop (place_of number block).0 image)

abbrev pub Differs : ℕ → List ℕ → List ℕ → BlockAddress → Type 0
Differs number first second block = block_of number first block ≡ block_of number second block → ⊥

-- the byte at a place of a block is another in the second image
abbrev pub DiffersAt : ℕ → List ℕ → List ℕ → BlockAddress → ℕ → Type 0
DiffersAt number first second block i = byte_at (block_of number first block) i ≡ byte_at (block_of number second block) i → ⊥

abbrev pub addresses : List Difference → List ℕ
addresses ds = map (λ d. d.block.0) ds

-- two images of the disc's length
pub record Images (number : ℕ) (first second : List ℕ) : Type 0 where
  pub one : length first ≡ disc_bytes number
  pub two : length second ≡ disc_bytes number

-- "every differing block"
abbrev pub EveryDiffering : Type 0
EveryDiffering = (number : ℕ) (first second : List ℕ) → Images number first second
    → (block : BlockAddress) → block.0 < (format_of number).blocks → Differs number first second block
    → In block.0 (addresses (differing number first second))

-- "and no other"
abbrev pub NoOther : Type 0
NoOther = (number : ℕ) (first second : List ℕ) (block : BlockAddress) → In block.0 (addresses (differing number first second))
    → (block.0 < (format_of number).blocks) × Differs number first second block

-- "in rising order", and so "once"
abbrev pub RisingOrder : Type 0
RisingOrder = (number : ℕ) (first second : List ℕ) → Rises (addresses (differing number first second))

-- what a line tells is true
pub record Told (number : ℕ) (first second : List ℕ) (d : Difference) : Type 0 where
  -- the places that differ, and no others, each once
  pub places : List ℕ
  pub rising : Rises places
  pub those : (i : ℕ) → In i places → (i < block_bytes number) × DiffersAt number first second d.block i
  pub all : (i : ℕ) → i < block_bytes number → DiffersAt number first second d.block i → In i places
  -- "number of differing bytes"
  pub many : d.count ≡ length places
  pub some : 1 ≤ d.count
  -- "place of the first one in its block from 0"
  pub there : (d.first.0 < block_bytes number) × DiffersAt number first second d.block d.first.0
  pub before : (i : ℕ) → i < d.first.0 → byte_at (block_of number first d.block) i ≡ byte_at (block_of number second d.block) i

abbrev pub EachTold : Type 0
EachTold = (number : ℕ) (first second : List ℕ) → Images number first second
    → (d : Difference) → In d (differing number first second) → Told number first second d

-- "Equal images print `total 0`."
abbrev pub EqualImages : Type 0
EqualImages = (number : ℕ) (image : List ℕ) → (differing number image image ≡ []) × (listing number image image ≡ text "total 0\n")

-- and no others do
abbrev pub OnlyEqual : Type 0
OnlyEqual = (number : ℕ) (first second : List ℕ) → Images number first second → listing number first second ≡ text "total 0\n" → first ≡ second

-- which image comes first does not matter
abbrev pub Swapped : Type 0
Swapped = (number : ℕ) (first second : List ℕ) → Images number first second
    → (differing number first second ≡ differing number second first) × (listing number first second ≡ listing number second first)

-- and these statements leave no choice: a list of which they hold is this one
abbrev pub OneList : Type 0
OneList = (number : ℕ) (first second : List ℕ) → Images number first second → (ds : List Difference) → Rises (addresses ds)
    → ((block : BlockAddress) → block.0 < (format_of number).blocks → Differs number first second block → In block.0 (addresses ds))
    → ((d : Difference) → In d ds → (d.block.0 < (format_of number).blocks) × Told number first second d)
    → ds ≡ differing number first second

-- and the listing tells the list: two pairs of images that are listed alike differ alike
abbrev pub SameListing : Type 0
SameListing = (number : ℕ) (first second other another : List ℕ) → Images number first second → Images number other another
    → listing number first second ≡ listing number other another → differing number first second ≡ differing number other another

abbrev line : ℕ → ℕ → ℕ → Difference
line block count first = record { block = record { 0 = block }; count = count; first = record { 0 = first } }

-- the lines of two blocks, and the last line
abbrev pub Printed : Type 0
Printed = listing_of (line 9 300 100 ∷ line 2063 2 0 ∷ []) ≡ text "9 300 100\n2063 2 0\ntotal 2\n"

-- which disc a text names: "a number outside 1 to 4", and a text that is no number, none
pub record Named : Type 0 where
  pub inside : (n : ℕ) → 1 ≤ n → n ≤ 4 → disc_of (decimal_of n) ≡ Some n
  pub outside : (n : ℕ) → n < 2 ^ 64 → (n < 1) ⊎ (4 < n) → disc_of (decimal_of n) ≡ None
  pub texts : map disc_of (text "004" ∷ text "" ∷ text "4 " ∷ text " 4" ∷ text "+4" ∷ text "4." ∷ text "18446744073709551620" ∷ [])
      ≡ Some 4 ∷ None ∷ None ∷ None ∷ None ∷ None ∷ None ∷ []

-- "prints `disc` only, tested first", "prints only `size` and its number (1 or 2, the first wrong one)": what stands behind the first fault is not looked at
pub record Refused : Type 0 where
  pub disc : (number first second : ℕ) → (number < 1) ⊎ (4 < number) → refusal_of (Some number) first second ≡ text "disc\n"
  pub nameless : (first second : ℕ) → refusal_of None first second ≡ text "disc\n"
  pub one : (number first second : ℕ) → 1 ≤ number → number ≤ 4 → (first ≡ disc_bytes number → ⊥) → refusal_of (Some number) first second ≡ text "size 1\n"
  pub two : (number second : ℕ) → 1 ≤ number → number ≤ 4 → (second ≡ disc_bytes number → ⊥)
      → refusal_of (Some number) (disc_bytes number) second ≡ text "size 2\n"
  pub none : (number : ℕ) → 1 ≤ number → number ≤ 4 → refusal_of (Some number) (disc_bytes number) (disc_bytes number) ≡ []
