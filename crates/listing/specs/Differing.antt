-- Req 01: "one line for each differing block in rising order: address, number of differing bytes, place of the first one in its block from 0".
use Rattle.std.specs.Prelude.{◌∷◌, ◌+◌}
use Rattle.ground.specs.Kit.{Bool, cond, not, List, [], map, ℕ, zero, suc, eqb, length, take, drop, get_or}
use Rattle.listing.specs.declared.{Difference.Difference}
use Rattle.disc.specs.declared.{BlockAddress.BlockAddress}
use Rattle.ground.specs.Bytes.{byte_at}
use Rattle.disc.specs.Formats.{format_of, block_bytes, run_bytes}

-- of n numbers, from `at` on, those that pass a test, in rising order
abbrev pub among : (ℕ → Bool) → ℕ → ℕ → List ℕ
among test at zero = []
among test at (suc n) = cond (test at) (at ∷ among test (suc at) n) (among test (suc at) n)

-- two bytes side by side differ
abbrev pub apart_b : ℕ × ℕ → Bool
apart_b p = not (eqb p.0 p.1)

-- the places, from 0, at which two blocks of so many bytes differ
unfoldable pub places_of : ℕ → List ℕ → List ℕ → List ℕ
places_of size first second = among (λ i. not (eqb (byte_at first i) (byte_at second i))) 0 size

-- "address, number of differing bytes, place of the first one in its block"; where none differs, the place behind the block
abbrev pub difference_of : BlockAddress → List ℕ → List ℕ → Difference
difference_of block first second =
    let places = places_of (length first) first second in
    record { block = block; count = length places; first = record { 0 = get_or places 0 (length first) } }

-- of bytes that start with a block, the block that comes k blocks further
abbrev pub block_at : ℕ → List ℕ → ℕ → List ℕ
block_at number bytes k = take (block_bytes number) (drop (run_bytes number k) bytes)

-- and what is told of it, where the first block has this address
abbrev pub difference_at : ℕ → BlockAddress → List ℕ → List ℕ → ℕ → Difference
difference_at number from first second k = difference_of (record { 0 = from.0 + k }) (block_at number first k) (block_at number second k)

abbrev pub differs_b : Difference → Bool
differs_b d = not (eqb d.count 0)

-- the differing ones of n blocks, of which the first has this address
unfoldable pub differing_from : ℕ → BlockAddress → ℕ → List ℕ → List ℕ → List Difference
differing_from number from n first second = let told = difference_at number from first second in map told (among (λ k. differs_b (told k)) 0 n)

-- of two images of a disc
abbrev pub differing : ℕ → List ℕ → List ℕ → List Difference
differing number first second = differing_from number (record { 0 = 0 }) (format_of number).blocks first second
