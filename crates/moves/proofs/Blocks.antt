-- Places within blocks of b bytes. Assumes nothing.
use Rattle.std.specs.Prelude.{◌≡◌, ◌<◌, ◌≤◌, ◌+◌, ◌-◌, ◌/◌, ◌%◌}
use Rattle.ground.specs.Kit.{List, ℕ, min, mod-lt, mod-le, div-add-mod', div-lt_iff_lt-mul, mul-le-mul, mul-mod_left, le_refl, add-mul, one-mul, arith, length}
use Rattle.disc.specs.declared.{BytePlace.BytePlace}
use Rattle.disc.specs.Formats.{buffer_bytes, format_of, block_bytes, run_bytes, disc_bytes}
use Rattle.disc.proofs.Discs.{block_fits, block_holds}
use Rattle.moves.specs.Places.{Place}

-- the block of a place below a block's end ends there at the latest
pub block_end : (b at m : ℕ) → 0 < b → m % b ≡ 0 → at < m → at + (b - at % b) ≤ m
block_end b at m pos e h =
    let m' = div-add-mod' m b in
    let at' = div-add-mod' at b in
    let inside = mod-lt at pos in
    let q = (div-lt_iff_lt-mul {k = b} {x = at} {y = m / b} pos).1 (omega arith) in
    let q' : at / b + 1 ≤ m / b = omega arith in
    let s = mul-le-mul q' (le_refl b) in
    let t = add-mul (at / b) 1 b in
    let u = one-mul b in
    omega arith

-- the block of a place, on a disc of m bytes
pub record Share (b at m : ℕ) : Type 0 where
  pub pos : 0 < b
  pub small : b ≤ buffer_bytes
  pub inside : at % b < b
  pub start : at % b ≤ at
  pub fits : at + (b - at % b) ≤ m

disc_blocks_lem : (number : ℕ) → disc_bytes number % block_bytes number ≡ 0
unfolding disc_bytes run_bytes
disc_blocks_lem number = mul-mod_left (format_of number).blocks (block_bytes number)

pub share : (number : ℕ) (place : BytePlace) (disc : List ℕ) (b : ℕ) → b ≡ block_bytes number → Place number place disc → Share b place.0 (length disc)
share number place disc b e p =
    let at = place.0 in
    let pos = block_holds number p.whole.low p.whole.high in
    let fits = block_end (block_bytes number) at (length disc) pos (rw p.whole.long (disc_blocks_lem number)) p.within in
    rw e (record { pos = pos; small = block_fits number; inside = mod-lt at pos; start = mod-le at (block_bytes number); fits = fits })

-- a turn of a loop over the blocks of what is left: its share is not empty, and ends within what is wanted
pub record Turn (done wanted r : ℕ) : Type 0 where
  pub some : 0 < r
  pub within : done + r ≤ wanted

-- a feed's: what is left of a write ends where a block ends
pub turn : (b at left len done wanted r : ℕ) → 0 < b → (at + left) % b ≡ 0 → wanted ≡ min len left → done < wanted
    → r ≡ min (len - done) (b - (at + done) % b) → Turn done wanted r
turn b at left len done wanted r pos e w h k =
    let x = block_end b (at + done) (at + left) pos e (omega arith) in
    let y = mod-lt (at + done) pos in
    record { some = omega arith; within = omega arith }
