-- What holds of every disc of the table: one test that antt computes over all of its rows. Assumes nothing.
use Rattle.std.specs.Prelude.{◌≡◌, ◌+◌, ◌*◌, ◌≤◌, ◌<◌}
use Rattle.ground.specs.Kit.{sym, get_or-eq_default, refl, Bool, true, ℕ, zero, suc, add-mul, one-mul, mul-le-mul, mul-le-mul_right, arith, leb-true, ltb-true, eqb-true, eqb, leb, ltb}
use Rattle.ground.proofs.Tables.{all, at_row, always}
use Rattle.ground.proofs.Truth.{both}
use Rattle.disc.specs.declared.{Format.Format}
use Rattle.disc.specs.Formats.{no_format, discs, formats, format_of, heads, buffer_bytes, block_bytes, run_bytes, disc_bytes}
use Rattle.disc.specs.Theorems.{DiscBytesColumn, Geometry, BlockFits, BlockHolds, TrackHolds, TrackWithin}

pub disc_bytes_column : DiscBytesColumn
unfolding format_of block_bytes run_bytes disc_bytes
disc_bytes_column = refl

pub geometry : Geometry
unfolding format_of
geometry n =
    eqb-true (format_of n).blocks ((format_of n).cylinders * heads * (format_of n).sectors)
    (always (λ f. eqb f.blocks (f.cylinders * heads * f.sectors)) no_format refl formats refl n)

module _ (column : Format → ℕ) where
  -- a column that is small in each row, no disc's among them
  small : (most : ℕ) → all (λ f. leb (column f) most) formats ≡ true → (number : ℕ) → column (format_of number) ≤ most
  unfolding format_of
  small most e n =
      let test : Format → Bool = λ f. leb (column f) most in
      leb-true (column (format_of n)) most (always test no_format (both (test no_format) (all test discs) e).0 formats e n)

  -- and one that is above 0 in each disc's
  positive : all (λ f. ltb 0 (column f)) discs ≡ true → (number : ℕ) → 0 < number → number ≤ 4 → 0 < column (format_of number)
  unfolding format_of
  positive e zero pos h = absurd (omega arith)
  positive e (suc k) pos h = ltb-true 0 (column (format_of (suc k))) (at_row (λ f. ltb 0 (column f)) no_format discs e k h)

pub block_fits : BlockFits
unfolding block_bytes
block_fits = small (λ f. f.size) buffer_bytes refl

pub block_holds : BlockHolds
unfolding block_bytes
block_holds = positive (λ f. f.size) refl

pub track_holds : TrackHolds
track_holds = positive (λ f. f.sectors) refl

pub track_within : TrackWithin
track_within number track side on two =
    let s = (format_of number).sectors in
    let h = track * heads + side in
    let tracks : h + 1 ≤ (format_of number).cylinders * heads = omega arith in
    rw (geometry number) (omega (arith, mul-le-mul_right s tracks, add-mul h 1 s, one-mul s))

-- so that an address and a length fit their bytes of a packet
pub few_blocks : (number : ℕ) → (format_of number).blocks ≤ 2880
few_blocks = small (λ f. f.blocks) 2880 refl

-- a track fits its byte
pub few_cylinders : (number : ℕ) → (format_of number).cylinders ≤ 80
few_cylinders = small (λ f. f.cylinders) 80 refl

-- and a block length three bytes of a list
pub small_blocks : (number : ℕ) → (format_of number).size ≤ 1024
small_blocks = small (λ f. f.size) 1024 refl

-- blocks after blocks are bytes after bytes
pub run_add : (number m n : ℕ) → run_bytes number (m + n) ≡ run_bytes number m + run_bytes number n
unfolding run_bytes
run_add number m n = add-mul m n (block_bytes number)

-- blocks on the disc are bytes on the disc
pub run_within : (number from n : ℕ) → from + n ≤ (format_of number).blocks → run_bytes number from + run_bytes number n ≤ disc_bytes number
unfolding disc_bytes run_bytes
run_within number from n h = rw (← run_add number from n) (mul-le-mul_right (block_bytes number) h)

-- a number past the table is no disc's
pub past_the_table : (number : ℕ) → 5 ≤ number → no_format ≡ format_of number
unfolding format_of
past_the_table number past = sym (get_or-eq_default formats no_format past)

-- as many blocks as an address may count are bytes that a size may count
pub run_fits : (blocks number : ℕ) → blocks ≤ 4294967295 → blocks * block_bytes number ≤ 4398046510080
run_fits blocks number few = omega (arith, mul-le-mul few (block_fits number))
