-- The end of a block, told from two rests. Assumes nothing.
use Rattle.std.specs.Prelude.{◌≡◌, ◌+◌, ◌%◌, ◌≤◌}
use Rattle.ground.specs.Kit.{sym, ℕ, add-mod}
use Rattle.disc.specs.Formats.{block_bytes}
use Rattle.disc.proofs.Discs.{block_fits}

pub rests_add : (a b n : ℕ) → (a % n + b % n) % n ≡ (a + b) % n
rests_add a b n = sym (add-mod a b n)

pub small_block : (number : ℕ) → block_bytes number ≤ 1024
small_block = block_fits
