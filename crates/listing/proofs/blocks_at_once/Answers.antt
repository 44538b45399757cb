use Rattle.std.specs.Prelude.{◌≡◌, ◌<◌, ◌/◌, Option, Some, None, unwrap_or}
use Rattle.std.specs.Option.{SomeIff}
use Rattle.std.proofs.Math.Nat.{div-zero}
use Rattle.ground.specs.Kit.{ℕ, arith}
use Rattle.disc.specs.Formats.{block_bytes}
use Rattle.listing.specs.Turns.{blocks_at_once}
use Rattle.listing.proofs.blocks_at_once.Goals as goal

-- no part of nothing
divided : (o : Option ℕ) (a d : ℕ) → SomeIff o (0 < d) (a / d) → unwrap_or o 0 ≡ a / d
divided None a d h = let none : d ≡ 0 = omega (arith, h) in rw (none, div-zero a)
divided (Some q) a d h = h.1

pub returns : goal.returns
unfolding blocks_at_once block_bytes
returns c =
    let there = divided _ _ _ c.checked_div.ensures in
    rw (c.min-3.ensures, c.min-2.ensures, c.unwrap_or-there.ensures, there, c.min.ensures, c.saturating_sub-left.ensures, c.format_of-format.ensures)
