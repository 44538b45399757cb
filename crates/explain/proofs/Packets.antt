-- A command has its packet. Assumes nothing.
use Rattle.std.specs.Prelude.{◌≡◌, ◌≤◌, Option, Some}
use Rattle.ground.specs.Kit.{subst, arith, List, ℕ, length}
use Rattle.record.specs.declared.{Record.Record}
use Rattle.record.specs.declared.Record.TheVariants.{Command}
use Rattle.record.specs.Records.{record_of}
use Rattle.record.specs.Holding.{Holds}
use Rattle.record.proofs.Holding.{all_hold}

pub command_fits : (bytes : List ℕ) → record_of bytes ≡ Some Command → 16 ≤ length bytes
command_fits bytes e = let h = subst (λ (r : Option Record). Holds r bytes) e (all_hold bytes) in omega (arith, h.0.1, h.1)
