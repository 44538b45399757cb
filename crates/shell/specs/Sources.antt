-- Where a program reads.
use Rattle.std.specs.Prelude.{Option, is_some}
use Rattle.ground.specs.Kit.{Bool}
use Rattle.shell.specs.declared.{Input.Input}

-- whether there is anything to read
abbrev pub open_b : Option Input → Bool
open_b input = is_some input
