use Rattle.std.specs.Prelude.{◌≡◌}
use Rattle.ground.specs.Kit.{drop}
use Rattle.text.specs.Ink.{inked}
use Rattle.explain.specs.Words.{row_text}
use Rattle.explain.proofs.words.put_row.Given as goal

abbrev pub invariant-loop-row : goal.invariant-loop-row
invariant-loop-row l = (inked l.line ≡ inked l.initial.line) × (row_text l.key (drop l.row-index l.rows) ≡ row_text l.key l.rows)
