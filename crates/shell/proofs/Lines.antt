-- What is put into a line stays within it. Assumes nothing.
use Rattle.std.specs.Prelude.{◌≡◌}
use Rattle.ground.specs.Kit.{ap, ◌∙◌, List, ℕ, length}
use Rattle.text.specs.Ink.{Inked, ink, inked, put_all, put_on}
use Rattle.text.specs.declared.Line.{Line}
use Rattle.text.proofs.Putting.{stays_in_line}
use Rattle.shell.specs.Voices.{OnLine}

pub on_line : (old new : Line) (t : List ℕ) → inked new ≡ put_on (inked old) t → OnLine old new
on_line old new t e within =
    let after = put_all (ink old.at old.bytes.now) t in
    let line : new.bytes.now ≡ after.line = ap (λ (i : Inked). i.ink.line) e in
    let at : new.at ≡ after.at = ap (λ (i : Inked). i.ink.at) e in
    let (stays, same) = stays_in_line (ink old.at old.bytes.now) t within in
    (rw (at, line, same) stays, ap (λ (l : List ℕ). length l) line ∙ same)
