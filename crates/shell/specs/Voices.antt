-- How a program is heard: the status that is left of its voice.
use Rattle.std.specs.Prelude.{◌≡◌, ◌++◌, ◌≤◌}
use Rattle.ground.specs.Kit.{Bool, true, cond, List, ℕ, length}
use Rattle.ground.specs.Bytes.{text}
use Rattle.text.specs.declared.Line.{Line}
use Rattle.text.specs.Plain.{plain_of}
use Rattle.shell.specs.declared.Voice.{Voice}

-- one that had fallen silent keeps its status; one that falls silent, since nobody reads any more, has that of the signal PIPE; any other is told
abbrev pub status_left : Bool → ℕ → Bool → ℕ → ℕ
status_left was_silent before is_silent told = cond was_silent before (cond is_silent 141 told)

-- what is left of a voice that is told a status: silence lasts, the status is settled, and the program keeps its name
pub record Left (old new : Voice) (told : ℕ) : Type 0 where
  pub lasting : old.silent ≡ true → new.silent ≡ true
  pub status : new.status ≡ status_left old.silent old.status new.silent told
  pub program : new.program.now ≡ old.program.now

-- what a complaint begins with: the program, and what it is about, of which a reader sees every byte
abbrev pub subject_text : List ℕ → List ℕ → List ℕ
subject_text program name = program ++ (text ": " ++ plain_of name)

-- what is put into a line stays within it
abbrev pub OnLine : Line → Line → Type 0
OnLine old new = old.at ≤ length old.bytes.now → (new.at ≤ length new.bytes.now) × (length new.bytes.now ≡ length old.bytes.now)
