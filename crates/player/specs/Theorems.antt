-- What holds of every step. Each is proved in `proofs/` under the name in small letters, `UsesWhatIsThere` as `uses_what_is_there`.
use Rattle.std.specs.Prelude.{◌≡◌, ◌++◌, ◌<◌, ◌≤◌, Option}
use Rattle.ground.specs.Kit.{Bool, true, false, List, ℕ, length, drop}
use Rattle.state.specs.declared.{State.State}
use Rattle.player.specs.declared.{Progress.Progress}
use Rattle.house.specs.World.{World}
use Rattle.text.specs.Ink.{ink}
use Rattle.record.specs.Records.{record_of}
use Rattle.player.specs.Playing.{said_of}
use Rattle.player.specs.Lines.{line_of}
use Rattle.player.specs.Steps.{Stepped, stepped, step_of}

-- a record that was played is there whole
abbrev pub UsesWhatIsThere : Type 0
UsesWhatIsThere = (w : World) (number : ℕ) (script : List ℕ) (ended : Bool) (line : List ℕ)
    → (step_of w number script ended line).bad ≡ false → (step_of w number script ended line).used ≤ length script

-- a line ends within what was lent for it, which is as long as it was
abbrev pub EndsInLine : Type 0
EndsInLine = (w : World) (number : ℕ) (script : List ℕ) (ended : Bool) (line : List ℕ)
    → let i = (step_of w number script ended line).line in (i.at ≤ length line) × (length i.line ≡ length line)

-- 1,100 bytes hold every line whole
abbrev pub WholeLine : Type 0
WholeLine = (w : World) (number : ℕ) (script : List ℕ) (ended : Bool) (line : List ℕ) → 1100 ≤ length line
    → (step_of w number script ended line).waits ≡ false
    → let text = line_of number (said_of w script (record_of script)) in
    (step_of w number script ended line).line ≡ ink (length text) (text ++ drop (length text) line)

-- a step waits for the rest of one record, and none is longer than 516 bytes
abbrev pub WaitsForFew : Type 0
WaitsForFew = (w : World) (number : ℕ) (script : List ℕ) (ended : Bool) (line : List ℕ)
    → (step_of w number script ended line).waits ≡ true → length script < 516

-- a step that does not wait is the same whatever comes behind the bytes that it saw
abbrev pub WhateverFollows : Type 0
WhateverFollows = (w : World) (number : ℕ) (script more : List ℕ) (ended : Bool) (line : List ℕ)
    → (step_of w number script false line).waits ≡ false → step_of w number (script ++ more) ended line ≡ step_of w number script false line

-- two answers that the promise of a step allows are equal: the answer, and each byte of line, block buffer and disc
abbrev pub OneStep : Type 0
OneStep = (s : Stepped) (state : State) (r q : Option Progress) (line buffer disc line' buffer' disc' : List ℕ)
    → stepped state r line buffer disc ≡ s → stepped state q line' buffer' disc' ≡ s → (r ≡ q) × (line ≡ line') × (buffer ≡ buffer') × (disc ≡ disc')
