-- What a program is given by the shell that starts it.
use Rattle.std.specs.Prelude.{◌&&◌, ◌||◌, ◌≤◌, Result, IfOk, Some, is_some}
use Rattle.std.specs.Str.{bytes_eq}
use Rattle.std.specs.declared.env.FillError.{FillError}
use Rattle.ground.specs.Kit.{Bool, cond, not, List, ℕ, eqb, leb, length}
use Rattle.shell.specs.declared.{Options.Options}
use Rattle.ground.specs.Bytes.{text, byte_at}

-- an argument that is given lies within the room that was lent for it
abbrev pub Within : Result ℕ FillError → ℕ → Type 0
Within told room = IfOk told (λ n. n ≤ room)

-- a word of two bytes at the least that begins with `-`
abbrev pub option_b : List ℕ → Bool
option_b word = leb 2 (length word) && eqb (byte_at word 0) 45

-- an option that is not known is wrong
unfoldable pub with_option : Options → List ℕ → Options
with_option options word =
    let explain = bytes_eq word (text "--explain") in
    let quiet = bytes_eq word (text "--quiet") in
    record options {
      wrong = options.wrong || not (explain || quiet);
      explain = options.explain || explain;
      quiet = options.quiet || quiet;
    }

-- and so is a second file
abbrev pub with_file : Options → ℕ → Options
with_file options i = record options { wrong = options.wrong || is_some options.file; file = Some i }

unfoldable pub with_word : Options → ℕ → List ℕ → Options
with_word options i word = cond (option_b word) (with_option options word) (with_file options i)
