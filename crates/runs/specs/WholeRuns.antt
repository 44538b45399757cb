-- A whole run of the bench player: "It reads a script from standard input."
use Rattle.std.specs.Prelude.{◌≡◌, ◌++◌, ◌+◌, ◌-◌, ◌≤◌}
use Rattle.ground.specs.Kit.{Bool, true, false, cond, List, ℕ, zero, suc, eqb, length, take, drop, replicate}
use Rattle.state.specs.States.{power_on}
use Rattle.house.specs.World.{World, world}
use Rattle.record.specs.Records.{length_field, record_of}
use Rattle.window.specs.Streams.{Turn, Machine, Closing}
use Rattle.text.specs.Ink.{ink}
use Rattle.explain.specs.Explaining.{explained_text}
use Rattle.player.specs.Playing.{Said, said_of}
use Rattle.player.specs.Lines.{line_of}
use Rattle.player.specs.Steps.{Stepped, step_of}
use Rattle.turns.specs.Turns.{next_of, worded_line, worded}

-- what is printed of a record: its line; with `--explain` its words stand behind the line, in the place of the line feed
unfoldable pub printed_line : Bool → ℕ → List ℕ → Said → List ℕ
printed_line explain number script s =
    let line = line_of number s in
    cond explain (take (length line - 1) line ++ explained_text script s.house s.world.state.host.sense s.count) line

-- the lines of a script from a world and a record number on, and what is said last, by whether a bad record has stopped the run; n bounds the records
abbrev pub lines_from : Bool → (Bool → List ℕ) → ℕ → World → ℕ → List ℕ → List ℕ
lines_from explain last zero w number script = last false
lines_from explain last (suc n) w number script =
    let s = said_of w script (record_of script) in
    cond (eqb (length script) 0) (last false)
    (printed_line explain number script s
    ++ cond s.bad (last true) (lines_from explain last n s.world (number + 1) (drop (length_field script) script)))

-- "record number from 1"; every record that is played has a byte at the least
unfoldable pub lines_then : Bool → (Bool → List ℕ) → World → List ℕ → List ℕ
lines_then explain last w script = lines_from explain last (length script) w 1 script

-- the bench at the start: "one 32,768-byte disc, zeros at the start", none in; the block buffer holds zeros, too
unfoldable pub bench : World
bench = world power_on (replicate 1024 0) (replicate 32768 0)

-- what the bench player keeps from one record to the next: its world, the number of the next record, and the buffer of the line
pub record Bench : Type 0 where
  pub world : World
  pub number : ℕ
  pub line : List ℕ

abbrev pub bench_of : World → ℕ → List ℕ → Bench
bench_of w number line = record { world = w; number = number; line = line }

-- a step, as a turn of a machine that reads (`window` specs/Streams)
abbrev pub turn_by : ℕ → Stepped → Turn Bench
turn_by number s =
    record {
      waits = s.waits;
      stops = s.bad;
      used = s.used;
      says = take s.line.at s.line.line;
      next = bench_of s.world (next_of s.waits number) s.line.line;
    }

abbrev pub playing : Bool → Machine Bench
playing explain b unread ended = turn_by b.number (worded explain unread (step_of b.world b.number unread ended b.line))

-- what is said last goes by whether a bad record has stopped the run
abbrev pub closing : (Bool → List ℕ) → Closing Bench
closing last bad b = last bad

-- 1,300 bytes hold all that is printed of a record, and what is behind it stays
abbrev pub WholePrinted : Type 0
WholePrinted = (explain : Bool) (w : World) (number : ℕ) (script : List ℕ) (ended : Bool) (line : List ℕ) → 1300 ≤ length line
    → (step_of w number script ended line).waits ≡ false
    → let text = printed_line explain number script (said_of w script (record_of script)) in
    worded_line explain script (step_of w number script ended line) ≡ ink (length text) (text ++ drop (length text) line)
