-- The loop of the program `bench`: a turn, its line, and a read where one is due.
use Rattle.std.specs.Prelude.{◌≡◌, ◌++◌, ◌+◌, ◌-◌, ◌^◌, ◌<◌, ◌≤◌, Some}
use Rattle.ground.specs.Kit.{Bool, true, false, List, [], ℕ, zero, suc, length, take, drop, get_or}
use Rattle.turns.specs.declared.{Ahead.Ahead}
use Rattle.turns.specs.declared.Ahead.TheVariants.{Read, Turn, End, Stop}
use Rattle.window.specs.Windows.{held}
use Rattle.window.specs.Streams.{brings}
use Rattle.window.specs.Loops.{Leaves, refilled}
use Rattle.turns.specs.Turns.{Turned, turned, start_of, turn_of, came_of}
use Rattle.runs.specs.WholeRuns.{lines_then, bench}

-- a read into the room
abbrev pub reread : (List ℕ → List ℕ) → Turned → List ℕ → Turned
reread leaves t more =
    let room = (refilled leaves (held t.run.window t.room) more).room in
    turned (came_of t.run (Some (length more)) room) room t.buffer t.disc t.line

-- by what comes next of a run: what is printed after a read, or goes on, or what is said last
abbrev pub going : (Bool → List ℕ) → List ℕ → List ℕ → Ahead → List ℕ
going last read on Read = read
going last read on Turn = on
going last read on End = last false
going last read on Stop = last true

-- what is printed after a turn, with what is printed from then on; once the run is not on any more, what is said last: the exit status
abbrev pub run_turn : (Bool → List ℕ) → (Turned → List ℕ → List ℕ → List ℕ) → (List ℕ → List ℕ) → Turned → List ℕ → List ℕ → List ℕ
run_turn last on leaves t coming parts =
    let more = brings (length t.room - t.run.window.upto) (get_or parts 0 0) coming in
    take t.run.length t.line ++ going last (on (reread leaves t more) (drop (length more) coming) (drop 1 parts)) (on t coming parts) t.run.ahead

-- what so many turns print, with the bytes that are still to come and the parts in which they do
abbrev pub running : Bool → (Bool → List ℕ) → (ℕ → List ℕ → List ℕ) → ℕ → Turned → List ℕ → List ℕ → List ℕ
running explain last leaves zero t coming parts = []
running explain last leaves (suc n) t coming parts =
    run_turn last (running explain last leaves n) (leaves n) (turn_of t.run explain t.room t.buffer t.disc t.line) coming parts

-- in whatever parts the script comes, the program prints its lines, comes to its end, and tells then whether a record was bad
abbrev pub AnyRun : Type 0
AnyRun = (explain : Bool) (last : Bool → List ℕ) (leaves : ℕ → List ℕ → List ℕ) → Leaves leaves
    → (script parts room line : List ℕ) → 516 ≤ length room → 1300 ≤ length line → length script < 2 ^ 64 - 1
    → (n : ℕ) → length script + length script + 2 ≤ n
    → running explain last leaves n (turned start_of room bench.buffer bench.disc line) script parts ≡ lines_then explain last bench script
