-- The bench player's loop, a turn at a time.
use Rattle.std.specs.Prelude.{◌&&◌, ◌+◌, ◌-◌, ◌^◌, Option, Some, None}
use Rattle.ground.specs.Kit.{Bool, cond, not, List, ℕ, min}
use Rattle.turns.specs.declared.{Ahead.Ahead, Run.Run}
use Rattle.turns.specs.declared.Ahead.TheVariants.{Read, Turn, End, Stop}
use Rattle.window.specs.declared.{Window.Window}
use Rattle.state.specs.States.{power_on}
use Rattle.house.specs.World.{world}
use Rattle.window.specs.Windows.{unread, opened_of, used_of, within_of, due_of, settled_of}
use Rattle.window.specs.Windows as windows
use Rattle.text.specs.Ink.{Ink, ink, put_all}
use Rattle.explain.specs.Explaining.{explained_text}
use Rattle.player.specs.Steps.{Stepped, step_of}

-- "record number from 1", from power-on; a read is due
abbrev pub start_of : Run
start_of =
    record {
      ahead = Read;
      window = opened_of;
      number = 1;
      state = power_on;
      length = 0;
    }

-- the number of the next record: no run gets as far as the last number of 64 bits
abbrev pub next_of : Bool → ℕ → ℕ
next_of waits number = cond waits number (min (number + 1) (2 ^ 64 - 1))

-- "is bad: it isn't played": how many bytes a record used up
abbrev pub done_of : Bool → ℕ → ℕ
done_of bad used = cond bad 0 used

-- the words of a record behind its line, in the place of the line feed, if they are asked for
unfoldable pub worded_line : Bool → List ℕ → Stepped → Ink
worded_line explain bytes s =
    cond (not s.waits && explain)
    (put_all (ink (s.line.at - 1) s.line.line) (explained_text bytes s.house s.world.state.host.sense s.count))
    s.line

-- the same step with that line
abbrev pub in_line : Stepped → Ink → Stepped
in_line s i = record { waits = s.waits; bad = s.bad; used = s.used; line = i; house = s.house; count = s.count; world = s.world }

abbrev pub worded : Bool → List ℕ → Stepped → Stepped
worded explain bytes s = in_line s (worded_line explain bytes s)

-- what comes after a step: "and the run stops" at a bad record, and it is over where it waits and no read is due
abbrev pub ahead_of : Bool → Bool → Bool → Ahead
ahead_of bad waits due = cond bad Stop (cond waits (cond due Read End) Turn)

-- the run after a step with a line of that length
abbrev pub run_of : Stepped → ℕ → Bool → Window → ℕ → Run
run_of s length due window number =
    record {
      ahead = ahead_of s.bad s.waits due;
      window = window;
      number = next_of s.waits number;
      state = s.world.state;
      length = length;
    }

-- a run with all that it was lent
pub record Turned : Type 0 where
  pub run : Run
  pub room : List ℕ
  pub buffer : List ℕ
  pub disc : List ℕ
  pub line : List ℕ

abbrev pub turned : Run → List ℕ → List ℕ → List ℕ → List ℕ → Turned
turned run room buffer disc line = record { run = run; room = room; buffer = buffer; disc = disc; line = line }

-- what a step leaves that saw the unread bytes of a window within the room
abbrev pub left_by : Window → List ℕ → ℕ → Stepped → Turned
left_by window room number s =
    let due = due_of window s.waits in
    let front = settled_of (used_of window (done_of s.bad s.used)) due room in
    turned (run_of s s.line.at due front.window number) front.room s.world.buffer s.world.disc s.line.line

unfoldable pub turn_of : Run → Bool → List ℕ → List ℕ → List ℕ → List ℕ → Turned
turn_of run explain room buffer disc line =
    let window = within_of run.window room in
    let bytes = unread window room in
    left_by window room run.number
    (worded explain bytes (step_of (world run.state buffer disc) run.number bytes window.ended line))

-- what comes after a read: none is due any more, and one that failed ends the run
abbrev pub read_ahead : Ahead → Option ℕ → Ahead
read_ahead Read (Some got) = Turn
read_ahead Read None = End
read_ahead Turn (Some got) = Turn
read_ahead Turn None = End
read_ahead End read = End
read_ahead Stop read = Stop

abbrev pub came_of : Run → Option ℕ → List ℕ → Run
came_of run read room =
    record {
      ahead = read_ahead run.ahead read;
      window = windows.came_of run.window read room;
      number = run.number;
      state = run.state;
      length = run.length;
    }
