-- The bench player, a record at a time.
use Rattle.std.specs.Prelude.{◌&&◌, ◌||◌, Option, Some, None}
use Rattle.ground.specs.Kit.{Bool, true, false, cond, not, List, ℕ, eqb, length}
use Rattle.state.specs.declared.{State.State}
use Rattle.player.specs.declared.{Progress.Progress}
use Rattle.house.specs.World.{World, world}
use Rattle.text.specs.Ink.{Ink, ink, put_all}
use Rattle.record.specs.Records.{length_field, record_of}
use Rattle.record.specs.Waiting.{enough_b}
use Rattle.player.specs.Playing.{Said, said_of}
use Rattle.player.specs.Lines.{line_of}

-- whether it waits, whether the record was bad, how many bytes it says it has, the line with its length, the house number, the count, and the
-- bench's world after
pub record Stepped : Type 0 where
  pub waits : Bool
  pub bad : Bool
  pub used : ℕ
  pub line : Ink
  pub house : ℕ
  pub count : ℕ
  pub world : World

-- nothing is played, and no line is printed
abbrev pub waiting : World → List ℕ → Stepped
waiting w line = record { waits = true; bad = false; used = 0; line = ink 0 line; house = 0; count = 0; world = w }

-- the answer of a step in that state, with what it was lent
abbrev pub stepped : State → Option Progress → List ℕ → List ℕ → List ℕ → Stepped
stepped state (Some r) line buffer disc =
    record {
      waits = false;
      bad = r.bad;
      used = r.used;
      line = ink r.length line;
      house = r.house;
      count = r.count;
      world = world r.state buffer disc;
    }
stepped state None line buffer disc = waiting (world state buffer disc) line

-- the record at the front can be told: from the bytes that have come, or because there are no more
abbrev pub ready_b : List ℕ → Bool → Bool
ready_b script ended = enough_b script || (ended && not (eqb (length script) 0))

-- "Each record prints a line"; "and the run stops"
unfoldable pub played_of : ℕ → List ℕ → List ℕ → Said → Stepped
played_of number script line s =
    record {
      waits = false;
      bad = s.bad;
      used = length_field script;
      line = put_all (ink 0 line) (line_of number s);
      house = s.house;
      count = s.count;
      world = s.world;
    }

unfoldable pub step_of : World → ℕ → List ℕ → Bool → List ℕ → Stepped
step_of w number script ended line =
    cond (ready_b script ended) (played_of number script line (said_of w script (record_of script))) (waiting w line)
