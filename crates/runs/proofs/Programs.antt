-- The loop of the program is the loop of the bench player's machine. Assumes nothing.
use Rattle.std.specs.Prelude.{◌≡◌, ◌++◌}
use Rattle.ground.specs.Kit.{refl, ap, ◌∙◌, Bool, true, false, List, ℕ, zero, suc, arith, take, length}
use Rattle.window.specs.declared.{Window.Window}
use Rattle.house.specs.World.{World, world}
use Rattle.text.specs.Ink.{Ink}
use Rattle.record.specs.Records.{length_field, record_of}
use Rattle.window.specs.Windows.{held, unread, within_of}
use Rattle.window.specs.Loops.{loop_turn, looping}
use Rattle.window.proofs.Loops.{any_loop}
use Rattle.player.specs.Playing.{said_of}
use Rattle.player.specs.Steps.{Stepped, played_of, waiting}
use Rattle.player.proofs.Theorems.{by_ready}
use Rattle.turns.specs.Turns.{Turned, turned, worded_line, worded, left_by, turn_of}
use Rattle.runs.specs.WholeRuns.{lines_then, bench, Bench, bench_of, turn_by, playing, closing}
use Rattle.runs.specs.Programs.{run_turn, running, AnyRun}
use Rattle.runs.proofs.WholeRuns.{steady, lines_said}

-- what the machine keeps, in what the program keeps
abbrev bench_in : Turned → Bench
bench_in t = bench_of (world t.run.state t.buffer t.disc) t.run.number t.line

module _ (explain : Bool) (last : Bool → List ℕ) (leaves : ℕ → List ℕ → List ℕ) where
  -- so many turns of the program are turns of the machine's loop
  abbrev Follows : ℕ → Type 0
  Follows n = (t : Turned) (coming parts : List ℕ)
      → running explain last leaves n t coming parts
      ≡ looping (playing explain) (closing last) leaves n (bench_in t) (held t.run.window t.room) coming parts

  module _ (n : ℕ) (on : Follows n) (t : Turned) (coming parts : List ℕ) where
    abbrev window : Window
    window = within_of t.run.window t.room

    abbrev w : World
    w = world t.run.state t.buffer t.disc

    abbrev bytes : List ℕ
    bytes = unread window t.room

    -- after a step the program prints what the machine says
    abbrev Alike : Stepped → Type 0
    Alike s =
        run_turn last (running explain last leaves n) (leaves n) (left_by window t.room t.run.number s) coming parts
        ≡ loop_turn (closing last) (looping (playing explain) (closing last) leaves n) (leaves n) (bench_in t) (turn_by t.run.number s) window t.room coming parts

    plays-on : (bad : Bool) (used : ℕ) (i : Ink) (house count : ℕ) (v : World)
        → Alike (record { waits = false; bad = bad; used = used; line = i; house = house; count = count; world = v })
    plays-on true used i house count v = refl
    plays-on false used i house count v = ap (λ (more : List ℕ). take i.at i.line ++ more) (on _ coming parts)

    waits-on : (ended : Bool) → window.ended ≡ ended → Alike (waiting w t.line)
    waits-on true e = rw e
    waits-on false e = rw e (on _ _ _)

    one_turn : running explain last leaves (suc n) t coming parts
        ≡ looping (playing explain) (closing last) leaves (suc n) (bench_in t) (held t.run.window t.room) coming parts
    unfolding turn_of played_of worded_line
    one_turn =
        let s = said_of w bytes (record_of bytes) in
        by_ready w t.run.number bytes window.ended t.line (λ u. Alike (worded explain bytes u))
        (λ _. plays-on s.bad (length_field bytes) (worded_line explain bytes (played_of t.run.number bytes t.line s)) s.house s.count s.world)
        (λ _. waits-on window.ended refl)

  follows : (n : ℕ) → Follows n
  follows zero t coming parts = refl
  follows (suc n) t coming parts = one_turn n (follows n) t coming parts

pub any_run : AnyRun
unfolding bench lines_then
any_run explain last leaves keeps script parts room line holds wide few n h =
    follows explain last leaves n (turned _ room bench.buffer bench.disc line) script parts
    ∙ any_loop (playing explain) (closing last) leaves keeps room (steady explain (length room) holds) (bench_of bench 1 line) script parts n h
    ∙ lines_said explain last (length script) bench 1 script line (record { wide = wide; few = omega (arith, few) })
