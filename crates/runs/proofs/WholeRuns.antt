-- In whatever parts a script comes, the same lines are printed. Assumes nothing.
use Rattle.std.specs.Prelude.{◌≡◌, ◌∷◌, ◌++◌, ◌+◌, ◌-◌, ◌^◌, ◌<◌, ◌≤◌}
use Rattle.ground.specs.Kit.{refl, sym, ap, ◌∙◌, Bool, true, false, cond, or-true, true≢false, List, [], ℕ, zero, suc, min, arith, eqb-suc-zero, length, drop, length-append, length-drop, take-append_seam}
use Rattle.house.specs.World.{World}
use Rattle.text.specs.Ink.{ink}
use Rattle.record.specs.Records.{length_field, record_of}
use Rattle.record.specs.Waiting.{enough_b}
use Rattle.record.proofs.Holding.{all_hold}
use Rattle.window.specs.Streams.{says_from, Steady}
use Rattle.player.specs.Playing.{Said, said_of}
use Rattle.player.specs.Steps.{played_of, ready_b, step_of}
use Rattle.player.proofs.Stepping.{waits}
use Rattle.player.proofs.Theorems.{by_ready, there, uses_what_is_there, waits_for_few}
use Rattle.turns.specs.Turns.{worded_line}
use Rattle.runs.specs.WholeRuns.{printed_line, lines_from, Bench, bench_of, turn_by, playing, closing}
use Rattle.runs.proofs.Printing.{whole_printed, whatever_is_behind}

-- where there are no more bytes to come, every record can be told
all_ready : (x : ℕ) (xs : List ℕ) → ready_b (x ∷ xs) true ≡ true
all_ready x xs = rw (eqb-suc-zero (length xs)) (or-true (enough_b (x ∷ xs)))

-- the bench player is such a machine: any room of 516 bytes will do
pub steady : (explain : Bool) (room : ℕ) → 516 ≤ room → Steady (playing explain) room
unfolding played_of
steady explain room wide =
    record {
      same = λ b bytes more ended e. ap (turn_by b.number) (whatever_is_behind explain b.world b.number bytes more ended b.line e);
      uses = λ b bytes ended e goes. (some b bytes ended e goes, uses_what_is_there b.world b.number bytes ended b.line goes);
      none = none;
      tells = tells;
      few = λ b bytes ended e. omega (arith, waits_for_few b.world b.number bytes ended b.line e, wide);
    }
  where
    some : (b : Bench) (bytes : List ℕ) (ended : Bool) → (playing explain b bytes ended).waits ≡ false → (playing explain b bytes ended).stops ≡ false
        → 0 < (playing explain b bytes ended).used
    some b bytes ended =
        by_ready b.world b.number bytes ended b.line (λ s. s.waits ≡ false → s.bad ≡ false → 0 < s.used)
        (λ _ _ good. omega (arith, (there b.world bytes (record_of bytes) (all_hold bytes) good).0))
        (λ _ e. absurd (true≢false e))

    none : (b : Bench) (ended : Bool) → (playing explain b [] ended).waits ≡ true
    none b true = rw (waits b.world b.number [] true b.line refl)
    none b false = rw (waits b.world b.number [] false b.line refl)

    tells : (b : Bench) (bytes : List ℕ) → 0 < length bytes → (playing explain b bytes true).waits ≡ false
    tells b [] h = absurd (omega (arith, h))
    tells b (x ∷ xs) h =
        by_ready b.world b.number (x ∷ xs) true b.line (λ s. s.waits ≡ false) (λ _. refl)
        (λ e. absurd (true≢false (sym (all_ready x xs) ∙ e)))

-- a line buffer that holds every line, and fewer bytes than numbers
pub record Roomy (number : ℕ) (script line : List ℕ) : Type 0 where
  pub wide : 1300 ≤ length line
  pub few : number + length script < 2 ^ 64

-- what the machine says of a script that is there whole: its lines
abbrev pub Lines : Bool → (Bool → List ℕ) → ℕ → Type 0
Lines explain last n = (w : World) (number : ℕ) (script line : List ℕ) → Roomy number script line
    → says_from (playing explain) (closing last) n (bench_of w number line) script ≡ lines_from explain last n w number script

module _ (explain : Bool) (last : Bool → List ℕ) (n : ℕ) (rest : Lines explain last n) (w : World) (number x : ℕ) (xs line : List ℕ) (h : Roomy number (x ∷ xs) line) where
  abbrev script : List ℕ
  script = x ∷ xs

  abbrev s : Said
  s = said_of w script (record_of script)

  abbrev text : List ℕ
  text = printed_line explain number script s

  -- the buffer of the line with the line in it
  abbrev printed : List ℕ
  printed = text ++ drop (length text) line

  abbrev used : ℕ
  used = length_field script

  behind : (b : Bool) → s.bad ≡ b
      → cond b (last true) (says_from (playing explain) (closing last) n (bench_of s.world (min (number + 1) (2 ^ 64 - 1)) printed) (drop used script))
      ≡ cond b (last true) (lines_from explain last n s.world (number + 1) (drop used script))
  behind true _ = refl
  behind false good =
      let there = there w script (record_of script) (all_hold script) good in
      let left = length-drop used script in
      let next : min (number + 1) (2 ^ 64 - 1) ≡ number + 1 = omega (arith, h.few) in
      rw next
      (rest s.world (number + 1) (drop used script) printed
      (record {
        wide = omega (arith, length-append text (drop (length text) line), length-drop (length text) line, h.wide);
        few = omega (arith, left, there.0, there.1, h.few);
      }))

  -- a line, and then the rest
  one_line : says_from (playing explain) (closing last) (suc n) (bench_of w number line) script ≡ lines_from explain last (suc n) w number script
  unfolding step_of played_of
  one_line =
      let ready = all_ready x xs in
      let whole : worded_line explain script (step_of w number script true line) ≡ ink (length text) printed =
      whole_printed explain w number script true line h.wide (rw ready) in
      rw (ready, rw ready at whole, take-append_seam text (drop (length text) line), eqb-suc-zero (length xs))
      (ap (λ (more : List ℕ). text ++ more) (behind s.bad refl))

pub lines_said : (explain : Bool) (last : Bool → List ℕ) (n : ℕ) → Lines explain last n
lines_said explain last zero w number script line h = refl
lines_said explain last (suc n) w number [] line h = rw (waits w number [] true line refl)
lines_said explain last (suc n) w number (x ∷ xs) line h = one_line explain last n (lines_said explain last n) w number x xs line h
