-- What a turn leaves, put together from what its parts answered. Assumes nothing.
use Rattle.std.specs.Prelude.{◌≡◌, Option, Some, None, is_some}
use Rattle.ground.specs.Kit.{refl, ap, ◌∙◌, Bool, true, false, not, List, [], ℕ}
use Rattle.turns.specs.declared.{Run.Run}
use Rattle.window.specs.declared.{Window.Window}
use Rattle.state.specs.declared.{State.State}
use Rattle.player.specs.declared.{Progress.Progress}
use Rattle.house.specs.World.{world}
use Rattle.text.specs.Ink.{Ink, ink}
use Rattle.window.specs.Windows.{Held, held, unread, used_of, within_of, due_of, settled_of}
use Rattle.player.specs.Steps.{Stepped, stepped, step_of}
use Rattle.turns.specs.Turns.{Turned, done_of, worded_line, in_line, worded, run_of, turned, left_by, turn_of}

-- whether a step waits
pub waits_of : (state : State) (step : Option Progress) (waits : Bool) → is_some step ≡ not waits → waits ≡ (stepped state step [] [] []).waits
waits_of state (Some r) true e = cc
waits_of state (Some r) false e = refl
waits_of state None true e = refl
waits_of state None false e = cc

module _ (run r : Run) (explain : Bool) (room buffer disc line room' buffer' disc' line' line'' : List ℕ) (window left after : Window) (used length : ℕ) (due : Bool) where
  -- of any step, in the place of the step that was answered
  turned_by : (s : Stepped) → s.world.buffer ≡ buffer' → s.world.disc ≡ disc'
      → window ≡ within_of run.window room
      → s ≡ step_of (world run.state buffer disc) run.number (unread window room) window.ended line
      → ink length line'' ≡ worded_line explain (unread window room) s
      → used ≡ done_of s.bad s.used
      → left ≡ used_of window used
      → due ≡ due_of window s.waits
      → held after room' ≡ settled_of left due room
      → r ≡ run_of s length due after run.number
      → turned r room' buffer' disc' line'' ≡ turn_of run explain room buffer disc line
  unfolding turn_of worded_line
  turned_by s b d within steps words done uses waits settles goes =
      let n = run.number in
      let front = settles ∙ ap (λ (w : Window). settled_of w due room) (uses ∙ ap (used_of window) done) in
      let at-due : Bool → Turned = λ (d : Bool).
      let h = settled_of (used_of window (done_of s.bad s.used)) d room in
      turned (run_of s length d h.window n) h.room s.world.buffer s.world.disc line'' in
      rw (goes, ← b, ← d)
      (ap (λ (h : Held). turned (run_of s length due h.window n) h.room s.world.buffer s.world.disc line'') front
      ∙ ap at-due waits
      ∙ ap (λ (i : Ink). left_by window room n (in_line s i)) words
      ∙ ap (λ (s : Stepped). left_by window room n (worded explain (unread window room) s)) steps
      ∙ ap
      (λ (w : Window).
      left_by w room n (worded explain (unread w room) (step_of (world run.state buffer disc) n (unread w room) w.ended line)))
      within)

  pub turns : (step : Option Progress) (waits : Bool)
      → window ≡ within_of run.window room
      → stepped run.state step line' buffer' disc' ≡ step_of (world run.state buffer disc) run.number (unread window room) window.ended line
      → ((state : State) → ink length line'' ≡ worded_line explain (unread window room) (stepped state step line' [] []))
      → ((state : State) → let s = stepped state step [] [] [] in used ≡ done_of s.bad s.used)
      → left ≡ used_of window used
      → is_some step ≡ not waits
      → due ≡ due_of window waits
      → held after room' ≡ settled_of left due room
      → r ≡ run_of (stepped run.state step [] [] []) length due after run.number
      → turned r room' buffer' disc' line'' ≡ turn_of run explain room buffer disc line
  unfolding worded_line
  turns (Some q) waits within steps words done uses w waited settles goes =
      turned_by (stepped run.state (Some q) line' buffer' disc') refl refl within steps (words run.state) (done run.state) uses
      (waited ∙ ap (due_of window) (waits_of run.state (Some q) waits w)) settles goes
  turns None waits within steps words done uses w waited settles goes =
      turned_by (stepped run.state None line' buffer' disc') refl refl within steps (words run.state) (done run.state) uses
      (waited ∙ ap (due_of window) (waits_of run.state None waits w)) settles goes
