-- What holds of every step. Assumes nothing.
use Rattle.std.specs.Prelude.{◌≡◌, ◌&&◌, ◌++◌, ◌<◌, ◌≤◌, Option, Some, None}
use Rattle.ground.specs.Kit.{refl, sym, ap, ◌∙◌, Bool, true, false, cond, not, or-false, true≢false, false≢true, List, ℕ, arith, eqb, length, drop}
use Rattle.record.specs.declared.{Record.Record}
use Rattle.state.specs.declared.{State.State}
use Rattle.player.specs.declared.{Progress.Progress}
use Rattle.house.specs.World.{World}
use Rattle.drive.specs.Calls as call
use Rattle.text.specs.Ink.{ink}
use Rattle.text.proofs.Putting.{fits_first, stays_in_line}
use Rattle.record.specs.Records.{record_of}
use Rattle.record.specs.Waiting.{enough_b}
use Rattle.record.specs.Holding.{There, Holds}
use Rattle.record.specs.declared.Record.TheVariants.{Insert, Eject, Command, Feed, Pull}
use Rattle.record.proofs.Waiting.{enough_tells, few_come, behind_header}
use Rattle.record.proofs.Holding.{all_hold}
use Rattle.ground.proofs.Truth.{neither}
use Rattle.player.specs.Playing.{called_of, said_of}
use Rattle.player.specs.Lines.{line_of}
use Rattle.player.specs.Steps.{Stepped, stepped, ready_b, waiting, played_of, step_of}
use Rattle.player.specs.Theorems.{UsesWhatIsThere, EndsInLine, WholeLine, WaitsForFew, WhateverFollows, OneStep}
use Rattle.player.proofs.Lengths.{fits_line}

module _ (w : World) (number : ℕ) (script : List ℕ) (ended : Bool) (line : List ℕ) where
  -- what holds of a step that plays and of one that waits
  pub by_ready : (P : Stepped → Type 0) → (ready_b script ended ≡ true → P (played_of number script line (said_of w script (record_of script))))
      → (ready_b script ended ≡ false → P (waiting w line)) → P (step_of w number script ended line)
  unfolding step_of
  by_ready P plays waits = here (ready_b script ended) refl
    where
      here : (b : Bool) → ready_b script ended ≡ b
          → P (cond b (played_of number script line (said_of w script (record_of script))) (waiting w line))
      here true e = plays e
      here false e = waits e

-- a record that isn't bad is whole
pub there : (w : World) (script : List ℕ) (r : Option Record) → Holds r script → (said_of w script r).bad ≡ false → There script
there w script (Some (Insert number prot)) h _ = h
there w script (Some Eject) h _ = h
there w script (Some Command) h _ = h.0
there w script (Some (Feed n)) h _ = h.0
there w script (Some (Pull n)) h _ = h.0
there w script None h e = absurd (true≢false e)

pub uses_what_is_there : UsesWhatIsThere
unfolding played_of
uses_what_is_there w number script ended line =
    by_ready w number script ended line (λ s. s.bad ≡ false → s.used ≤ length script)
    (λ _ good. (there w script (record_of script) (all_hold script) good).1)
    (λ _ _. omega arith)

pub ends_in_line : EndsInLine
unfolding played_of
ends_in_line w number script ended line =
    by_ready w number script ended line (λ s. (s.line.at ≤ length line) × (length s.line.line ≡ length line))
    (λ _. stays_in_line (ink 0 line) (line_of number (said_of w script (record_of script))) (omega arith))
    (λ _. (omega arith, refl))

pub whole_line : WholeLine
unfolding played_of
whole_line w number script ended line h =
    let text = line_of number (said_of w script (record_of script)) in
    by_ready w number script ended line
    (λ s. s.waits ≡ false → s.line ≡ ink (length (text)) (text ++ drop (length text) line))
    (λ _ _. fits_first line (line_of number (said_of w script (record_of script))) (let n = fits_line w number script in omega (arith, n, h)))
    (λ _ e. absurd {0} (true≢false e))

pub waits_for_few : WaitsForFew
unfolding played_of
waits_for_few w number script ended line =
    by_ready w number script ended line (λ s. s.waits ≡ true → length script < 516) (λ _ e. absurd (false≢true e)) (λ e _. few_come script (neither (enough_b script) (ended && not (eqb (length script) 0)) e).0)

-- a record that was told is played alike, whatever comes behind it
pub alike : (w : World) (script more : List ℕ) (r : Option Record) → Holds r script → said_of w (script ++ more) r ≡ said_of w script r
alike w script more (Some (Insert number prot)) h = refl
alike w script more (Some Eject) h = refl
alike w script more (Some Command) h = ap (λ (p : List ℕ). called_of w (call.Command p)) (behind_header script more 12 (omega (arith, h.0.1, h.1)))
alike w script more (Some (Feed n)) h = ap (λ (p : List ℕ). called_of w (call.Feed p)) (behind_header script more n (omega (arith, h.0.1, h.1)))
alike w script more (Some (Pull n)) h = refl
alike w script more None h = refl

pub whatever_follows : WhateverFollows
unfolding step_of played_of
whatever_follows w number script more ended line =
    by_ready w number script false line (λ s. s.waits ≡ false → step_of w number (script ++ more) ended line ≡ s)
    (λ e _. let told = enough_tells script (sym (or-false (enough_b script)) ∙ e) in
    rw (told.still more, told.same more, told.long more, alike w script more (record_of script) (all_hold script)))
    (λ _ e. absurd (true≢false e))

-- a step's answer alone
abbrev answer : Stepped → Option Progress
answer s =
    cond s.waits None
    (Some (record { bad = s.bad; used = s.used; length = s.line.at; house = s.house; count = s.count; state = s.world.state }))

answers : (state : State) (r : Option Progress) (line buffer disc : List ℕ) → answer (stepped state r line buffer disc) ≡ r
answers state (Some r) line buffer disc = refl
answers state None line buffer disc = refl

lines : (state : State) (r : Option Progress) (line buffer disc : List ℕ)
    → let s = stepped state r line buffer disc in (s.line.line ≡ line) × (s.world.buffer ≡ buffer) × (s.world.disc ≡ disc)
lines state (Some r) line buffer disc = (refl, refl, refl)
lines state None line buffer disc = (refl, refl, refl)

pub one_step : OneStep
one_step s state r q line buffer disc line' buffer' disc' e f =
    let same = e ∙ sym f in
    let (l, b, d) = lines state r line buffer disc in
    let (l', b', d') = lines state q line' buffer' disc' in (
      sym (answers state r line buffer disc) ∙ ap answer same ∙ answers state q line' buffer' disc',
      sym l ∙ ap (λ (s : Stepped). s.line.line) same ∙ l',
      sym b ∙ ap (λ (s : Stepped). s.world.buffer) same ∙ b',
      sym d ∙ ap (λ (s : Stepped). s.world.disc) same ∙ d',
    )
