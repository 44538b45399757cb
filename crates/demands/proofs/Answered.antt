-- Demand 1 of our drive. Assumes nothing.
use Rattle.std.specs.Prelude.{◌≡◌, Ok, Err}
use Rattle.ground.specs.Kit.{refl, sym, ◌∙◌, true, false, true≢false, false≢true, List, ℕ}
use Rattle.state.specs.States.{obeyed_of}
use Rattle.checks.specs.Verdicts.{Verdict, verdict}
use Rattle.house.specs.World.{World, in_buffer}
use Rattle.commands.specs.Obeying.{reply_to}
use Rattle.drive.specs.Calls.{Call, Insert, Eject, Command, Feed, Pull, house_of, call_of}
use Rattle.drive.proofs.Calling.{accepted, numbered, refused}
use Rattle.drive.proofs.Staying.{keeps, stays}
use Rattle.demands.specs.Device.{drive}
use Rattle.demands.specs.Answered.{event_b, Failed, Answered}

-- past the house tests the verdict decides
pub judged_by : (w : World) (p : List ℕ) → (call_of w (Command p)).heard.house ≡ 0
    → call_of w (Command p) ≡ reply_to (verdict w.state.media w.state.host p) w p
judged_by w p none = accepted w (Command p) (sym (numbered w (Command p)) ∙ none)

failed : (w : World) (p : List ℕ) → (call_of w (Command p)).heard.house ≡ 0 → (call_of w (Command p)).heard.passed ≡ false
    → Failed w p (call_of w (Command p))
unfolding obeyed_of
failed w p none e = rw (judged_by w p none) (here (verdict w.state.media w.state.host p) refl (rw (judged_by w p none) at e))
  where
    here : (v : Verdict) → verdict w.state.media w.state.host p ≡ v → (reply_to v w p).heard.passed ≡ false → Failed w p (reply_to v w p)
    here (Ok rule) q f = absurd (true≢false f)
    here (Err sense) q f = record { sets = rw q; heard = refl; closes = refl; disc = refl; buffer = refl }

events : (w v : World) (c : Call) → event_b c ≡ true → house_of w c ≡ 0 → w.state ≡ v.state
    → call_of w c ≡ record { heard = (call_of v c).heard; world = in_buffer (call_of v c).world w.buffer }
events w v c event none same = here c event none
  where
    here : (c : Call) → event_b c ≡ true → house_of w c ≡ 0 → call_of w c ≡ record { heard = (call_of v c).heard; world = in_buffer (call_of v c).world w.buffer }
    here (Insert number prot disc) event none = rw (accepted w (Insert number prot disc) none, accepted v (Insert number prot disc) (rw same at none), same)
    here Eject event none = rw (accepted w Eject none, accepted v Eject (rw same at none), same)
    here (Command p) event none = absurd (false≢true event)
    here (Feed piece) event none = absurd (false≢true event)
    here (Pull out) event none = absurd (false≢true event)

pub answered : Answered drive
answered =
    record {
      numbered = numbered;
      refused = refused;
      events = λ w v c event none same. events w v c event none (rw same);
      failed = failed;
      starts = refl;
      keeps = keeps;
      stays = stays;
    }
