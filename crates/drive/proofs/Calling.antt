-- Every call is refused by its house number, or accepted; what a proof has to show of it. Assumes nothing.
use Rattle.std.specs.Prelude.{◌≡◌, Ok, Err}
use Rattle.ground.specs.Kit.{refl, sym, ◌∙◌, Bool, true, false, cond, List, [], ℕ, eqb, length}
use Rattle.state.specs.declared.{State.State}
use Rattle.state.specs.States.{inserted_of, ejected_of}
use Rattle.sound.specs.Soundness.{sound_b}
use Rattle.checks.specs.Verdicts.{Verdict, verdict}
use Rattle.house.specs.World.{World, in_state, in_disc, Reply, reply, refusal, unless_refused}
use Rattle.house.specs.Refusals.{insert_tests, eject_tests, move_tests, command_tests}
use Rattle.house.proofs.Houses.{by_house}
use Rattle.commands.specs.Events.{event_of, insert_of, eject_of}
use Rattle.commands.specs.Obeying.{reply_to, command_of}
use Rattle.feeds.specs.Feeding.{feed_by, feed_of}
use Rattle.feeds.proofs.ByTransfer.{fed_leaves}
use Rattle.pulls.specs.Pulling.{pull_by, pull_of}
use Rattle.pulls.proofs.ByTransfer.{pulled_leaves}
use Rattle.drive.specs.Calls.{Call, Insert, Eject, Command, Feed, Pull, returned, house_of, happens, call_of}

-- the reply to a call that is accepted
abbrev pub accepted_of : World → Call → Reply
accepted_of w (Insert number prot disc) = reply 0 false 0 [] (in_disc (in_state w (inserted_of w.state number prot)) disc)
accepted_of w Eject = reply 0 false 0 [] (in_disc (in_state w (ejected_of w.state)) [])
accepted_of w (Command p) = reply_to (verdict w.state.media w.state.host p) w p
accepted_of w (Feed piece) = feed_by w.state.transfer w piece
accepted_of w (Pull out) = pull_by w.state.transfer w out

event_replies : (w : World) (disc : List ℕ) (house : ℕ) (next : State)
    → happens w disc (event_of house w.state next) ≡ unless_refused house w [] (reply 0 false 0 [] (in_disc (in_state w next) disc))
event_replies w disc house next = here (eqb house 0) refl
  where
    here : (b : Bool) → eqb house 0 ≡ b
        → happens w disc (event_of house w.state next) ≡ cond b (reply 0 false 0 [] (in_disc (in_state w next) disc)) (refusal house w [])
    here true q = rw q
    here false q = rw (q, q)

module _ (w : World) where
  pub by_number : (c : Call) → call_of w c ≡ unless_refused (house_of w c) w (returned c) (accepted_of w c)
  unfolding call_of insert_of eject_of command_of feed_of pull_of
  by_number (Insert number prot disc) = event_replies w disc (house_of w (Insert number prot disc)) (inserted_of w.state number prot)
  by_number Eject = event_replies w [] (house_of w Eject) (ejected_of w.state)
  by_number (Command p) = refl
  by_number (Feed piece) = refl
  by_number (Pull out) = refl

  module _ (c : Call) where
    -- what holds of a refusal and of an accepted call's reply holds of the reply
    pub by_call : (P : Reply → Type 0) → ((house_of w c ≡ 0 → ⊥) → P (refusal (house_of w c) w (returned c))) → (house_of w c ≡ 0 → P (accepted_of w c))
        → P (call_of w c)
    by_call P refuses accepts = rw (by_number c) (by_house P (house_of w c) w (returned c) (accepted_of w c) refuses accepts)

    pub accepted : house_of w c ≡ 0 → call_of w c ≡ accepted_of w c
    accepted none = rw (by_number c, none)

    pub refused : (house_of w c ≡ 0 → ⊥) → call_of w c ≡ refusal (house_of w c) w (returned c)
    refused some = by_call (λ r. r ≡ refusal (house_of w c) w (returned c)) (λ _. refl) (λ none. absurd (some none))

  -- an accepted call has number 0
  judged_none : (p : List ℕ) (v : Verdict) → (reply_to v w p).heard.house ≡ 0
  judged_none p (Err sense) = refl
  judged_none p (Ok rule) = refl

  accepted_none : (c : Call) → (accepted_of w c).heard.house ≡ 0
  accepted_none (Insert number prot disc) = refl
  accepted_none Eject = refl
  accepted_none (Command p) = judged_none p (verdict w.state.media w.state.host p)
  accepted_none (Feed piece) = (fed_leaves w piece).house
  accepted_none (Pull out) = (pulled_leaves w out).house

  pub numbered : (c : Call) → (call_of w c).heard.house ≡ house_of w c
  numbered c = by_call c (λ r. r.heard.house ≡ house_of w c) (λ _. refl) (λ none. accepted_none c ∙ sym none)

-- the house tests ask for soundness, the disc's number and the lengths of what is lent, and for nothing else
pub same_house : (w v : World) → sound_b w.state ≡ sound_b v.state → w.state.media.disc ≡ v.state.media.disc
    → length w.buffer ≡ length v.buffer → length w.disc ≡ length v.disc → (c : Call) → house_of w c ≡ house_of v c
unfolding insert_tests eject_tests move_tests command_tests
same_house w v s n b d (Insert number prot disc) = rw (s, n)
same_house w v s n b d Eject = rw (s, n)
same_house w v s n b d (Command p) = rw (s, n, b, d)
same_house w v s n b d (Feed piece) = rw (s, n, b, d)
same_house w v s n b d (Pull out) = rw (s, n, b, d)
