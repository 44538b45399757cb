-- While a change is pending and unannounced, nothing but INQUIRY and REQUEST SENSE passes. Assumes nothing.
use Rattle.std.specs.Prelude.{◌≡◌, ◌∷◌, Ok, Err}
use Rattle.ground.specs.Kit.{refl, sym, ◌∙◌, Bool, true, false, not, and-true, true≢false, false≢true, List, [], ℕ, not-false}
use Rattle.state.specs.declared.{Media.Media, Host.Host}
use Rattle.packet.specs.declared.{Rule.Rule}
use Rattle.ground.proofs.Truth.{neither}
use Rattle.state.specs.Senses.{change_told, same_b}
use Rattle.state.specs.States.{inserted_of, ejected_of, obeyed_of}
use Rattle.sound.specs.Soundness.{sound_b}
use Rattle.packet.specs.Rules.{code_of}
use Rattle.packet.proofs.BaseCommands.{free_b, attended}
use Rattle.checks.specs.Verdicts.{Verdict, verdict}
use Rattle.checks.proofs.Passing.{passed}
use Rattle.house.specs.World.{World, Reply}
use Rattle.house.proofs.Houses.{insert_admits}
use Rattle.commands.specs.Obeying.{reply_to}
use Rattle.feeds.proofs.ByTransfer.{fed_leaves}
use Rattle.pulls.proofs.ByTransfer.{pulled_leaves}
use Rattle.drive.specs.Calls.{Call, Insert, Eject, Command, Feed, Pull, call_of}
use Rattle.drive.proofs.Calling.{accepted_of, accepted, by_call, numbered}
use Rattle.drive.proofs.Commanded.{replied_untold}
use Rattle.drive.proofs.Staying.{keeps}
use Rattle.demands.specs.Device.{Device, after}
use Rattle.demands.specs.Faithful.{answers_b, some_answers_b, Announces}
use Rattle.demands.proofs.AsOurs.{AsOurs}

-- C bars every command that it is asked of
free : (m : Media) (h : Host) (p : List ℕ) (rule : Rule) → h.change ≡ true → verdict m h p ≡ Ok rule → free_b (code_of p) ≡ true
free m h p rule on e =
    let all = passed m h p rule e in
    not-false (free_b (code_of p)) (sym (and-true (not (free_b (code_of p)))) ∙ (rw (on, attended p rule all.known) at all.change))

abbrev Changed : World → Type 0
Changed w = w.state.host.change ≡ true

module _ (w : World) (on : Changed w) where
  -- a command that fails, but not with 06 28 00, or that passes leaves the change pending
  after_verdict : (p : List ℕ) (v : Verdict) → answers_b (Command p) (reply_to v w p).heard ≡ false → Changed (reply_to v w p).world
  unfolding obeyed_of
  after_verdict p (Err sense) e = here (same_b sense change_told) refl
    where
      here : (b : Bool) → same_b sense change_told ≡ b → Changed (reply_to (Err sense) w p).world
      here true q = absurd (true≢false (let z : true ≡ false = cc in z))
      here false q = rw (q, on)
  after_verdict p (Ok rule) e = (replied_untold w p (Ok rule) refl).change ∙ on

  after_accepted : (c : Call) → answers_b c (accepted_of w c).heard ≡ false → Changed (accepted_of w c).world
  unfolding inserted_of ejected_of
  after_accepted (Insert number prot disc) e = refl
  after_accepted Eject e = on
  after_accepted (Command p) e = after_verdict p (verdict w.state.media w.state.host p) e
  after_accepted (Feed piece) e = (fed_leaves w piece).change ∙ on
  after_accepted (Pull out) e = (pulled_leaves w out).change ∙ on

  -- and so does any call that doesn't answer it
  after_any : (c : Call) → answers_b c (call_of w c).heard ≡ false → Changed (call_of w c).world
  after_any c = by_call w c (λ (a : Reply). answers_b c a.heard ≡ false → Changed a.world) (λ _ _. on) (λ _. after_accepted c)

  -- of the commands only those pass that C isn't asked of
  only_free : (p : List ℕ) → (call_of w (Command p)).heard.passed ≡ true → free_b (code_of p) ≡ true
  only_free p =
      by_call w (Command p) (λ (a : Reply). a.heard.passed ≡ true → free_b (code_of p) ≡ true) (λ _ e. absurd (false≢true e))
      (λ _ e. here (verdict w.state.media w.state.host p) refl e)
    where
      here : (v : Verdict) → verdict w.state.media w.state.host p ≡ v → (reply_to v w p).heard.passed ≡ true → free_b (code_of p) ≡ true
      here (Err sense) q e = absurd (false≢true e)
      here (Ok rule) q e = free w.state.media w.state.host p rule on q

-- any run that doesn't answer it, of a device that is heard as ours
module _ {d : Device} (o : AsOurs d) where
  pending : (cs : List Call) (w : World) → sound_b w.state ≡ true → Changed w → some_answers_b d w cs ≡ false → Changed (after d w cs)
  pending [] w sound on e = on
  pending (c ∷ cs) w sound on e =
      let (first, rest) = neither (answers_b c (d.call w c).heard) (some_answers_b d (d.call w c).world cs) e in
      let same = o.state w c sound in
      pending cs (d.call w c).world (rw same (keeps w c sound)) (rw same (after_any w on c (rw (o.heard w c) at first))) rest

  pub announced : Announces d
  unfolding inserted_of
  announced w number prot disc cs p none e passed =
      let c = Insert number prot disc in
      let house = sym (numbered w c) ∙ (rw (o.heard w c) at none) in
      let sound = ((insert_admits w.state number disc).0 house).sound in
      let same = o.state w c sound in
      let on : Changed (d.call w c).world = rw (same, accepted w c house) in
      let v = after d (d.call w c).world cs in
      only_free v (pending cs (d.call w c).world (rw same (keeps w c sound)) on e) p (rw (o.heard v (Command p)) at passed)
