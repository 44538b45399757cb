-- What the ledger foretells of a call is what is heard of it. Assumes nothing.
use Rattle.std.specs.Prelude.{◌≡◌, ◌||◌, ◌+◌, Ok, Err}
use Rattle.ground.specs.Kit.{refl, sym, ap, ◌∙◌, Bool, true, false, cond, not, List, [], ℕ, arith, eqb-true, eqb-false, eq-eqb, ne_eqb, eqb, length}
use Rattle.state.specs.declared.{Sense.Sense, Media.Media, Transfer.Transfer}
use Rattle.state.specs.Senses.{no_disc}
use Rattle.state.specs.States.{left_of, sense_after, inserted_of, ejected_of, obeyed_of}
use Rattle.sound.specs.Soundness.{open_sound_b, sound_b}
use Rattle.sound.proofs.Keeping.{parts}
use Rattle.sound.proofs.Opened.{open_left}
use Rattle.checks.specs.Verdicts.{Verdict, verdict}
use Rattle.house.specs.World.{World, in_state, Heard, heard, Reply}
use Rattle.house.proofs.Houses.{admits}
use Rattle.commands.specs.Obeying.{reply_to}
use Rattle.drive.specs.Calls.{Call, Insert, Eject, Command, Feed, Pull, house_of, call_of}
use Rattle.drive.proofs.Calling.{accepted_of, by_call, same_house}
use Rattle.drive.proofs.Commanded.{performed_sense}
use Rattle.demands.specs.Answered.{judged_of}
use Rattle.demands.specs.Ledger.{Ledger, known}
use Rattle.demands.specs.Faithful.{open_b, foretells, foretold}
use Rattle.demands.proofs.Agreeing.{Agrees}
use Rattle.demands.proofs.Moving.{agrees_fed, agrees_pulled}

-- ---- the house number that is foretold

accepted_house : (l : Ledger) (c : Call) → (foretells l c).house ≡ 0
accepted_house l (Insert number prot disc) = refl
accepted_house l Eject = refl
accepted_house l (Command p) = refl
accepted_house l (Feed piece) = refl
accepted_house l (Pull out) = refl

module _ (l : Ledger) (w : World) (c : Call) where
  abbrev house : ℕ
  house = house_of (in_state w (known l)) c

  pub foretold_house : (foretold l w c).house ≡ house
  unfolding foretold
  foretold_house = here (eqb house 0) refl
    where
      here : (b : Bool) → eqb house 0 ≡ b → (foretold l w c).house ≡ house
      here true q = rw q (accepted_house l c ∙ sym (eqb-true house 0 q))
      here false q = rw q

  -- of a call that is heard to be accepted, what is foretold of an accepted one
  pub foretold_accepted : (h : Heard) → h ≡ foretold l w c → h.house ≡ 0 → h ≡ foretells l c
  unfolding foretold
  foretold_accepted h e none =
      let zero : house ≡ 0 = sym foretold_house ∙ sym (ap (λ (x : Heard). x.house) e) ∙ none in
      rw zero at e

-- ---- what is heard

-- a command's verdict and triple
pub by_verdict : (w : World) (p : List ℕ) (v : Verdict) → (reply_to v w p).heard ≡ heard 0 (judged_of v).passed (judged_of v).sense 0 []
unfolding obeyed_of
by_verdict w p (Err sense) = refl
by_verdict w p (Ok rule) = rw (performed_sense w p rule)

-- an ejection tells whether anything was left
broken_off_lem : (m : Media) (sense : Sense) (t : Transfer) → open_sound_b m t ≡ true → sense_after sense t ≡ cond (eqb (left_of t) 0) sense no_disc
broken_off_lem m sense t s = rw (open_left m t s) (here (eqb (left_of t) 0))
  where
    here : (b : Bool) → cond (not b) no_disc sense ≡ cond b sense no_disc
    here true = refl
    here false = refl

-- nothing is left exactly if there is neither a byte to take nor one to give
nothing_left : (A : Type 0) (x y : A) (a b c : ℕ) → a + b ≡ c → cond (eqb c 0) x y ≡ cond (not (eqb a 0) || not (eqb b 0)) y x
nothing_left A x y a b c e = here (eqb a 0) refl (eqb b 0) refl
  where
    here : (p : Bool) → eqb a 0 ≡ p → (q : Bool) → eqb b 0 ≡ q → cond (eqb c 0) x y ≡ cond (not p || not q) y x
    here true f true g =
        let za = eqb-true a 0 f in
        let zb = eqb-true b 0 g in
        rw (eq-eqb c 0 (omega arith))
    here true f false g = let nb = eqb-false b 0 g in rw (ne_eqb c 0 (λ z. nb (omega arith)))
    here false f q g = let na = eqb-false a 0 f in rw (ne_eqb c 0 (λ z. na (omega arith)))

module _ (w : World) (sound : sound_b w.state ≡ true) (l : Ledger) (a : Agrees w l) where
  known_sound : sound_b (known l) ≡ true
  unfolding sound_b open_sound_b
  known_sound =
      let p = parts w.state sound in
      rw (a.media, a.host, p.low, p.bare, p.named)

  -- the house tests ask no more than what the caller knows
  known_house : (c : Call) → house_of (in_state w (known l)) c ≡ house_of w c
  known_house = same_house (in_state w (known l)) w (known_sound ∙ sym sound) (rw a.media) refl refl

  -- the ledger knows whether a transfer is open
  same_open : sense_after w.state.host.sense w.state.transfer ≡ cond (open_b l) no_disc l.host.sense
  same_open =
      let o = a.opened in
      broken_off_lem w.state.media w.state.host.sense w.state.transfer (parts w.state sound).opened
      ∙ nothing_left Sense w.state.host.sense no_disc l.left (length l.coming) (left_of w.state.transfer) (rw (o.taking, o.giving) o.all)
      ∙ rw a.host

  hears_accepted : (c : Call) → house_of w c ≡ 0 → (accepted_of w c).heard ≡ foretells l c
  unfolding inserted_of ejected_of
  hears_accepted (Insert number prot disc) none = rw a.host
  hears_accepted Eject none = ap (λ (sense : Sense). heard 0 false sense 0 []) same_open
  hears_accepted (Command p) none = rw (a.media, a.host) (by_verdict w p (verdict w.state.media w.state.host p))
  hears_accepted (Feed piece) none = (agrees_fed w l a ((admits w).0 none) piece).1
  hears_accepted (Pull out) none = (agrees_pulled w l a ((admits w).0 none) out).1

  pub hears_foretold : (c : Call) → (call_of w c).heard ≡ foretold l w c
  unfolding foretold
  hears_foretold c =
      by_call w c (λ (x : Reply). x.heard ≡ foretold l w c)
      (λ some. rw (known_house c, ne_eqb (house_of w c) 0 some, a.host))
      (λ none. rw (known_house c, none) (hears_accepted c none))
