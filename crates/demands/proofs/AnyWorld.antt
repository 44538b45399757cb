-- Two devices that meet the demands are heard alike from every world: what is lent wrongly is refused, and an event goes by the state alone.
-- Assumes nothing.
use Rattle.std.specs.Prelude.{◌≡◌, ◌∷◌}
use Rattle.ground.specs.Kit.{refl, sym, ap, ◌∙◌, Bool, true, false, true≢false, false≢true, cond, arith, List, [], flatten, ℕ, eq-eqb, eqb, eqb-true, eqb-false, length, length-replicate}
use Rattle.ground.specs.Bytes.{zeros}
use Rattle.disc.specs.Formats.{buffer_bytes, format_of, block_bytes, run_bytes, disc_bytes}
use Rattle.state.specs.declared.{Sense.Sense, State.State}
use Rattle.sound.specs.Soundness.{sound_b}
use Rattle.house.specs.World.{World, world, in_lent, Heard, Reply}
use Rattle.house.specs.Refusals.{move_tests, command_tests}
use Rattle.house.specs.Theorems.{Ready}
use Rattle.house.proofs.Houses.{insert_admits, eject_admits, command_admits, admits}
use Rattle.drive.proofs.Calling.{same_house}
use Rattle.drive.specs.Calls.{Call, Insert, Eject, Command, Feed, Pull, house_of}
use Rattle.demands.specs.Device.{Device, after}
use Rattle.demands.specs.Answered.{event_b, Answered}
use Rattle.demands.specs.Ledger.{Ledger}
use Rattle.demands.specs.Faithful.{Run, step, met, Accounts}
use Rattle.demands.specs.Together.{heard_in, HeardAlike, with_motor, MotorUnheard}
use Rattle.demands.proofs.Agreeing.{none_listed}
use Rattle.demands.proofs.Alone.{Going, goes_on, knows_lengths, heard_here, noted_here, heard_then, going_from}

-- ---- a world beside a run from a ready world

-- the same state; the block buffer and the disc are the run's where their lengths are right
record Beside (d : Device) (w : World) (r : Run) : Type 0 where
  going : Going d r
  state : w.state ≡ r.world.state
  buffer : length w.buffer ≡ buffer_bytes → w.buffer ≡ r.world.buffer
  disc : length w.disc ≡ disc_bytes w.state.media.disc → w.disc ≡ r.world.disc

same_world : (w v : World) → w.state ≡ v.state → w.buffer ≡ v.buffer → w.disc ≡ v.disc → w ≡ v
same_world w v s b d =
    ap (λ (x : State). world x w.buffer w.disc) s
    ∙ ap (λ (x : List ℕ). world v.state x w.disc) b
    ∙ ap (λ (x : List ℕ). world v.state v.buffer x) d

-- an event asks the state alone
event_house : (w v : World) (c : Call) → event_b c ≡ true → w.state ≡ v.state → house_of w c ≡ house_of v c
event_house w v (Insert number prot disc) event same = rw same
event_house w v Eject event same = rw same
event_house w v (Command p) event same = absurd (false≢true event)
event_house w v (Feed piece) event same = absurd (false≢true event)
event_house w v (Pull out) event same = absurd (false≢true event)

module _ {d : Device} (a : Answered d) {w : World} {r : Run} (f : Beside d w r) where
  -- an accepted call is heard as in the run, and leaves a world beside it, with its disc and a block buffer as long as before
  record Next (c : Call) : Type 0 where
    heard : (d.call w c).heard ≡ (d.call r.world c).heard
    beside : Beside d (d.call w c).world (step d r c)
    disc : (d.call w c).world.disc ≡ (d.call r.world c).world.disc
    buffer : length (d.call w c).world.buffer ≡ length w.buffer

  next_event : (c : Call) → event_b c ≡ true → house_of w c ≡ 0 → Next c
  next_event c event none =
      let v = r.world in
      let there = a.events w v c event none f.state in
      let kept = a.events v v c event (sym (event_house w v c event f.state) ∙ none) refl in
      let buffer : (d.call w c).world.buffer ≡ w.buffer = ap (λ (x : Reply). x.world.buffer) there in
      let disc = ap (λ (x : Reply). x.world.disc) there in
      record {
        heard = ap (λ (x : Reply). x.heard) there;
        disc = disc;
        buffer = ap length buffer;
        beside = record {
          going = goes_on d a r f.going c;
          state = ap (λ (x : Reply). x.world.state) there;
          buffer = λ long. buffer ∙ f.buffer (rw buffer at long) ∙ sym (ap (λ (x : Reply). x.world.buffer) kept);
          disc = λ _. disc;
        };
      }

  -- in a ready world the two are one
  next_ready : (c : Call) → Ready w → Next c
  next_ready c ready =
      let same = same_world w r.world f.state (f.buffer ready.buffer) (f.disc ready.disc) in
      record {
        heard = ap (λ (u : World). (d.call u c).heard) same;
        disc = ap (λ (u : World). (d.call u c).world.disc) same;
        buffer = (a.stays w c ready).buffer ∙ sym ready.buffer;
        beside = record {
          going = goes_on d a r f.going c;
          state = ap (λ (u : World). (d.call u c).world.state) same;
          buffer = λ _. ap (λ (u : World). (d.call u c).world.buffer) same;
          disc = λ _. ap (λ (u : World). (d.call u c).world.disc) same;
        };
      }

  next : (c : Call) → house_of w c ≡ 0 → Next c
  next (Insert number prot disc) none = next_event (Insert number prot disc) refl none
  next Eject none = next_event Eject refl none
  next (Command p) none = next_ready (Command p) ((command_admits w p).0 none).1
  next (Feed piece) none = next_ready (Feed piece) ((admits w).0 none)
  next (Pull out) none = next_ready (Pull out) ((admits w).0 none)

-- an accepted call finds a sound state
accepted_sound : (w : World) (c : Call) → house_of w c ≡ 0 → sound_b w.state ≡ true
accepted_sound w (Insert number prot disc) none = ((insert_admits w.state number disc).0 none).sound
accepted_sound w Eject none = ((eject_admits w.state).0 none).sound
accepted_sound w (Command p) none = ((command_admits w p).0 none).1.sound
accepted_sound w (Feed piece) none = ((admits w).0 none).sound
accepted_sound w (Pull out) none = ((admits w).0 none).sound

-- ---- two worlds, each beside a run, and both runs with the same ledger

module _ (d e : Device) (a : Answered d) (b : Answered e) where
  -- what is heard from two worlds on, and the discs that are left
  abbrev Same : List Call → World → World → Type 0
  Same cs w v = (heard_in d w cs ≡ heard_in e v cs) × ((after d w cs).disc ≡ (after e v cs).disc)

  -- one call and then others
  same_then : (c : Call) (cs : List Call) (w v : World) → (d.call w c).heard ≡ (e.call v c).heard → Same cs (d.call w c).world (e.call v c).world
      → Same (c ∷ cs) w v
  same_then c cs w v heard (more, disc) = (heard_then heard more, disc)

  -- refusals with one number and one triple leave both worlds
  refused_then : (w v : World) (c : Call) (cs : List Call) → house_of w c ≡ house_of v c → w.state.host.sense ≡ v.state.host.sense
      → (house_of w c ≡ 0 → ⊥) → Same cs w v → Same (c ∷ cs) w v
  refused_then w v c cs house sense some rest =
      let one = a.refused w c some in
      let two = b.refused v c (λ z. some (house ∙ z)) in
      same_then c cs w v (ap (λ (x : Reply). x.heard) one ∙ rw (house, sense) (sym (ap (λ (x : Reply). x.heard) two)))
      (rw (ap (λ (x : Reply). x.world) one, ap (λ (x : Reply). x.world) two) rest)

  -- two runs with the same ledger have the same disc
  run_discs : (r q : Run) → Going d r → Going e q → r.ledger ≡ q.ledger → r.world.disc ≡ q.world.disc
  unfolding disc_bytes run_bytes format_of block_bytes
  run_discs r q g h same = by-disc (eqb r.ledger.media.disc 0) refl
    where
      number : r.ledger.media.disc ≡ q.ledger.media.disc
      number = ap (λ (l : Ledger). l.media.disc) same

      by-disc : (t : Bool) → eqb r.ledger.media.disc 0 ≡ t → r.world.disc ≡ q.world.disc
      by-disc true t =
          let none = eqb-true r.ledger.media.disc 0 t in
          let one = rw none at (knows_lengths d a r g).disc in
          let two = rw (sym number ∙ none) at (knows_lengths e b q h).disc in
          none_listed r.world.disc one ∙ sym (none_listed q.world.disc two)
      by-disc false t =
          let some = eqb-false r.ledger.media.disc 0 t in
          (g.accounted []).holds some
          ∙ ap (λ (l : Ledger). flatten l.stored.blocks) same
          ∙ sym ((h.accounted []).holds (λ z. some (number ∙ z)))

  record Both (w v : World) (r q : Run) : Type 0 where
    one : Beside d w r
    two : Beside e v q
    ledger : r.ledger ≡ q.ledger
    buffer : length w.buffer ≡ length v.buffer
    disc : w.disc ≡ v.disc

  module _ (w v : World) (r q : Run) (o : Both w v r q) where
    here : (c : Call) → (d.call r.world c).heard ≡ (e.call q.world c).heard
    here = heard_here d e a b r q o.one.going o.two.going o.ledger

    -- the triple is the ledger's, as a refused call tells
    sense-alike : w.state.host.sense ≡ v.state.host.sense
    unfolding command_tests
    sense-alike =
        let c = Command [] in
        let told : (x : Reply) → Sense = λ x. x.heard.sense in
        ap (λ (s : State). s.host.sense) o.one.state
        ∙ sym (ap told (a.refused r.world c (λ z. omega arith)))
        ∙ ap (λ (h : Heard). h.sense) (here c)
        ∙ ap told (b.refused q.world c (λ z. omega arith))
        ∙ sym (ap (λ (s : State). s.host.sense) o.two.state)

    -- so that the house tests agree
    event-alike : (c : Call) → event_b c ≡ true → house_of w c ≡ house_of v c
    event-alike c event =
        event_house w r.world c event o.one.state
        ∙ sym (a.numbered r.world c)
        ∙ ap (λ (h : Heard). h.house) (here c)
        ∙ b.numbered q.world c
        ∙ sym (event_house v q.world c event o.two.state)

    house-alike : (c : Call) → house_of w c ≡ house_of v c
    unfolding move_tests command_tests
    house-alike c = asks c
      where
        s : sound_b w.state ≡ sound_b v.state
        s = rw (o.one.state, o.two.state) (o.one.going.ready.sound ∙ sym o.two.going.ready.sound)

        n : disc_bytes w.state.media.disc ≡ disc_bytes v.state.media.disc
        n = rw (o.one.state, o.two.state) (sym o.one.going.ready.disc ∙ ap length (run_discs r q o.one.going o.two.going o.ledger) ∙ o.two.going.ready.disc)

        asks : (c : Call) → house_of w c ≡ house_of v c
        asks (Insert number prot disc) = event-alike (Insert number prot disc) refl
        asks Eject = event-alike Eject refl
        asks (Command p) = rw (s, n, o.buffer, o.disc)
        asks (Feed piece) = rw (s, n, o.buffer, o.disc)
        asks (Pull out) = rw (s, n, o.buffer, o.disc)

    accepted-alike : (c : Call) → house_of w c ≡ 0
        → ((d.call w c).heard ≡ (e.call v c).heard) × Both (d.call w c).world (e.call v c).world (step d r c) (step e q c)
    accepted-alike c none =
        let n = next a o.one c none in
        let m = next b o.two c (sym (house-alike c) ∙ none) in
        let after = noted_here d e r q o.ledger c (here c) in (
          n.heard ∙ here c ∙ sym m.heard,
          record {
            one = n.beside;
            two = m.beside;
            ledger = after;
            buffer = n.buffer ∙ o.buffer ∙ sym m.buffer;
            disc = n.disc ∙ run_discs (step d r c) (step e q c) n.beside.going m.beside.going after ∙ sym m.disc;
          },
        )

  -- any calls
  abbrev Alike : List Call → Type 0
  Alike cs = (w v : World) (r q : Run) → Both w v r q → Same cs w v

  then_alike : (c : Call) (cs : List Call) → Alike cs → Alike (c ∷ cs)
  then_alike c cs rest w v r q o = by-none (eqb (house_of w c) 0) refl
    where
      by-none : (t : Bool) → eqb (house_of w c) 0 ≡ t → Same (c ∷ cs) w v
      by-none true t =
          let (heard, both) = accepted-alike w v r q o c (eqb-true (house_of w c) 0 t) in
          same_then c cs w v heard (rest (d.call w c).world (e.call v c).world (step d r c) (step e q c) both)
      by-none false t =
          refused_then w v c cs (house-alike w v r q o c) (sense-alike w v r q o) (eqb-false (house_of w c) 0 t) (rest w v r q o)

  both_alike : (cs : List Call) → Alike cs
  both_alike [] = λ w v r q o. (refl, o.disc)
  both_alike (c ∷ cs) = then_alike c cs (both_alike cs)

  -- an unsound state refuses every call
  unsound_alike : (cs : List Call) (w v : World) → sound_b w.state ≡ false → ((c : Call) → house_of w c ≡ house_of v c)
      → w.state.host.sense ≡ v.state.host.sense → w.disc ≡ v.disc → Same cs w v
  unsound_alike [] w v u house sense disc = (refl, disc)
  unsound_alike (c ∷ cs) w v u house sense disc =
      refused_then w v c cs (house c) sense (λ none. true≢false (sym (accepted_sound w c none) ∙ u)) (unsound_alike cs w v u house sense disc)

-- ---- from every world

-- as lent, if that is right
abbrev righted : ℕ → List ℕ → List ℕ
righted n xs = cond (eqb (length xs) n) xs (zeros n)

righted_long : (n : ℕ) (xs : List ℕ) → length (righted n xs) ≡ n
righted_long n xs = by_length (eqb (length xs) n) refl
  where
    by_length : (t : Bool) → eqb (length xs) n ≡ t → length (righted n xs) ≡ n
    by_length true t = rw t (eqb-true (length xs) n t)
    by_length false t = rw t (length-replicate {A = ℕ} n 0)

righted_right : (n : ℕ) (xs : List ℕ) → length xs ≡ n → xs ≡ righted n xs
righted_right n xs e = rw (eq-eqb (length xs) n e)

-- with what is lent put right
abbrev readied : World → World
readied w = in_lent w (righted buffer_bytes w.buffer) (righted (disc_bytes w.state.media.disc) w.disc)

beside_readied : (d : Device) → Accounts d → (w : World) → sound_b w.state ≡ true → Beside d w (met (readied w))
beside_readied d f w sound =
    let n = disc_bytes w.state.media.disc in
    record {
      going = going_from d f (readied w) (record { sound = sound; buffer = righted_long buffer_bytes w.buffer; disc = righted_long n w.disc });
      state = refl;
      buffer = righted_right buffer_bytes w.buffer;
      disc = righted_right n w.disc;
    }

-- two worlds that differ in the motor flag alone
motor_alike : (d e : Device) (a : Answered d) → Accounts d → (b : Answered e) → Accounts e → (w : World) (motor : Bool) (cs : List Call)
    → Same d e a b cs w (with_motor motor w)
unfolding sound_b
motor_alike d e a f b g w motor cs = by-sound (sound_b w.state) refl
  where
    v : World
    v = with_motor motor w

    by-sound : (t : Bool) → sound_b w.state ≡ t → Same d e a b cs w v
    by-sound true t =
        both_alike d e a b cs w v (met (readied w)) (met (readied v))
        (record { one = beside_readied d f w t; two = beside_readied e g v t; ledger = refl; buffer = refl; disc = refl })
    by-sound false t = unsound_alike d e a b cs w v t (same_house w v refl refl refl refl) refl refl

pub heard_alike : HeardAlike
heard_alike d e a f b g w cs = motor_alike d e a f b g w w.state.motor cs

pub motor_unheard : MotorUnheard
motor_unheard d a f w motor cs = (motor_alike d d a f a f w motor cs).0
