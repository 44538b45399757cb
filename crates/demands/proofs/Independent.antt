-- Devices that break one demand alone. Assumes nothing.
use Rattle.std.specs.Prelude.{◌≡◌, ◌∷◌}
use Rattle.ground.specs.Kit.{refl, sym, ap, subst, ◌∙◌, Bool, true, false, false≢true, cond, List, [], ℕ, arith, eqb-true, ne_eqb, eqb, length, length-set, length-replicate, take, set, take-set-le}
use Rattle.state.specs.declared.{DiscAt.DiscAt, Transfer.Transfer}
use Rattle.ground.specs.Bytes.{zeros}
use Rattle.disc.specs.Formats.{block_bytes}
use Rattle.disc.proofs.Discs.{block_fits}
use Rattle.state.specs.declared.Transfer.TheVariants.{Closed, Answer, Read, Write, ParameterList}
use Rattle.state.specs.Senses.{no_sense}
use Rattle.state.specs.States.{media_of, host_of, state_of, power_on, closed_at_zero, moved_of, disc_after}
use Rattle.state.proofs.Closing.{by_left}
use Rattle.sound.specs.Soundness.{sound_b}
use Rattle.house.specs.World.{World, in_state, in_buffer, some_world, Reply, reply, refusal}
use Rattle.house.specs.Refusals.{eject_tests}
use Rattle.house.specs.Theorems.{Ready}
use Rattle.feeds.specs.Feeding.{write_fed, feed_by}
use Rattle.pulls.specs.Pulling.{gives}
use Rattle.drive.specs.Calls.{Call, Insert, Eject, Command, Feed, Pull, returned, house_of, call_of}
use Rattle.drive.proofs.Calling.{by_call, refused}
use Rattle.drive.proofs.Staying.{stays}
use Rattle.demands.specs.Answered.{event_b, Answered}
use Rattle.demands.specs.Ledger.{Store, none, Ledger, listed_in}
use Rattle.demands.specs.Uncut.{Cuttings}
use Rattle.demands.specs.Wrong.{by_open, feeding, leaving, stores_bytes, version_three}
use Rattle.demands.specs.Independent.{marked, marking, marks_feeds, starts_anew, Independent}
use Rattle.demands.proofs.Answered.{answered}
use Rattle.demands.proofs.Agreeing.{GatheredIn, Agrees}
use Rattle.demands.proofs.AsOurs.{AsOurs}
use Rattle.demands.proofs.Faithful.{faithful_as}
use Rattle.demands.proofs.Carrying.{cuttings, disc_gives}
use Rattle.demands.proofs.CutApart.{apart}
use Rattle.demands.proofs.Wrong.{excluded}
use Rattle.demands.proofs.Obeyed.{feeds_as, pulls_as, by_write, stored, obeyed}

-- ---- a device that feeds otherwise than ours

module _ (f : World → List ℕ → Reply → Reply) where
  -- what holds of our replies, and of its replies to a feed, holds of its replies
  by_fed : (P : World → Call → Reply → Type 0) → ((w : World) (c : Call) → P w c (call_of w c))
      → ((w : World) (x : List ℕ) → P w (Feed x) (f w x (call_of w (Feed x)))) → (w : World) (c : Call) → P w c ((feeding f).call w c)
  by_fed P ours feeds w (Insert number prot disc) = ours w (Insert number prot disc)
  by_fed P ours feeds w Eject = ours w Eject
  by_fed P ours feeds w (Command p) = ours w (Command p)
  by_fed P ours feeds w (Feed x) = feeds w x
  by_fed P ours feeds w (Pull out) = ours w (Pull out)

  its_events : (w : World) (c : Call) → event_b c ≡ true → (feeding f).call w c ≡ call_of w c
  its_events = by_fed (λ w c a. event_b c ≡ true → a ≡ call_of w c) (λ w c event. refl) (λ w x event. absurd (false≢true event))

  -- it meets demand 1 if its refusals and its numbers are ours and it keeps a world sound and ready
  answered_feeding : ((w : World) (x : List ℕ) → (f w x (call_of w (Feed x))).heard.house ≡ (call_of w (Feed x)).heard.house)
      → ((w : World) (x : List ℕ) → (house_of w (Feed x) ≡ 0 → ⊥) → f w x (call_of w (Feed x)) ≡ call_of w (Feed x))
      → ((w : World) (x : List ℕ) → (f w x (call_of w (Feed x))).world.state ≡ (call_of w (Feed x)).world.state)
      → ((w : World) (x : List ℕ) → Ready w → Ready (f w x (call_of w (Feed x))).world) → Answered (feeding f)
  answered_feeding house refuses state ready =
      record {
        numbered = by_fed (λ w c a. a.heard.house ≡ house_of w c) answered.numbered (λ w x. house w x ∙ answered.numbered w (Feed x));
        refused = by_fed (λ w c a. (house_of w c ≡ 0 → ⊥) → a ≡ refusal (house_of w c) w (returned c)) answered.refused
            (λ w x some. refuses w x some ∙ answered.refused w (Feed x) some);
        events = λ w v c event none same. rw (its_events w c event, its_events v c event) (answered.events w v c event none same);
        failed = answered.failed;
        starts = refl;
        keeps = by_fed (λ w c a. sound_b w.state ≡ true → sound_b a.world.state ≡ true) answered.keeps
            (λ w x sound. rw (state w x) (answered.keeps w (Feed x) sound));
        stays = by_fed (λ w c a. Ready w → Ready a.world) answered.stays ready;
      }

-- ---- the device that marks feeds

marked_length : (buffer xs : List ℕ) → length (marked buffer xs) ≡ length buffer
marked_length buffer [] = refl
marked_length buffer (x ∷ xs) = length-set buffer 1023 x

-- the mark is past what came of the block that is open
marked_gathered : (number : ℕ) (buffer disc : List ℕ) (stored : Store) (x : ℕ) (t : Transfer) → GatheredIn (block_bytes number) buffer disc stored t
    → GatheredIn (block_bytes number) (set buffer 1023 x) disc stored t
marked_gathered number buffer disc stored x Closed g = tt
marked_gathered number buffer disc stored x (Answer p) g = tt
marked_gathered number buffer disc stored x (Read p) g = tt
marked_gathered number buffer disc stored x (ParameterList p) g = tt
marked_gathered number buffer disc stored x (Write p) g =
    record {
      at = g.at;
      short = g.short;
      got = take-set-le (length stored.got) buffer 1023 x (omega (arith, g.short, block_fits number)) ∙ g.got;
      held = rw (length-set buffer 1023 x) g.held;
      even = g.even;
      disc = g.disc;
    }

module _ (u : World) (l : Ledger) (a : Agrees u l)
    (nothing : (b : List ℕ) → gives b u.disc u.state.transfer ≡ gives u.buffer u.disc u.state.transfer)
    (unlisted : (b : List ℕ) → listed_in b u.state.transfer ≡ listed_in u.buffer u.state.transfer) where
  marked_agrees : (xs : List ℕ) → Agrees (in_buffer u (marked u.buffer xs)) l
  marked_agrees [] = a
  marked_agrees (x ∷ xs) =
      let o = a.opened in
      let same = nothing (set u.buffer 1023 x) in
      record {
        media = a.media;
        host = a.host;
        disc = a.disc;
        opened = record {
          taking = o.taking;
          giving = o.giving ∙ sym same;
          all = rw same o.all;
          gathered = marked_gathered u.state.media.disc u.buffer u.disc l.stored x u.state.transfer o.gathered;
          listed = o.listed ∙ sym (unlisted (set u.buffer 1023 x));
        };
      }

-- a write gives nothing and is no list, and has closed or not
write_gives : (p : DiscAt) (buffer disc : List ℕ) → gives buffer disc (closed_at_zero (Write p)) ≡ []
write_gives p buffer disc = by_left (λ t. gives buffer disc t ≡ []) (Write p) (λ _. refl) (λ _. refl)

write_unlisted : (p : DiscAt) (buffer : List ℕ) → listed_in buffer (closed_at_zero (Write p)) ≡ none
write_unlisted p buffer = by_left (λ t. listed_in buffer t ≡ none) (Write p) (λ _. refl) (λ _. refl)

fed_agrees : (w : World) (x : List ℕ) (l : Ledger) (p : DiscAt) → w.state.transfer ≡ Write p → Agrees (call_of w (Feed x)).world l
    → Agrees (marking p w x (call_of w (Feed x))).world l
unfolding moved_of
fed_agrees w x l p e = by_call w (Feed x) Kept (λ _ a. a) (λ _. subst (λ (t : Transfer). Kept (feed_by t w x)) (sym e) writes)
  where
    Kept : Reply → Type 0
    Kept a = Agrees a.world l → Agrees (marking p w x a).world l

    writes : Kept (write_fed p w x)
    writes a =
        let fed = write_fed p w x in
        let rest = disc_after p fed.heard.count in
        let empty = write_gives rest in
        marked_agrees fed.world l a (λ b. empty b fed.world.disc ∙ sym (empty fed.world.buffer fed.world.disc))
        (λ b. write_unlisted rest b ∙ sym (write_unlisted rest fed.world.buffer))
        (take fed.heard.count x)

-- what a device makes of our reply to a feed, where it alters the feeds of an open write by `f`
abbrev in_writes : (DiscAt → World → List ℕ → Reply → Reply) → World → List ℕ → Reply → Reply
in_writes f w piece a = by_open (λ p. a) (λ p. f p w piece a) (λ p. a) a w.state.transfer

marks : AsOurs marks_feeds
marks =
    record {
      start = refl;
      heard = by_fed (in_writes marking) (λ w c a. a.heard ≡ (call_of w c).heard) (λ w c. refl)
          (λ w x. by_write marking w x (λ a. a.heard ≡ (call_of w (Feed x)).heard) refl (λ p e. refl));
      state = by_fed (in_writes marking) (λ w c a. sound_b w.state ≡ true → a.world.state ≡ (call_of w c).world.state) (λ w c sound. refl)
          (λ w x sound. by_write marking w x (λ a. a.world.state ≡ (call_of w (Feed x)).world.state) refl (λ p e. refl));
      agrees = by_fed (in_writes marking) (λ w c a. sound_b w.state ≡ true → (l : Ledger) → Agrees (call_of w c).world l → Agrees a.world l) (λ w c sound l a. a)
          (λ w x sound l g. by_write marking w x (λ a. Agrees a.world l) g (λ p e. fed_agrees w x l p e g));
    }

marks_answered : Answered marks_feeds
marks_answered =
    answered_feeding (in_writes marking) (λ w x. by_write marking w x (λ a. a.heard.house ≡ (call_of w (Feed x)).heard.house) refl (λ p e. refl))
    (λ w x some. by_write marking w x (λ a. a ≡ call_of w (Feed x)) refl (λ p e. rw (refused w (Feed x) some)))
    (λ w x. by_write marking w x (λ a. a.world.state ≡ (call_of w (Feed x)).world.state) refl (λ p e. refl))
    (λ w x r.
    let a = call_of w (Feed x) in
    let q = stays w (Feed x) r in
    by_write marking w x (λ a. Ready a.world) q
    (λ p e. record { sound = q.sound; buffer = marked_length a.world.buffer (take a.heard.count x) ∙ q.buffer; disc = q.disc }))

-- ---- version three

-- what holds of our reply, and of it with another world if the call was accepted
by_leaving : (P : Reply → Type 0) (a : Reply) (v : World) → (a.heard.house ≡ 0 → P (reply 0 a.heard.passed a.heard.count a.heard.out v)) → P a
    → P (leaving a v)
by_leaving P a v accepted same = here (eqb a.heard.house 0) refl
  where
    here : (b : Bool) → eqb a.heard.house 0 ≡ b → P (leaving a v)
    here true q = rw q (accepted (eqb-true a.heard.house 0 q))
    here false q = rw q same

three_answered : Answered version_three
three_answered =
    answered_feeding (in_writes stores_bytes)
    (λ w x.
    let a = call_of w (Feed x) in
    by_write stores_bytes w x (λ r. r.heard.house ≡ a.heard.house) refl (λ p e. by_leaving (λ r. r.heard.house ≡ a.heard.house) a _ sym refl))
    (λ w x some.
    by_write stores_bytes w x (λ a. a ≡ call_of w (Feed x)) refl (λ p e. rw (refused w (Feed x) some, ne_eqb (house_of w (Feed x)) 0 some)))
    (λ w x.
    let a = call_of w (Feed x) in
    by_write stores_bytes w x (λ r. r.world.state ≡ a.world.state) refl (λ p e. by_leaving (λ r. r.world.state ≡ a.world.state) a _ (λ _. refl) refl))
    stored.ready

-- ---- the device that starts anew

anew : AsOurs starts_anew
anew =
    record {
      start = refl;
      heard = λ w c. here w c (sound_b w.state);
      state = λ w c sound. rw sound;
      agrees = λ w c sound l a. rw sound a;
    }
  where
    here : (w : World) (c : Call) (b : Bool)
        → let a = call_of w c in
        (cond b a (record { heard = a.heard; world = in_state w power_on })).heard ≡ a.heard
    here w c true = refl
    here w c false = refl

anew_cut : Cuttings starts_anew
anew_cut =
    cuttings (feeds_as starts_anew (λ w x r. rw r.sound)) (pulls_as starts_anew (λ w x r. rw r.sound)) disc_gives (λ w q r. rw r.sound)

-- disc 5 is refused, and is gone
anew_changes : Answered starts_anew → ⊥
unfolding sound_b eject_tests
anew_changes a =
    let w = in_state some_world (state_of (media_of 5 false) false (host_of false false no_sense) Closed) in
    let same = a.refused w Eject (λ e. omega arith) in
    let z : ◌≡◌ {A = ℕ} 0 5 = ap (λ (r : Reply). r.world.state.media.disc) same in
    omega arith

-- ---- all of it

pub independent : Independent
independent =
    let long : (n : ℕ) → length (zeros n) ≡ n = λ n. length-replicate n 0 in
    let (marks_feeds_lem, first_pull_only_lem, first_block_only_lem, fails_pairs_lem) = apart (in_buffer some_world (zeros 1024)) (zeros 32768) (long 1024) (long 32768) in
    record {
      not_uncut = (marks_answered, faithful_as marks, marks_feeds_lem);
      not_faithful = (three_answered, obeyed.version_three_lem, excluded.version_three_lem);
      not_answered = (record { over = faithful_as anew; cut = anew_cut }, anew_changes);
      first_pull_only_lem = first_pull_only_lem;
      first_block_only_lem = first_block_only_lem;
      fails_pairs_lem = fails_pairs_lem;
    }
