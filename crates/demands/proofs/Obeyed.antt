-- What wrong devices obey all the same. Assumes nothing.
use Rattle.std.specs.Prelude.{◌≡◌, ◌∷◌, ◌++◌, ◌+◌}
use Rattle.ground.specs.Kit.{refl, sym, ap, ◌∙◌, Bool, true, false, List, [], ℕ, arith, eqb, length, take, replicate, length-replicate, replicate-append-replicate, sets, length-sets}
use Rattle.state.specs.declared.{DiscAt.DiscAt, Transfer.Transfer}
use Rattle.ground.proofs.Parts.{sets_more}
use Rattle.state.specs.declared.Transfer.TheVariants.{Closed, Answer as AnswerFrom, Read, Write, ParameterList}
use Rattle.state.specs.States.{state_of}
use Rattle.house.specs.World.{World, in_state, in_disc, Reply}
use Rattle.house.specs.Theorems.{Ready}
use Rattle.house.proofs.Houses.{ready_in}
use Rattle.moves.specs.Replies.{idle}
use Rattle.feeds.specs.Feeding.{write_fed, feed_of}
use Rattle.drive.specs.Calls.{Command, Feed, Pull, call_of}
use Rattle.drive.proofs.Calling.{numbered}
use Rattle.drive.proofs.Staying.{keeps, fed_media}
use Rattle.demands.specs.Device.{Device, drive}
use Rattle.demands.specs.Uncut.{Lent, lent, carried, Part}
use Rattle.demands.specs.Wrong.{hands_out_zeros, discards_feeds, first_block_only, first_pull_only, pulled_once, by_open, feeding_writes, stores_bytes, version_one, version_three, leaving, OnePullEach, Obeyed}
use Rattle.demands.proofs.Serving.{lend_one, moving, Puts, written, feeding, Put, Feeds, our_puts, our_feeds, Gives, Given, Pulls, from_disc, from_buffer, our_pulls}
use Rattle.demands.proofs.Cutting.{cut_anywhere, feed_way, pull_way}
use Rattle.demands.proofs.Carrying.{All, Same, reads_cut_by, cuttings, disc_gives}

-- ---- a device that feeds or pulls as ours does

module _ (d : Device) where
  pub feeds_as : ((w : World) (x : List ℕ) → Ready w → d.call w (Feed x) ≡ call_of w (Feed x)) → Feeds d our_puts
  feeds_as same =
      record {
        put = our_feeds.put;
        ready = λ w x r. rw (same w x r) (our_feeds.ready w x r);
        unfed = λ w x r e. rw (same w x r) (our_feeds.unfed w x r e);
        fed = λ w p x r e f. rw (same w x r) (our_feeds.fed w p x r e f);
        lists = λ w p x r e. same w x r;
      }

  pub pulls_as : ((w : World) (x : List ℕ) → Ready w → d.call w (Pull x) ≡ call_of w (Pull x)) → Pulls d from_disc from_buffer
  pulls_as same =
      record {
        read_given = our_pulls.read_given;
        answer_given = our_pulls.answer_given;
        ready = λ w x r. rw (same w x r) (our_pulls.ready w x r);
        unpulled = λ w x r e. rw (same w x r) (our_pulls.unpulled w x r e);
        from_read = λ w p x r e. rw (same w x r) (our_pulls.from_read w p x r e);
        from_answer = λ w p x r e. rw (same w x r) (our_pulls.from_answer w p x r e);
      }

-- ---- the device that gives zeros

abbrev gives_zeros : Gives
gives_zeros at n buffer disc = replicate n 0

zeros_given : Given gives_zeros
zeros_given =
    record { none = λ at buffer disc. refl; more = λ at m n buffer disc. sym (replicate-append-replicate m n 0) }

zeroed : Pulls hands_out_zeros gives_zeros gives_zeros
unfolding call_of
zeroed =
    record {
      read_given = zeros_given;
      answer_given = zeros_given;
      ready = our_pulls.ready;
      unpulled = λ w x r e. rw e;
      from_read = λ w p x r e. rw e;
      from_answer = λ w p x r e. rw e;
    }

-- ---- the devices that put the bytes elsewhere

-- nowhere
abbrev discards : Puts
discards number at x buffer disc = written buffer disc

-- each to its place on the disc
abbrev stores : Puts
stores number at x buffer disc = written buffer (sets disc at x)

module _ (w : World) (x : List ℕ) (r : Ready w) where
  -- after a feed that leaves the block buffer, and a disc as long as it was
  still_ready : (disc : List ℕ) → length disc ≡ length w.disc → Ready (in_disc (in_state w (call_of w (Feed x)).world.state) disc)
  still_ready disc e =
      record {
        sound = keeps w (Feed x) r.sound;
        buffer = r.buffer;
        disc = rw (fed_media w r x) (e ∙ r.disc);
      }

  accepted : (call_of w (Feed x)).heard.house ≡ 0
  accepted = numbered w (Feed x) ∙ ready_in w r

-- a device that alters what our feed of an open write leaves
module _ (f : DiscAt → World → List ℕ → Reply → Reply) where
  abbrev it : Device
  it = feeding_writes f

  -- what holds of our reply, and of it altered, holds of its reply
  pub by_write : (w : World) (x : List ℕ) (P : Reply → Type 0) → P (call_of w (Feed x))
      → ((p : DiscAt) → w.state.transfer ≡ Write p → P (f p w x (call_of w (Feed x)))) → P (it.call w (Feed x))
  by_write w x P same writes = here w.state.transfer refl
    where
      a : Reply
      a = call_of w (Feed x)

      here : (t : Transfer) → w.state.transfer ≡ t → P (by_open (λ p. a) (λ p. f p w x a) (λ p. a) a t)
      here Closed e = same
      here (AnswerFrom p) e = same
      here (Read p) e = same
      here (Write p) e = writes p e
      here (ParameterList p) e = same

  alters : (puts : Puts) → Put puts
      → ((w : World) (p : DiscAt) (x : List ℕ) → feed_of w x ≡ idle w x → f p w x (call_of w (Feed x)) ≡ idle w x)
      → ((w : World) (p : DiscAt) (x : List ℕ) → Ready w → w.state.transfer ≡ Write p → Ready (f p w x (call_of w (Feed x))).world)
      → ((w : World) (p : DiscAt) (x : List ℕ) → Ready w → feed_of w x ≡ write_fed p w x → w.state.transfer ≡ Write p
      → lend_one it Feed w x ≡ moving (feeding puts) w p.at.0 p.left x)
      → Feeds it puts
  unfolding call_of
  alters puts put idles ready fed =
      record {
        put = put;
        ready = λ w x r. by_write w x (λ a. Ready a.world) (our_feeds.ready w x r) (λ p e. ready w p x r e);
        unfed = λ w x r e. by_write w x (λ a. lent a.heard.count a.heard.out a.world ≡ lent 0 x w) (rw e) (λ p q. rw (idles w p x e));
        fed = fed;
        lists = λ w p x r e. rw e;
      }

-- what it makes of our reply to a feed of an open write
abbrev discarding : DiscAt → World → List ℕ → Reply → Reply
discarding p w piece a = leaving a (in_state w a.world.state)

discarded : Feeds discards_feeds discards
unfolding call_of
discarded =
    alters discarding discards (record { none = λ number at buffer disc. refl; more = λ number at x y buffer disc. refl })
    (λ w p x e. rw e)
    (λ w p x r e. rw (accepted w x r) (still_ready w x r w.disc refl))
    (λ w p x r e f. rw (e, f))

pub stored : Feeds version_three stores
unfolding call_of
stored =
    alters stores_bytes stores (record { none = λ number at buffer disc. refl; more = λ number at x y buffer disc. rw (sets_more x y disc at) })
    (λ w p x e. rw e)
    (λ w p x r e. rw (accepted w x r) (still_ready w x r _ (length-sets w.disc p.at.0 (take (call_of w (Feed x)).heard.count x))))
    (λ w p x r e f. rw (e, f))

-- ---- the device that serves only the first pull

-- a pull that closes the transfer is ours
closing_pull : (w : World) (x : List ℕ) → (call_of w (Pull x)).world.state.transfer ≡ Closed
    → lend_one first_pull_only Pull w x ≡ lend_one drive Pull w x
closing_pull w x closed = here (eqb (call_of w (Pull x)).heard.house 0) refl
  where
    here : (b : Bool) → eqb (call_of w (Pull x)).heard.house 0 ≡ b → lend_one first_pull_only Pull w x ≡ lend_one drive Pull w x
    here false q = rw q
    here true q =
        let a = call_of w (Pull x) in
        let v = a.world in
        let left : Transfer → Lent = λ t. lent a.heard.count a.heard.out (in_state v (state_of v.state.media v.state.motor v.state.host t)) in
        rw q (ap left (ap pulled_once closed ∙ sym closed))

one_pull : Same Pull drive first_pull_only (λ pieces. length pieces ≡ 1)
one_pull w q [] one closed = absurd (omega arith)
one_pull w q (x ∷ (y ∷ ys)) one closed = absurd (omega arith)
one_pull w q (x ∷ []) one closed =
    let v = call_of w (Command q) in
    ap (λ (l : Lent). carried v.heard.passed (take (l.count + 0) (l.out ++ [])) l.world) (closing_pull v.world x closed)

one_each : (parts : List Part) → OnePullEach parts → All (λ pieces. length pieces ≡ 1) parts
one_each [] e = tt
one_each (x ∷ xs) e = (e.0, one_each xs e.1)

pub obeyed : Obeyed
obeyed =
    record {
      hands_out_zeros_lem = cuttings (feeds_as hands_out_zeros (λ w x r. refl)) zeroed (λ at n buffer disc h. length-replicate n 0) (λ w q r. refl);
      discards_feeds_lem = cuttings discarded (pulls_as discards_feeds (λ w x r. refl)) disc_gives (λ w q r. refl);
      version_one_lem = cuttings (feeds_as version_one (λ w x r. refl)) (pulls_as version_one (λ w x r. refl)) disc_gives (λ w q r. refl);
      version_three_lem = cuttings stored (pulls_as version_three (λ w x r. refl)) disc_gives (λ w q r. refl);
      first_block_feeds = cut_anywhere (feed_way (feeds_as first_block_only (λ w x r. refl)));
      first_block_pulls = cut_anywhere (pull_way (pulls_as first_block_only (λ w x r. refl)));
      first_pull_reads = λ w p rule out parts c each.
          reads_cut_by our_pulls disc_gives (λ w q r. refl) first_pull_only (λ pieces. length pieces ≡ 1) one_pull w p rule (out ∷ []) parts
          (record {
            ready = c.ready;
            code = c.code;
            known = c.known;
            passes = c.passes;
            some = c.some;
            through = c.through;
            sum = c.sum;
            all = c.all;
          })
          refl
          (one_each parts each);
    }
