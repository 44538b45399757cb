-- Every call keeps soundness, and in a ready world what is lent keeps its lengths. Assumes nothing.
use Rattle.std.specs.Prelude.{◌≡◌, ◌+◌, ◌-◌}
use Rattle.ground.specs.Kit.{refl, ◌∙◌, true, List, ℕ, min, arith, length, take, length-take-le, length-sets}
use Rattle.state.specs.declared.{AnswerAt.AnswerAt, DiscAt.DiscAt, ListAt.ListAt}
use Rattle.disc.specs.Formats.{format_of, block_bytes, run_bytes, disc_bytes}
use Rattle.disc.proofs.Discs.{block_fits, block_holds}
use Rattle.state.specs.States.{list_bytes, inserted_of, ejected_of, obeyed_of, moved_of, answer_after, disc_after, list_after}
use Rattle.state.specs.Senses.{bad_list, named_b}
use Rattle.state.specs.declared.Transfer.TheVariants.{Closed, Answer, Read, Write, ParameterList}
use Rattle.sound.specs.Soundness.{open_sound_b, sound_b}
use Rattle.sound.proofs.Keeping.{inserted_sound, ejected_sound, obeyed_sound, moved_sound}
use Rattle.sound.proofs.Opened.{OnDisc, EndsOnBlock, in_buffer_lem, answer_sound, on_disc, on_disc_sound, writes, writes_sound, lists, lists_sound}
use Rattle.checks.specs.Verdicts.{verdict}
use Rattle.house.specs.World.{World}
use Rattle.house.specs.Theorems.{Ready}
use Rattle.house.proofs.Houses.{ready_in, insert_admits, command_admits, admits}
use Rattle.lists.proofs.Formatting.{formatted_length}
use Rattle.moves.proofs.Spans.{open_sound, may_write}
use Rattle.feeds.specs.Feeding.{writing, list_gathers, list_fed}
use Rattle.feeds.proofs.Feeding.{feed_lengths}
use Rattle.feeds.proofs.ByTransfer.{by_feeding, by_list}
use Rattle.pulls.proofs.ByTransfer.{by_pulling}
use Rattle.drive.specs.Calls.{Call, Insert, Eject, Command, Feed, Pull, house_of, call_of}
use Rattle.drive.specs.Theorems.{PowerOnSound}
use Rattle.drive.proofs.Calling.{accepted_of, accepted, by_call}
use Rattle.drive.proofs.Commanded.{Keeps, replied_sound, replied_keeps}

pub power_on_sound : PowerOnSound
unfolding sound_b named_b open_sound_b
power_on_sound = refl

-- ---- n bytes further on, what is left ends where it did

module _ (number : ℕ) (p : DiscAt) (n : ℕ) (some : p.left - n ≡ 0 → ⊥) where
  still_on : OnDisc number p → OnDisc number (disc_after p n)
  still_on d = record { is_in_lem = d.is_in_lem; some = omega arith; within = omega (arith, d.within) }

  still_ends : EndsOnBlock number p → EndsOnBlock number (disc_after p n)
  still_ends e =
      let same : p.at.0 + n + (p.left - n) ≡ p.at.0 + p.left = omega arith in
      record { blocks = e.blocks; whole = rw same e.whole }

module _ (w : World) (sound : sound_b w.state ≡ true) (n : ℕ) where
  abbrev number : ℕ
  number = w.state.media.disc

  answer_on : (p : AnswerAt) → open_sound_b w.state.media (Answer p) ≡ true → sound_b (moved_of w.state (Answer (answer_after p n))) ≡ true
  answer_on p e =
      let within = (in_buffer_lem w.state.media p e).within in
      moved_sound w.state sound (Answer (answer_after p n))
      (λ some. answer_sound w.state.media (answer_after p n) (record { some = omega (arith, some); within = omega (arith, some) }))

  read_on : (p : DiscAt) → open_sound_b w.state.media (Read p) ≡ true → sound_b (moved_of w.state (Read (disc_after p n))) ≡ true
  unfolding open_sound_b
  read_on p e =
      moved_sound w.state sound (Read (disc_after p n))
      (λ some. on_disc_sound number (disc_after p n) (still_on number p n some (on_disc number p e)))

  write_on : (p : DiscAt) → open_sound_b w.state.media (Write p) ≡ true → sound_b (moved_of w.state (Write (disc_after p n))) ≡ true
  write_on p e =
      let o = writes w.state.media p e in
      moved_sound w.state sound (Write (disc_after p n))
      (λ some.
      writes_sound w.state.media (disc_after p n)
      (record { on = still_on number p n some o.on; ends = still_ends number p n some o.ends; bare = o.bare }))

  list_on : (p : ListAt) → open_sound_b w.state.media (ParameterList p) ≡ true → sound_b (moved_of w.state (ParameterList (list_after p n))) ≡ true
  list_on p e =
      let o = lists w.state.media p e in
      moved_sound w.state sound (ParameterList (list_after p n))
      (λ some.
      lists_sound w.state.media (list_after p n)
      (record { some = omega (arith, some); few = omega (arith, o.few); track = o.track; bare = o.bare; is_in_lem = o.is_in_lem }))

-- a list that goes on, is refused or is obeyed
list_fed_sound : (w : World) → sound_b w.state ≡ true → (piece : List ℕ) (p : ListAt) → open_sound_b w.state.media (ParameterList p) ≡ true
    → sound_b (list_fed p w piece).world.state ≡ true
unfolding open_sound_b named_b
list_fed_sound w sound piece p e =
    let n = min (length piece) p.left in
    by_list p n (list_gathers p w (take n piece)) (λ v. sound_b v.state ≡ true) (λ _. list_on w sound n p e)
    (λ _ _. obeyed_sound w.state sound Closed (λ _. refl) bad_list w.state.motor refl)
    (λ _ _. moved_sound w.state sound Closed (λ _. refl))

-- ---- every call keeps soundness

module _ (w : World) where
  sound_accepted : sound_b w.state ≡ true → (c : Call) → house_of w c ≡ 0 → sound_b (accepted_of w c).world.state ≡ true
  sound_accepted sound (Insert number prot disc) none =
      let i = (insert_admits w.state number disc).0 none in
      inserted_sound w.state number prot i.none (λ z. omega (arith, i.low, z)) i.high sound
  sound_accepted sound Eject none = ejected_sound w.state sound
  sound_accepted sound (Command p) none =
      let (_, r) = (command_admits w p).0 none in
      let room = r.buffer in
      replied_sound w p sound (omega arith) (verdict w.state.media w.state.host p) refl
  sound_accepted sound (Feed piece) none =
      let r = (admits w).0 none in
      by_feeding w piece (λ a. sound_b a.world.state ≡ true) (λ _. sound) (λ p e. write_on w sound _ p (open_sound w r (Write p) e))
      (λ p e. list_fed_sound w sound piece p (open_sound w r (ParameterList p) e))
  sound_accepted sound (Pull out) none =
      let r = (admits w).0 none in
      by_pulling w out (λ a. sound_b a.world.state ≡ true) (λ _. sound) (λ p e. answer_on w sound _ p (open_sound w r (Answer p) e))
      (λ p e. read_on w sound _ p (open_sound w r (Read p) e))

  pub keeps : (c : Call) → sound_b w.state ≡ true → sound_b (call_of w c).world.state ≡ true
  keeps c sound = by_call w c (λ a. sound_b a.world.state ≡ true) (λ _. sound) (sound_accepted sound c)

  -- ---- and a ready world stays ready

  ready_with : Ready w → (v : World) → sound_b v.state ≡ true → Keeps w v → Ready v
  ready_with r v sound k =
      record { sound = sound; buffer = k.buffer ∙ r.buffer; disc = rw k.media (k.disc ∙ r.disc) }

  -- bytes that were fed leave the lengths
  fed_keeps : Ready w → (piece : List ℕ) → Keeps w (accepted_of w (Feed piece)).world
  unfolding moved_of obeyed_of
  fed_keeps r piece =
      by_feeding w piece (λ a. Keeps w a.world) (λ _. record { media = refl; buffer = refl; disc = refl })
      (λ p e.
      let number = w.state.media.disc in
      let s = (may_write w r p e).span in
      let n = min (length piece) p.left in
      let l : length (take n piece) ≡ n = length-take-le n piece (omega arith) in
      let pos = block_holds number s.whole.low s.whole.high in
      let lengths =
      feed_lengths (block_bytes number) pos (take n piece) (writing p.at w.buffer w.disc) (omega (arith, block_fits number, r.buffer))
      (rw l (omega (arith, s.within))) in
      record { media = refl; buffer = lengths.0; disc = lengths.1 })
      (λ p e.
      let n = min (length piece) p.left in
      let long = length-sets w.buffer (list_bytes - p.left) (take n piece) in
      by_list p n (list_gathers p w (take n piece)) (Keeps w) (λ _. record { media = refl; buffer = long; disc = refl })
      (λ _ _. record { media = refl; buffer = long; disc = refl })
      (λ _ _. record { media = refl; buffer = long; disc = formatted_length w.state.media.disc _ w.disc }))

  pulled_keeps : (out : List ℕ) → Keeps w (accepted_of w (Pull out)).world
  unfolding moved_of
  pulled_keeps out =
      by_pulling w out (λ a. Keeps w a.world) (λ _. record { media = refl; buffer = refl; disc = refl })
      (λ p e. record { media = refl; buffer = refl; disc = refl })
      (λ p e. record { media = refl; buffer = refl; disc = refl })

  ready_accepted : Ready w → (c : Call) → house_of w c ≡ 0 → Ready (accepted_of w c).world
  unfolding inserted_of ejected_of disc_bytes run_bytes block_bytes format_of
  ready_accepted r (Insert number prot disc) none =
      record {
        sound = sound_accepted r.sound (Insert number prot disc) none;
        buffer = r.buffer;
        disc = ((insert_admits w.state number disc).0 none).whole;
      }
  ready_accepted r Eject none = record { sound = ejected_sound w.state r.sound; buffer = r.buffer; disc = refl }
  ready_accepted r (Command p) none =
      ready_with r _ (sound_accepted r.sound (Command p) none) (replied_keeps w p (verdict w.state.media w.state.host p))
  ready_accepted r (Feed piece) none = ready_with r _ (sound_accepted r.sound (Feed piece) none) (fed_keeps r piece)
  ready_accepted r (Pull out) none = ready_with r _ (sound_accepted r.sound (Pull out) none) (pulled_keeps out)

  pub stays : (c : Call) → Ready w → Ready (call_of w c).world
  stays c r = by_call w c (λ a. Ready a.world) (λ _. r) (ready_accepted r c)

  -- a feed leaves the disc in
  pub fed_media : Ready w → (piece : List ℕ) → (call_of w (Feed piece)).world.state.media ≡ w.state.media
  fed_media r piece = rw (accepted w (Feed piece) (ready_in w r)) (fed_keeps r piece).media
