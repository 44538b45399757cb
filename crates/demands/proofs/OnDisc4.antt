-- What our drive does over any block buffer and any disc 4: by computation. Assumes nothing.
use Rattle.std.specs.Prelude.{◌≡◌, ◌∷◌, ◌++◌}
use Rattle.ground.specs.Kit.{refl, ap, Bool, true, false, List, [], ℕ, min, length, take, drop, length-drop, replicate}
use Rattle.state.specs.declared.{Sense.Sense, Transfer.Transfer}
use Rattle.disc.specs.Formats.{buffer_bytes, format_of, block_bytes, run_bytes, disc_bytes, place_of}
use Rattle.disc.specs.Masks.{masks, mask_row}
use Rattle.state.specs.declared.Transfer.TheVariants.{Closed, Answer, Read, Write, ParameterList}
use Rattle.state.specs.Senses.{no_sense, unknown_code, change_told, named_b}
use Rattle.state.specs.States.{media_of, host_of, state_of, no_media, inserted_of, obeyed_of}
use Rattle.sound.specs.Soundness.{on_disc_b, ends_on_block_b, list_sound_b, open_sound_b, sound_b}
use Rattle.packet.specs.Fields.{address_of, length_of}
use Rattle.packet.specs.Rules.{rules, rule_of}
use Rattle.checks.specs.Verdicts.{in_mask_b, checks_of, verdict}
use Rattle.answer.specs.Answers.{inquiry_data}
use Rattle.answer.specs.Giving.{answer_of, allocation_of, give_of}
use Rattle.house.specs.World.{World, in_state, in_buffer, in_disc, Heard, Reply, reply, refusal}
use Rattle.house.specs.Refusals.{move_tests, command_tests, insert_tests}
use Rattle.house.specs.Theorems.{Ready}
use Rattle.commands.specs.Events.{insert_of}
use Rattle.commands.specs.Obeying.{span_of, performed_of, command_of}
use Rattle.feeds.specs.Feeding.{feed_by, feed_of}
use Rattle.pulls.specs.Pulling.{pull_by, pull_of}
use Rattle.drive.specs.Calls.{Insert, Command, Feed, Pull, call_of}
use Rattle.drive.specs.Cases.{length_at7, bytes2_and4}
use Rattle.drive.specs.Theorems.{scan_packet}
use Rattle.demands.specs.Device.{Device}
use Rattle.demands.specs.Answered.{judged_of}
use Rattle.demands.specs.Faithful.{Run, Accounted}
use Rattle.demands.proofs.Foretelling.{foretold_accepted}

-- the counts and bytes of an accepted feed and pull
module _ {d : Device} {r : Run} (a : Accounted d r) where
  pub fed_count : (piece : List ℕ)
      → let h = (d.call r.world (Feed piece)).heard in
      h.house ≡ 0 → h.count ≡ min (length piece) r.ledger.left
  fed_count piece none = ap (λ (h : Heard). h.count) (foretold_accepted r.ledger r.world (Feed piece) _ (a.hears (Feed piece)) none)

  pub pulled_bytes : (out : List ℕ)
      → let h = (d.call r.world (Pull out)).heard in
      let coming = r.ledger.coming in
      h.house ≡ 0 → (h.count ≡ min (length out) (length coming)) × (h.out ≡ take h.count coming ++ drop h.count out)
  pulled_bytes out none =
      let e = foretold_accepted r.ledger r.world (Pull out) _ (a.hears (Pull out)) none in
      let count = ap (λ (h : Heard). h.count) e in
      (count, rw count (ap (λ (h : Heard). h.out) e))

-- TEST UNIT READY, INQUIRY of no bytes, INQUIRY of one byte to a unit, a code that is unknown, READ of some blocks, WRITE of the first two and
-- FORMAT UNIT of track 3
abbrev pub test : List ℕ
test = bytes2_and4 0x00 0 0

abbrev pub inquiry : List ℕ
inquiry = scan_packet 0 0

abbrev pub inquiry_at : ℕ → List ℕ
inquiry_at unit = scan_packet unit 1

abbrev pub unknown : List ℕ
unknown = bytes2_and4 0x55 0 0

abbrev pub read : ℕ → ℕ → List ℕ
read from n = length_at7 0x28 from n

abbrev pub write : List ℕ
write = length_at7 0x2a 0 2

abbrev pub format : List ℕ
format = 0x04 ∷ 0x17 ∷ 3 ∷ replicate 5 0 ++ 12 ∷ replicate 3 0

abbrev pub listing : Transfer
listing = ParameterList (record { track = 3; left = 12 })

abbrev pub reading : ℕ → ℕ → Transfer
reading at left = Read (record { at = record { 0 = at }; left = left })

abbrev pub writing : ℕ → ℕ → Transfer
writing at left = Write (record { at = record { 0 = at }; left = left })

-- the replies to a command that passes, and to one that fails or an event
abbrev pub passes : World → Reply
passes w = reply 0 true 0 [] w

abbrev pub leaves : World → Reply
leaves w = reply 0 false 0 [] w

module _ (w : World) (disc : List ℕ) where
  -- no disc is in, and nothing is pending
  abbrev pub without : World
  without = in_disc (in_state w (state_of no_media false (host_of false false no_sense) Closed)) []

  -- disc 4 is in, unprotected; a change is pending or not
  abbrev pub with4 : Bool → Sense → Transfer → World
  with4 change sense t = in_disc (in_state w (state_of (media_of 4 false) false (host_of false change sense) t)) disc

  -- nothing is pending, and this is open
  abbrev pub open4 : Transfer → World
  open4 t = with4 false no_sense t

  -- an answer of one byte is open
  abbrev pub answering4 : ℕ → World
  answering4 byte = in_buffer (open4 (Answer (record { at = 0; left = 1 }))) (byte ∷ drop 1 w.buffer)

  -- what ours does there
  pub record Ours : Type 0 where
    pub inserts : call_of without (Insert 4 false disc) ≡ leaves (with4 true no_sense Closed)
    pub refuses : call_of (open4 (reading 0 512)) (Insert 4 false disc) ≡ refusal 5 (open4 (reading 0 512)) []
    pub inquires : call_of (with4 true no_sense Closed) (Command inquiry) ≡ passes (with4 true no_sense Closed)
    -- to unit 0 and to another
    pub inquires_here : call_of (open4 Closed) (Command (inquiry_at 0)) ≡ passes (answering4 0x00)
    pub inquires_elsewhere : call_of (open4 Closed) (Command (inquiry_at 7)) ≡ passes (answering4 0x1f)
    pub unknown_fails : call_of (with4 true no_sense Closed) (Command unknown) ≡ leaves (with4 true unknown_code Closed)
    -- TEST UNIT READY tells the change if it is pending, else it passes
    pub tells : (sense : Sense) → named_b sense ≡ true → call_of (with4 true sense Closed) (Command test) ≡ leaves (with4 false change_told Closed)
    pub tests : (sense : Sense) → named_b sense ≡ true → call_of (with4 false sense Closed) (Command test) ≡ passes (open4 Closed)
    pub inquiry_passes : (judged_of (verdict (media_of 4 false) (host_of false true no_sense) inquiry)).passed ≡ true
    pub elsewhere_passes : (judged_of (verdict (media_of 4 false) (host_of false false no_sense) (inquiry_at 7))).passed ≡ true
    pub test_fails : (judged_of (verdict (media_of 4 false) (host_of false true no_sense) test)).passed ≡ false
    pub test_passes : (judged_of (verdict (media_of 4 false) (host_of false false change_told) test)).passed ≡ true
    pub reads_third : call_of (open4 Closed) (Command (read 2 1)) ≡ passes (open4 (reading 1024 512))
    pub reads_two : call_of (open4 Closed) (Command (read 0 2)) ≡ passes (open4 (reading 0 1024))
    pub reads_three : call_of (open4 Closed) (Command (read 0 3)) ≡ passes (open4 (reading 0 1536))
    pub writes : call_of (open4 Closed) (Command write) ≡ passes (open4 (writing 0 1024))
    pub formats : call_of (open4 Closed) (Command format) ≡ passes (open4 listing)
    -- pulls of an open answer, of an open READ and with nothing open, feeds of a WRITE of one block and of two, and of a list
    pub pulls_answer : (byte : ℕ) (out : List ℕ) → call_of (answering4 byte) (Pull out) ≡ pull_by (answering4 byte).state.transfer (answering4 byte) out
    pub pulls : (out : List ℕ) → call_of (open4 (reading 0 512)) (Pull out) ≡ pull_by (reading 0 512) (open4 (reading 0 512)) out
    pub pulls_third : (out : List ℕ) → call_of (open4 (reading 1024 512)) (Pull out) ≡ pull_by (reading 1024 512) (open4 (reading 1024 512)) out
    pub pulls_none : (out : List ℕ) → call_of (open4 Closed) (Pull out) ≡ reply 0 false 0 out (open4 Closed)
    pub feeds_one : (piece : List ℕ) → call_of (open4 (writing 0 512)) (Feed piece) ≡ feed_by (writing 0 512) (open4 (writing 0 512)) piece
    pub feeds : (piece : List ℕ) → call_of (open4 (writing 0 1024)) (Feed piece) ≡ feed_by (writing 0 1024) (open4 (writing 0 1024)) piece
    pub feeds_on : (piece : List ℕ) → call_of (open4 (writing 1 1023)) (Feed piece) ≡ feed_by (writing 1 1023) (open4 (writing 1 1023)) piece
    pub feeds_list : (piece : List ℕ) → call_of (open4 listing) (Feed piece) ≡ feed_by listing (open4 listing) piece

  module _ (b : length w.buffer ≡ buffer_bytes) (d : length disc ≡ 32768) where
    pub ours : Ours
    unfolding call_of format_of block_bytes run_bytes disc_bytes place_of masks mask_row named_b inserted_of obeyed_of on_disc_b ends_on_block_b list_sound_b open_sound_b sound_b address_of length_of rules rule_of in_mask_b checks_of verdict inquiry_data answer_of allocation_of give_of move_tests command_tests insert_tests insert_of span_of performed_of command_of feed_of pull_of
    ours =
        record {
          inserts = rw d;
          refuses = refl;
          inquires = rw (b, d);
          inquires_here = rw (b, d);
          inquires_elsewhere = rw (b, d);
          unknown_fails = rw (b, d);
          tells = λ sense named. rw (b, d, named);
          tests = λ sense named. rw (b, d, named);
          inquiry_passes = refl;
          elsewhere_passes = refl;
          test_fails = refl;
          test_passes = refl;
          reads_third = rw (b, d);
          reads_two = rw (b, d);
          reads_three = rw (b, d);
          writes = rw (b, d);
          formats = rw (b, d);
          pulls_answer = λ byte out. rw (length-drop 1 w.buffer, b, d);
          pulls = λ out. rw (b, d);
          pulls_third = λ out. rw (b, d);
          pulls_none = λ out. rw (b, d);
          feeds_one = λ piece. rw (b, d);
          feeds = λ piece. rw (b, d);
          feeds_on = λ piece. rw (b, d);
          feeds_list = λ piece. rw (b, d);
        }

    -- the worlds that runs are met in
    ready4 : (change : Bool) (t : Transfer) → open_sound_b (media_of 4 false) t ≡ true → Ready (with4 change no_sense t)
    unfolding sound_b named_b format_of block_bytes run_bytes disc_bytes
    ready4 change t e = record { sound = rw e; buffer = b; disc = d }

    pub ready_closed : (change : Bool) → Ready (with4 change no_sense Closed)
    unfolding open_sound_b
    ready_closed change = ready4 change Closed refl

    pub ready_reading : Ready (open4 (reading 0 512))
    unfolding open_sound_b on_disc_b format_of block_bytes run_bytes disc_bytes
    ready_reading = ready4 false (reading 0 512) refl

    pub ready_writing : Ready (open4 (writing 0 1024))
    unfolding open_sound_b on_disc_b ends_on_block_b format_of block_bytes run_bytes disc_bytes
    ready_writing = ready4 false (writing 0 1024) refl

    pub ready_listing : Ready (open4 listing)
    unfolding open_sound_b list_sound_b format_of
    ready_listing = ready4 false listing refl
