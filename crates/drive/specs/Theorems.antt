-- What holds of the entries; proved in proofs/Staying, OneReply, Whole, Protected, Commanded, Pending and Units. What holds of every call is stated of any
-- device, in `demands` specs/Answered.
use Rattle.std.specs.Prelude.{◌≡◌, ◌&&◌, ◌||◌, ◌∷◌, ◌++◌, ◌+◌, ◌*◌, ◌-◌, ◌%◌, ◌<◌, ◌≤◌, Result, is_some}
use Rattle.ground.specs.Kit.{Bool, true, false, cond, not, List, [], ℕ, suc, eqb, leb, ltb, length, take, drop, replicate, set}
use Rattle.disc.specs.declared.{BlockAddress.BlockAddress, BytePlace.BytePlace}
use Rattle.state.specs.declared.{State.State, DiscAt.DiscAt}
use Rattle.house.specs.declared.{Refusal.Refusal}
use Rattle.commands.specs.declared.{Obeyed.Obeyed}
use Rattle.moves.specs.declared.{Moved.Moved}
use Rattle.ground.specs.Bytes.{byte_at}
use Rattle.disc.specs.Formats.{buffer_bytes, block_bytes, place_of}
use Rattle.state.specs.declared.Transfer.TheVariants.{Write}
use Rattle.state.specs.Senses.{triple, no_sense, change_told, same_b}
use Rattle.state.specs.States.{power_on, onward}
use Rattle.sound.specs.Soundness.{sound_b}
use Rattle.packet.specs.Rules.{code_of, rule_of}
use Rattle.checks.specs.Verdicts.{other_unit_b, in_mask_b}
use Rattle.house.specs.World.{World, in_buffer, in_lent, Heard, Reply}
use Rattle.house.specs.Theorems.{Ready}
use Rattle.commands.specs.Events.{Event, happened}
use Rattle.commands.specs.Obeying.{commanded}
use Rattle.moves.specs.Places.{Whole}
use Rattle.moves.specs.Replies.{moved}
use Rattle.feeds.specs.Feeding.{Writing, writing, feed_byte, feed_bytes, feed_of}
use Rattle.drive.specs.Calls.{Call, Insert, Eject, Command, Feed, Pull, house_of, call_of}

abbrev pub PowerOnSound : Type 0
PowerOnSound = sound_b power_on ≡ true

-- ---- "Show that two answers allowed by the promise are equal": of each entry, whatever its definition says

abbrev pub OnePowerOn : Type 0
OnePowerOn = (r q : State) → r ≡ power_on → q ≡ power_on → r ≡ q

-- an insertion or an ejection, from a state
abbrev pub OneEvent : Type 0
OneEvent = (e : Event) (s : State) (r q : Result State Refusal) → happened s r ≡ e → happened s q ≡ e → r ≡ q

-- a command, and the block buffer
abbrev pub OneCommand : Type 0
OneCommand =
    (a : Reply) (w : World) (disc : List ℕ) (r q : Result Obeyed Refusal) (b c : List ℕ) → commanded r (in_lent w b disc) ≡ a
    → commanded q (in_lent w c disc) ≡ a → (r ≡ q) × (b ≡ c)

-- a feed or a pull, the caller's buffer, the block buffer and the disc
abbrev pub OneMove : Type 0
OneMove =
    (a : Reply) (w : World) (r q : Result Moved Refusal) (x y b c d e : List ℕ) → moved r x (in_lent w b d) ≡ a
    → moved q y (in_lent w c e) ≡ a → (r ≡ q) × (x ≡ y) × (b ≡ c) × (d ≡ e)

-- ---- "Hence at any cut a block on the disc is all old or all new."

-- a block's bytes on a disc, and the place after it
abbrev pub block_of : ℕ → List ℕ → BlockAddress → List ℕ
block_of number disc k = take (block_bytes number) (drop (place_of number k).0 disc)

abbrev pub end_of : ℕ → BlockAddress → BytePlace
end_of number k = onward (place_of number k) (block_bytes number)

-- disc and block buffer are whole, and n bytes from the place on are on the disc
pub record Room (number : ℕ) (w : Writing) (n : ℕ) : Type 0 where
  pub whole : Whole number w.disc
  pub buffer : length w.buffer ≡ buffer_bytes
  pub within : w.at.0 + n ≤ length w.disc

-- a byte that isn't its block's last leaves the disc; one that is changes exactly that block, to what the block buffer then holds
abbrev pub OnlyAtTheLastByte : Type 0
OnlyAtTheLastByte =
    (number : ℕ) (w : Writing) (x : ℕ) (k : BlockAddress) → Room number w 1
    → let v = feed_byte (block_bytes number) w x in
    block_of number v.disc k
    ≡ cond (eqb (w.at.0 + 1) (end_of number k).0) (take (block_bytes number) v.buffer) (block_of number w.disc k)

-- the last byte of block k is among n bytes from `at` on
unfoldable pub completes_b : ℕ → BytePlace → ℕ → BlockAddress → Bool
completes_b number at n k = ltb at.0 (end_of number k).0 && leb (end_of number k).0 (at.0 + n)

-- block k of what is gathered: from the start of the block being written, what the block buffer has of it, and then the bytes
unfoldable pub gathered_of : ℕ → Writing → List ℕ → BlockAddress → List ℕ
gathered_of number w xs k =
    let within = w.at.0 % block_bytes number in
    take (block_bytes number) (drop ((place_of number k).0 - (w.at.0 - within)) (take within w.buffer ++ xs))

-- after any bytes each block is what it was or, if its last byte is among them, what was gathered for it
abbrev pub AllOldOrAllNew : Type 0
AllOldOrAllNew =
    (number : ℕ) (w : Writing) (xs : List ℕ) (k : BlockAddress) → Room number w (length xs)
    → block_of number (feed_bytes (block_bytes number) w xs).disc k
    ≡ cond (completes_b number w.at (length xs) k) (gathered_of number w xs k) (block_of number w.disc k)

-- and so after any accepted feed of an open write
abbrev pub FedAllOldOrAllNew : Type 0
FedAllOldOrAllNew =
    (w : World) (piece : List ℕ) (p : DiscAt) (k : BlockAddress) → Ready w → w.state.transfer ≡ Write p
    → let number = w.state.media.disc in
    let fed = feed_of w piece in
    let count = fed.heard.count in
    block_of number fed.world.disc k
    ≡ cond (completes_b number p.at count k) (gathered_of number (writing p.at w.buffer w.disc) (take count piece) k)
    (block_of number w.disc k)

-- ---- "protection": while a protected disc is in, no command, feed or pull changes a byte of it

abbrev pub ProtectedStays : Type 0
ProtectedStays =
    (w : World) → sound_b w.state ≡ true → w.state.media.protected ≡ true
    → ((p : List ℕ) → (call_of w (Command p)).world.disc ≡ w.disc)
    × ((piece : List ℕ) → (call_of w (Feed piece)).world.disc ≡ w.disc)
    × ((out : List ℕ) → (call_of w (Pull out)).world.disc ≡ w.disc)

-- ---- an accepted command has passed where it left the triple 00 00 00, and nowhere else

abbrev pub PassedByTriple : Type 0
PassedByTriple = (w : World) (p : List ℕ) → house_of w (Command p) ≡ 0
    → let r = call_of w (Command p) in r.heard.passed ≡ same_b r.world.state.host.sense no_sense

-- ---- "So while a change is pending, of the commands that pass A and B and aren't 03 or 12, the second at the latest reports a
-- ---- change, if no event comes between."

-- a packet of 12 bytes that passes A and B and isn't 03 or 12
abbrev pub attended_b : List ℕ → Bool
attended_b p =
    eqb (length p) 12 && is_some (rule_of p) && not (other_unit_b p) && not (eqb (code_of p) 0x03 || eqb (code_of p) 0x12)

abbrev pub attends_b : Call → Bool
attends_b (Insert number prot disc) = false
attends_b Eject = false
attends_b (Command p) = attended_b p
attends_b (Feed x) = false
attends_b (Pull x) = false

abbrev pub attended_count : List Call → ℕ
attended_count [] = 0
attended_count (c ∷ cs) = cond (attends_b c) (suc (attended_count cs)) (attended_count cs)

-- the command was accepted, failed, and answers 06 28 00
abbrev pub answers_change_b : Heard → Bool
answers_change_b h = eqb h.house 0 && not h.passed && same_b h.sense change_told

-- some such command of a run reports a change
abbrev pub some_reports_b : World → List Call → Bool
some_reports_b w [] = false
some_reports_b w (c ∷ cs) = (attends_b c && answers_change_b (call_of w c).heard) || some_reports_b (call_of w c).world cs

-- any calls may stand in the run, events too, since none of them takes an attention back; two of them have to be such commands
abbrev pub SecondAtLatest : Type 0
SecondAtLatest =
    (w : World) (cs : List Call) → Ready w → w.state.host.change ≡ true → 2 ≤ attended_count cs → some_reports_b w cs ≡ true

-- ---- Req 02: "Check B no longer applies to code 12; with a nonzero unit byte 0 of the answer is 1F, the other 35 bytes are unchanged."

-- an accepted INQUIRY passes if no bit is set outside its mask, row 3 from 0, and else fails at E: to whatever unit, whatever is pending
abbrev pub InquiryByMask : Type 0
InquiryByMask =
    (w : World) (p : List ℕ) → code_of p ≡ 0x12 → house_of w (Command p) ≡ 0
    → let h = (call_of w (Command p)).heard in
    (h.passed ≡ in_mask_b p 3) × (h.sense ≡ cond (in_mask_b p 3) no_sense (triple 0x05 0x24 0x00))

-- so with one of bits 4-0 of byte 1 it fails
abbrev pub LowBitsFail : Type 0
LowBitsFail =
    (w : World) (p : List ℕ) → code_of p ≡ 0x12 → byte_at p 1 < 256 → (byte_at p 1 % 32 ≡ 0 → ⊥) → house_of w (Command p) ≡ 0
    → let h = (call_of w (Command p)).heard in
    (h.passed ≡ false) × (h.sense ≡ triple 0x05 0x24 0x00)

-- INQUIRY to a unit, with an allocation
abbrev pub scan_packet : ℕ → ℕ → List ℕ
scan_packet unit allocation = 0x12 ∷ unit * 32 ∷ 0 ∷ 0 ∷ allocation ∷ replicate 7 0

-- "A console scans units 0 to 7 and gives up because 01 fails INQUIRY with 05 25 00.": to each of them it passes where it is accepted
abbrev pub ScanPasses : Type 0
ScanPasses =
    (w : World) (unit allocation : ℕ) → unit < 8 → allocation < 256
    → let c = Command (scan_packet unit allocation) in
    house_of w c ≡ 0 → (call_of w c).heard.passed ≡ true

-- to another unit it leaves what it leaves to unit 0, heard, state, disc and block buffer, but for byte 0 of the answer, where there is one
abbrev pub ToAnotherUnit : Type 0
ToAnotherUnit =
    (w : World) (unit allocation : ℕ) → 0 < unit → unit < 8 → allocation < 256
    → let c = Command (scan_packet 0 allocation) in
    let a = call_of w c in
    let typed = cond (eqb allocation 0) a.world.buffer (set a.world.buffer 0 0x1f) in
    house_of w c ≡ 0 → call_of w (Command (scan_packet unit allocation)) ≡ record { heard = a.heard; world = in_buffer a.world typed }

-- any other base command to another unit, so that byte 1 is 32 at the least, fails at B
abbrev pub OthersFailAtB : Type 0
OthersFailAtB =
    (w : World) (p : List ℕ) → (code_of p ≡ 0x12 → ⊥) → is_some (rule_of p) ≡ true → 32 ≤ byte_at p 1 → house_of w (Command p) ≡ 0
    → let h = (call_of w (Command p)).heard in
    (h.passed ≡ false) × (h.sense ≡ triple 0x05 0x25 0x00)
