-- Paper 01, "Cases at the edges": those marked, in one statement; proved in proofs/Cases.
use Rattle.std.specs.Prelude.{◌≡◌, ◌∷◌, ◌++◌, ◌*◌}
use Rattle.ground.specs.Kit.{Bool, true, false, List, [], map, ℕ, length, replicate}
use Rattle.state.specs.declared.{Sense.Sense, State.State, Transfer.Transfer}
use Rattle.disc.specs.Formats.{buffer_bytes}
use Rattle.state.specs.declared.Transfer.TheVariants.{Closed, Answer, Read}
use Rattle.state.specs.Senses.{triple, no_sense}
use Rattle.state.specs.States.{media_of, host_of, state_of}
use Rattle.ground.specs.Bytes.{be2, be4}
use Rattle.house.specs.World.{World, in_state}
use Rattle.commands.specs.Obeying.{command_of}
use Rattle.feeds.specs.Feeding.{feed_of}

-- "Disc 3, no flags, unless said"
abbrev pub plain : State
plain = state_of (media_of 3 false) false (host_of false false no_sense) Closed

abbrev protected_disc : State
protected_disc = state_of (media_of 3 true) false (host_of false false no_sense) Closed

abbrev pending : State
pending = state_of (media_of 3 false) false (host_of false true no_sense) Closed

abbrev after_failure : State
after_failure = state_of (media_of 3 false) false (host_of false false (triple 0x05 0x21 0x00)) Closed

-- packets: code, address, and length at bytes 7-8 or at bytes 6-9; code, byte 2 and byte 4
abbrev pub length_at7 : ℕ → ℕ → ℕ → List ℕ
length_at7 code address length = code ∷ 0 ∷ be4 address ++ 0 ∷ be2 length ++ replicate 3 0

abbrev length_at6 : ℕ → ℕ → ℕ → List ℕ
length_at6 code address length = code ∷ 0 ∷ be4 address ++ be4 length ++ replicate 2 0

abbrev pub bytes2_and4 : ℕ → ℕ → ℕ → List ℕ
bytes2_and4 code two four = code ∷ 0 ∷ two ∷ 0 ∷ four ∷ replicate 7 0

-- the state before, the packet, whether it passes, the state after
pub record Case : Type 0 where
  pub before : State
  pub packet : List ℕ
  pub passed : Bool
  pub after : State

-- the state after is the one before but for sense and transfer, so flags are kept
abbrev pub but : State → Sense → Transfer → State
but s sense transfer = state_of s.media s.motor (host_of s.host.power s.host.change sense) transfer

infix 20 ◌gets◌passes◌
abbrev ◌gets◌passes◌ : State → List ℕ → Transfer → Case
before gets packet passes transfer =
    record { before = before; packet = packet; passed = true; after = but before no_sense transfer }

infix 20 ◌gets◌fails◌
abbrev ◌gets◌fails◌ : State → List ℕ → Sense → Case
before gets packet fails sense =
    record { before = before; packet = packet; passed = false; after = but before sense Closed }

abbrev last_block : Transfer
last_block = Read (record { at = record { 0 = 2879 * 512 }; left = 512 })

abbrev answer : ℕ → Transfer
answer size = Answer (record { at = 0; left = size })

abbrev pub cases : List Case
cases =
    (plain gets length_at7 0x28 2879 1 passes last_block)
    ∷ (plain gets length_at7 0x28 2879 2 fails triple 0x05 0x21 0x00)
    ∷ (plain gets length_at7 0x28 2879 0 passes Closed)
    ∷ (plain gets length_at7 0x28 2880 0 fails triple 0x05 0x21 0x00)
    ∷ (plain gets length_at6 0xa8 0xffffffff 2 fails triple 0x05 0x21 0x00)
    ∷ (protected_disc gets length_at7 0x2a 2880 1 fails triple 0x05 0x21 0x00)
    ∷ (protected_disc gets length_at7 0x2a 0 0 fails triple 0x07 0x27 0x00)
    ∷ (pending gets bytes2_and4 0x55 0 0 fails triple 0x05 0x20 0x00)
    ∷ (pending gets bytes2_and4 0x12 0 36 passes answer 36)
    ∷ (plain gets bytes2_and4 0x5a 0xff 0 fails triple 0x05 0x39 0x00)
    ∷ (after_failure gets bytes2_and4 0x03 0 0 passes Closed)
    ∷ []

-- what is heard and remembered: the house number, whether it passed, the state
pub record Outcome : Type 0 where
  pub house : ℕ
  pub passed : Bool
  pub state : State

abbrev pub outcome : World → Case → Outcome
outcome w c =
    let r = command_of (in_state w c.before) c.packet in
    record { house = r.heard.house; passed = r.heard.passed; state = r.world.state }

-- no house test refuses
abbrev pub expected : Case → Outcome
expected c = record { house = 0; passed = c.passed; state = c.after }

-- "Write of one block, 511 bytes fed, then 00": whether the write passed, how many bytes were taken, whether 00 passed, and the disc
pub record BrokenOff : Type 0 where
  pub written : Bool
  pub count : ℕ
  pub passed : Bool
  pub disc : List ℕ

abbrev pub broken_off : World → List ℕ → BrokenOff
broken_off w piece =
    let wrote = command_of (in_state w plain) (length_at7 0x2a 0 1) in
    let fed = feed_of wrote.world piece in
    let tested = command_of fed.world (bytes2_and4 0x00 0 0) in
    record { written = wrote.heard.passed; count = fed.heard.count; passed = tested.heard.passed; disc = tested.world.disc }

-- over any block buffer, any disc 3 and any 511 bytes
abbrev pub Starred : Type 0
Starred =
    (w : World) (piece : List ℕ) → length w.buffer ≡ buffer_bytes → length w.disc ≡ 1474560 → length piece ≡ 511
    → (map (outcome w) cases ≡ map expected cases)
    × (broken_off w piece ≡ record { written = true; count = 511; passed = true; disc = w.disc })
