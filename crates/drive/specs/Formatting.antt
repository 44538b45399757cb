-- Req 03, FORMAT UNIT: what holds of the command, of its list and of the disc; proved in proofs/FormatUnit and proofs/Formatting.
use Rattle.std.specs.Prelude.{◌≡◌, ◌&&◌, ◌∷◌, ◌++◌, ◌+◌, ◌*◌, ◌-◌, ◌/◌, ◌%◌, ◌<◌, ◌≤◌}
use Rattle.ground.specs.Kit.{Bool, true, false, cond, not, List, ℕ, min, eqb, length, take, replicate, sets}
use Rattle.disc.specs.declared.{BlockAddress.BlockAddress}
use Rattle.state.specs.declared.{State.State, ListAt.ListAt}
use Rattle.ground.specs.Bytes.{byte_at, be2, be3, be4}
use Rattle.disc.specs.Formats.{format_of, block_bytes}
use Rattle.state.specs.declared.Transfer.TheVariants.{Closed, ParameterList}
use Rattle.state.specs.Senses.{triple, no_sense}
use Rattle.state.specs.States.{host_of, state_of}
use Rattle.packet.specs.Rules.{code_of}
use Rattle.house.specs.World.{World, in_state, Reply}
use Rattle.house.specs.Theorems.{Ready}
use Rattle.lists.specs.Lists.{bad_list_b, meant_of, among_b}
use Rattle.feeds.specs.Feeding.{feed_of}
use Rattle.drive.specs.Calls.{Command, house_of, call_of}
use Rattle.drive.specs.Theorems.{block_of}

-- ---- the command: "Mask: byte 1 FF, bytes 2, 7, 8 FF. Check F asks for 17 in byte 1 bits 4-0, list length 12 and a track (byte 2) not past
-- ---- the last cylinder, else 05 24 00; protection is check H."

-- FORMAT UNIT of a track
abbrev pub format_packet : ℕ → List ℕ
format_packet track = 0x04 ∷ 0x17 ∷ track ∷ replicate 5 0 ++ 12 ∷ replicate 3 0

-- no attention is pending, and a disc is in, unprotected, that has the track
pub record Formattable (s : State) (track : ℕ) : Type 0 where
  pub power : s.host.power ≡ false
  pub change : s.host.change ≡ false
  pub is_in_lem : s.media.disc ≡ 0 → ⊥
  pub bare : s.media.protected ≡ false
  pub on : track < (format_of s.media.disc).cylinders

-- an accepted one passes exactly there, and with no other packet
abbrev pub FormatPasses : Type 0
FormatPasses =
    (w : World) (p : List ℕ) → code_of p ≡ 0x04 → house_of w (Command p) ≡ 0
    → let passed = (call_of w (Command p)).heard.passed in
    let track = byte_at p 2 in
    (passed ≡ true → (p ≡ format_packet track) × Formattable w.state track) × (p ≡ format_packet track → Formattable w.state track → passed ≡ true)

-- to unit 0, with no attention pending and a disc in, any other packet of code 04 fails at E or F, with or without protection; this one fails
-- at H, where the disc is protected
abbrev pub FormatFails : Type 0
FormatFails =
    (w : World) (p : List ℕ) → code_of p ≡ 0x04 → house_of w (Command p) ≡ 0 → byte_at p 1 < 32
    → let s = w.state in
    let track = byte_at p 2 in
    let on = track < (format_of s.media.disc).cylinders in
    let h = (call_of w (Command p)).heard in
    s.host.power ≡ false → s.host.change ≡ false → (s.media.disc ≡ 0 → ⊥)
    → (((p ≡ format_packet track) × on → ⊥) → (h.passed ≡ false) × (h.sense ≡ triple 0x05 0x24 0x00))
    × (p ≡ format_packet track → on → s.media.protected ≡ true → (h.passed ≡ false) × (h.sense ≡ triple 0x07 0x27 0x00))

-- it leaves all as it was, but for the sense, and for a list that is open: 12 bytes are left, and the track is remembered
abbrev pub FormatOpens : Type 0
FormatOpens =
    (w : World) (p : List ℕ) → code_of p ≡ 0x04
    → let a = call_of w (Command p) in
    let s = w.state in
    let open_list = ParameterList (record { track = byte_at p 2; left = 12 }) in
    a.heard.passed ≡ true
    → a.world ≡ in_state w (state_of s.media s.motor (host_of s.host.power s.host.change no_sense) open_list)

-- ---- which lists are good: "Defect list length other than 8, the Immediate bit set, or a descriptor other than the inserted disc's blocks
-- ---- and block length gives 05 26 00"; "Other list bits aren't judged"

-- of a disc, by the bytes that are free
abbrev pub good_list : ℕ → ℕ → ℕ → ℕ → List ℕ
good_list number byte0 byte1 byte8 = byte0 ∷ byte1 ∷ be2 8 ++ be4 (format_of number).blocks ++ byte8 ∷ be3 (format_of number).size

-- a list of 12 bytes is not refused exactly if it is one of these, with bit 1 of byte 1 zero
abbrev pub GoodLists : Type 0
GoodLists =
    (number : ℕ) (list : List ℕ) → length list ≡ 12 → ((i : ℕ) → byte_at list i < 256)
    → let good = good_list number (byte_at list 0) (byte_at list 1) (byte_at list 8) in
    (bad_list_b (format_of number) list ≡ false → (list ≡ good) × (byte_at list 1 / 2 % 2 ≡ 0))
    × (list ≡ good → byte_at list 1 / 2 % 2 ≡ 0 → bad_list_b (format_of number) list ≡ false)

-- ---- which blocks are meant: "every block, or with Single Track the blocks of that track and side (first block: (track times 2 plus side)
-- ---- times sectors per track)"

-- all of them are on the disc
abbrev pub MeantOnDisc : Type 0
MeantOnDisc =
    (number track : ℕ) (list : List ℕ) (k : BlockAddress) → track < (format_of number).cylinders
    → among_b (meant_of (format_of number) track list) k ≡ true → k.0 < (format_of number).blocks

-- with bit 4 of byte 1 exactly those of the track and the side, bit 0; without it every block of the disc
abbrev pub MeantBlocks : Type 0
MeantBlocks =
    (number track : ℕ) (list : List ℕ) (k : BlockAddress) → 0 < number → number ≤ 4
    → let f = format_of number in
    let among = among_b (meant_of f track list) k in
    (byte_at list 1 / 16 % 2 ≡ 1 → among ≡ eqb (k.0 / f.sectors) (track * 2 + byte_at list 1 % 2))
    × (byte_at list 1 / 16 % 2 ≡ 0 → k.0 < f.blocks → among ≡ true)

-- ---- what a feed makes of an open list

-- the world before, the list that is open, the piece and the reply
module _ (w : World) (p : ListAt) (piece : List ℕ) (a : Reply) where
  abbrev number : ℕ
  number = w.state.media.disc

  -- "judged when its twelfth byte is taken", by the first 12 bytes that the block buffer then holds
  abbrev whole_b : Bool
  whole_b = eqb a.heard.count p.left

  abbrev list : List ℕ
  list = take 12 a.world.buffer

  abbrev bad_b : Bool
  bad_b = bad_list_b (format_of number) list

  pub record FedList : Type 0 where
    -- "fed like a write, gathered in the block buffer's first 12 bytes": the rest of the block buffer is untouched, and of the piece the caller's
    pub count : a.heard.count ≡ min (length piece) p.left
    pub buffer : a.world.buffer ≡ sets w.buffer (12 - p.left) (take a.heard.count piece)
    -- with a bad list 05 26 00, else the sense stays as it was; "Refused or not, the list closes the transfer"; all else stays
    pub state :
        let s = w.state in
        let sense = cond (whole_b && bad_b) (triple 0x05 0x26 0x00) s.host.sense in
        let rest = ParameterList (record { track = p.track; left = p.left - a.heard.count }) in
        a.world.state ≡ state_of s.media s.motor (host_of s.host.power s.host.change sense) (cond whole_b Closed rest)
    -- ".. is filled with F6 in that same call": block by block
    pub blocks :
        (k : BlockAddress)
        → let meant = among_b (meant_of (format_of number) p.track list) k in
        block_of number a.world.disc k ≡ cond (whole_b && not bad_b && meant) (replicate (block_bytes number) 0xf6) (block_of number w.disc k)
    -- "changes no disc byte", nor does a list before its twelfth byte
    pub unchanged : (whole_b && not bad_b) ≡ false → a.world.disc ≡ w.disc

abbrev pub FedLists : Type 0
FedLists = (w : World) (p : ListAt) (piece : List ℕ) → Ready w → w.state.transfer ≡ ParameterList p → FedList w p piece (feed_of w piece)
