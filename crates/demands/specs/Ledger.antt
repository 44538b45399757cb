-- The ledger: an account that is blank at power-on, or read off a drive once, and from then on kept from the calls and from what was heard.
use Rattle.std.specs.Prelude.{◌&&◌, ◌||◌, ◌∷◌, ◌++◌, ◌+◌, ◌*◌, ◌-◌, ◌/◌, ◌%◌, Option, Some, None}
use Rattle.ground.specs.Kit.{Bool, true, false, cond, not, List, [], flatten, ℕ, zero, suc, eqb, length, take, drop, replicate, set}
use Rattle.disc.specs.declared.{BlockAddress.BlockAddress}
use Rattle.state.specs.declared.{Sense.Sense, Media.Media, Host.Host, State.State, Transfer.Transfer}
use Rattle.packet.specs.declared.{Rule.Rule, Routine.Routine}
use Rattle.ground.specs.Bytes.{byte_at}
use Rattle.disc.specs.Formats.{format_of, block_bytes, run_bytes}
use Rattle.state.specs.declared.Transfer.TheVariants.{Closed, Answer as AnswerFrom, Read as ReadFrom, Write as WriteTo, ParameterList as ListFor}
use Rattle.state.specs.Senses.{triple, no_sense, same_b}
use Rattle.state.specs.States.{media_of, host_of, state_of, no_media}
use Rattle.packet.specs.Fields.{address_of, length_of}
use Rattle.packet.specs.Rules.{rule_of}
use Rattle.packet.specs.declared.Routine.TheVariants.{Nothing, Motor, Answer, Read, Write, ParameterList}
use Rattle.answer.specs.Giving.{answer_of, allocation_of}
use Rattle.house.specs.World.{World, Heard}
use Rattle.lists.specs.Lists.{bad_list_b}
use Rattle.feeds.specs.Feeding.{takes}
use Rattle.pulls.specs.Pulling.{gives}
use Rattle.drive.specs.Calls.{Call, Insert, Eject, Command, Feed, Pull}

-- the disc's blocks; and of the block being written, which it is and what came of it so far
pub record Store : Type 0 where
  pub blocks : List (List ℕ)
  pub block : BlockAddress
  pub got : List ℕ

abbrev pub store : List (List ℕ) → BlockAddress → List ℕ → Store
store blocks block got = record { blocks = blocks; block = block; got = got }

-- no parameter list is being taken, or one is: the track that its command named, and what came of it so far
pub data Listing : Type 0 where
  none : Listing
  list : ℕ → List ℕ → Listing

-- what the caller knows of the drive: the disc that is in and its protection; the attentions that were not told yet and the triple
-- heard last; what is stored; how many bytes a write or a list still takes, and the bytes that a read or an answer still gives; the list
pub record Ledger : Type 0 where
  pub media : Media
  pub host : Host
  pub stored : Store
  pub left : ℕ
  pub coming : List ℕ
  pub listing : Listing

-- without a list, and with one
abbrev pub ledger : Media → Host → Store → ℕ → List ℕ → Ledger
ledger media host stored left coming =
    record { media = media; host = host; stored = stored; left = left; coming = coming; listing = none }

abbrev pub listed : Media → Host → Store → ℕ → List ℕ → Ledger
listed media host stored track got =
    record { media = media; host = host; stored = stored; left = 12 - length got; coming = []; listing = list track got }

-- blocks of which none is being written; without a disc there are none
abbrev pub unwritten : List (List ℕ) → Store
unwritten blocks = store blocks (record { 0 = 0 }) []

abbrev pub empty : Store
empty = unwritten []

-- "Power-on: no disc, .. power-on flag set, change flag clear, no sense, closed."
abbrev pub blank : Ledger
blank = ledger no_media (host_of true false no_sense) empty 0 []

-- the first n blocks of so many bytes
abbrev pub blocks_of : ℕ → ℕ → List ℕ → List (List ℕ)
blocks_of size zero disc = []
blocks_of size (suc n) disc = take size disc ∷ blocks_of size n (drop size disc)

-- the blocks of a disc of that number
abbrev pub disc_blocks : ℕ → List ℕ → List (List ℕ)
disc_blocks number disc = blocks_of (block_bytes number) (format_of number).blocks disc

-- ---- the ledger of a drive that is met as it stands

-- its blocks; of an open write the block of that place, and what the block buffer holds of it
abbrev pub stored_in : ℕ → List ℕ → List (List ℕ) → Transfer → Store
stored_in size buffer blocks Closed = unwritten blocks
stored_in size buffer blocks (AnswerFrom p) = unwritten blocks
stored_in size buffer blocks (ReadFrom p) = unwritten blocks
stored_in size buffer blocks (WriteTo p) = store blocks (record { 0 = p.at.0 / size }) (take (p.at.0 % size) buffer)
stored_in size buffer blocks (ListFor p) = unwritten blocks

-- of an open list, what the block buffer holds of it
abbrev pub listed_in : List ℕ → Transfer → Listing
listed_in buffer Closed = none
listed_in buffer (AnswerFrom p) = none
listed_in buffer (ReadFrom p) = none
listed_in buffer (WriteTo p) = none
listed_in buffer (ListFor p) = list p.track (take (12 - p.left) buffer)

-- read off its world once, before the first call
abbrev pub ledger_of : World → Ledger
ledger_of w =
    let s = w.state in
    let number = s.media.disc in
    let stored = stored_in (block_bytes number) w.buffer (disc_blocks number w.disc) s.transfer in
    record {
      media = s.media;
      host = s.host;
      stored = stored;
      left = takes s.transfer;
      coming = gives w.buffer w.disc s.transfer;
      listing = listed_in w.buffer s.transfer;
    }

-- ---- what is noted of a call

-- so many blocks further on
abbrev pub blocks_on : BlockAddress → ℕ → BlockAddress
blocks_on k n = record { 0 = k.0 + n }

-- "stored whole": with its last byte a block replaces the one on the disc, and gathering starts anew at the next
abbrev pub gather_byte : ℕ → Store → ℕ → Store
gather_byte size s x =
    let got = s.got ++ (x ∷ []) in
    cond (eqb (length got) size) (store (set s.blocks s.block.0 got) (blocks_on s.block 1) []) (store s.blocks s.block got)

abbrev pub gather : ℕ → Store → List ℕ → Store
gather size s [] = s
gather size s (x ∷ xs) = gather size (gather_byte size s x) xs

-- "06 29 00 for power-on, else 06 28 00; that one flag is cleared": any other triple leaves both. The ledger's own rule, so that the drive's
-- is held to it
abbrev pub hearing : Host → Sense → Host
hearing h sense = host_of (not (same_b sense (triple 0x06 0x29 0x00)) && h.power) (not (same_b sense (triple 0x06 0x28 0x00)) && h.change) sense

-- "every block, or with Single Track the blocks of that track and side": the ledger's own rule, by the track and the side of block k
abbrev pub meant_b : ℕ → ℕ → List ℕ → ℕ → Bool
meant_b number track got k =
    not (eqb (byte_at got 1 / 16 % 2) 1) || eqb (k / (format_of number).sectors) (track * 2 + byte_at got 1 % 2)

-- "is filled with F6": of the blocks from k on each that is meant, and the others stay as they were
abbrev pub reformat : ℕ → (ℕ → Bool) → ℕ → List (List ℕ) → List (List ℕ)
reformat size meant k [] = []
reformat size meant k (b ∷ bs) = cond (meant k) (replicate size 0xf6) b ∷ reformat size meant (suc k) bs

abbrev pub reformatted : ℕ → ℕ → List ℕ → List (List ℕ) → List (List ℕ)
reformatted number track got blocks = reformat (block_bytes number) (meant_b number track got) 0 blocks

-- "or formatted": what comes of a whole list, which gives 05 26 00 if it is bad
abbrev pub judges_list : Ledger → ℕ → List ℕ → Ledger
judges_list l track got =
    let number = l.media.disc in
    cond (bad_list_b (format_of number) got) (ledger l.media (hearing l.host (triple 0x05 0x26 0x00)) l.stored 0 [])
    (ledger l.media l.host (unwritten (reformatted number track got l.stored.blocks)) 0 [])

-- a command that passed: a READ gives the blocks as they are stored, a WRITE takes as many from its address on, an answer gives its first
-- bytes, as the drive was before; FORMAT UNIT takes a list, for the track in byte 2
abbrev pub opened : Routine → Ledger → Host → List ℕ → ℕ → Ledger
opened Nothing l h p n = ledger l.media h l.stored 0 []
opened Motor l h p n = ledger l.media h l.stored 0 []
opened (Answer a) l h p n = ledger l.media h l.stored 0 (take (allocation_of a n) (answer_of a l.media l.host.sense p))
opened Read l h p n = ledger l.media h l.stored 0 (flatten (take n (drop (address_of p).0 l.stored.blocks)))
opened Write l h p n = ledger l.media h (store l.stored.blocks (address_of p) []) (run_bytes l.media.disc n) []
opened ParameterList l h p n = listed l.media h l.stored (byte_at p 2) []

abbrev pub passes : Option Rule → Ledger → Host → List ℕ → Ledger
passes None l h p = ledger l.media h l.stored 0 []
passes (Some rule) l h p = opened rule.routine l h p (length_of rule.length p)

-- bytes that a write took, and bytes that a list took: with its twelfth it is judged
abbrev pub fed_to : Listing → Ledger → List ℕ → Ledger
fed_to none l xs = ledger l.media l.host (gather (block_bytes l.media.disc) l.stored xs) (l.left - length xs) l.coming
fed_to (list track got) l xs =
    let all = got ++ xs in
    cond (eqb (length all) 12) (judges_list l track all) (listed l.media l.host l.stored track all)

abbrev pub fed : Ledger → List ℕ → Ledger
fed l xs = fed_to l.listing l xs

-- an accepted call; an insertion leaves an open answer, an ejection and a command close whatever was open; a command tells its triple
abbrev pub accepts : Ledger → Call → Heard → Ledger
accepts l (Insert number prot disc) h =
    ledger (media_of number prot) (host_of l.host.power true h.sense) (unwritten (disc_blocks number disc)) l.left l.coming
accepts l Eject h = ledger no_media (host_of l.host.power l.host.change h.sense) empty 0 []
accepts l (Command p) h =
    let host = hearing l.host h.sense in
    cond h.passed (passes (rule_of p) l host p) (ledger l.media host l.stored 0 [])
accepts l (Feed piece) h = fed l (take h.count piece)
accepts l (Pull out) h =
    record {
      media = l.media;
      host = l.host;
      stored = l.stored;
      left = l.left;
      coming = drop h.count l.coming;
      listing = l.listing;
    }

-- a refused call leaves the ledger as it is
unfoldable pub noted : Ledger → Call → Heard → Ledger
noted l c h = cond (eqb h.house 0) (accepts l c h) l

-- a state with what the caller knows, to ask the house tests of
abbrev pub known : Ledger → State
known l = state_of l.media false l.host Closed
