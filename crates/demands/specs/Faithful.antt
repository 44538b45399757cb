-- Demand 2, as Req 03 has it: "Each command passes or fails by UFI revision 1.0 as narrowed in paper 01, with the triple of the first check
-- that fails. While only our calls touch the disc, each block read holds the bytes last stored whole or formatted since insertion, else those it
-- came in with.
-- After an accepted insertion, while power stays on, only INQUIRY and REQUEST SENSE pass until some command has answered 06 28 00."
use Rattle.std.specs.Prelude.{◌≡◌, ◌||◌, ◌∷◌, ◌++◌}
use Rattle.ground.specs.Kit.{Bool, true, false, cond, not, List, [], flatten, ℕ, min, eqb, length, take, drop}
use Rattle.state.specs.Senses.{triple}
use Rattle.packet.specs.Rules.{code_of}
use Rattle.checks.specs.Verdicts.{verdict}
use Rattle.house.specs.World.{World, in_state, Heard, heard}
use Rattle.house.specs.Theorems.{Ready}
use Rattle.drive.specs.Calls.{Call, Insert, Eject, Command, Feed, Pull, returned, house_of}
use Rattle.drive.specs.Theorems.{answers_change_b}
use Rattle.demands.specs.Device.{Device, after}
use Rattle.demands.specs.Answered.{judged_of}
use Rattle.demands.specs.Ledger.{Ledger, blank, ledger_of, fed, known, noted}

-- ---- "each block read holds the bytes last stored whole or formatted since insertion, else those it came in with"

-- the world and the ledger side by side; the ledger sees the call and what was heard
pub record Run : Type 0 where
  pub world : World
  pub ledger : Ledger

abbrev pub step : Device → Run → Call → Run
step d r c =
    let a = d.call r.world c in
    record { world = a.world; ledger = noted r.ledger c a.heard }

-- any calls, whatever is answered; one that is refused for the state, block buffer or disc lent with it could stand anywhere, since it
-- changes nothing (`Answered.refused`)
abbrev pub run : Device → Run → List Call → Run
run d r [] = r
run d r (c ∷ cs) = run d (step d r c) cs

-- a drive that is met as it stands: from here on the ledger sees no more of it
abbrev pub met : World → Run
met w = record { world = w; ledger = ledger_of w }

-- power-on, whatever is lent
abbrev pub powered_on : Device → World → Run
powered_on d w = record { world = in_state w d.start; ledger = blank }

-- whether a transfer is open
abbrev pub open_b : Ledger → Bool
open_b l = not (eqb l.left 0) || not (eqb (length l.coming) 0)

-- what is heard of an accepted call: by the checks A to H; "A feed takes the first min(piece, left) bytes", and its triple is the ledger's
-- afterwards; "A pull fills the first min(buffer, left) bytes of the lent buffer, leaves its tail .. and reports that count."
abbrev pub foretells : Ledger → Call → Heard
foretells l (Insert number prot disc) = heard 0 false l.host.sense 0 []
foretells l Eject = heard 0 false (cond (open_b l) (triple 0x02 0x3a 0x00) l.host.sense) 0 []
foretells l (Command p) =
    let j = judged_of (verdict l.media l.host p) in
    heard 0 j.passed j.sense 0 []
foretells l (Feed piece) =
    let n = min (length piece) l.left in
    heard 0 false (fed l (take n piece)).host.sense n piece
foretells l (Pull out) =
    let n = min (length out) (length l.coming) in
    heard 0 false l.host.sense n (take n l.coming ++ drop n out)

-- and of any, by the house tests: of the world no more is asked than what is lent with the call
unfoldable pub foretold : Ledger → World → Call → Heard
foretold l w c =
    let house = house_of (in_state w (known l)) c in
    cond (eqb house 0) (foretells l c) (heard house false l.host.sense 0 (returned c))

-- what the ledger says, whatever is called next
pub record Accounted (d : Device) (r : Run) : Type 0 where
  -- what is heard is what it foretells: house number, passed or failed, triple, count and bytes
  pub hears : (c : Call) → (d.call r.world c).heard ≡ foretold r.ledger r.world c
  -- while a disc is in, it holds the ledger's blocks
  pub holds : (r.ledger.media.disc ≡ 0 → ⊥) → r.world.disc ≡ flatten r.ledger.stored.blocks

-- ---- "until some command has answered 06 28 00"

abbrev pub answers_b : Call → Heard → Bool
answers_b (Insert number prot disc) h = false
answers_b Eject h = false
answers_b (Command p) h = answers_change_b h
answers_b (Feed piece) h = false
answers_b (Pull out) h = false

abbrev pub some_answers_b : Device → World → List Call → Bool
some_answers_b d w [] = false
some_answers_b d w (c ∷ cs) = answers_b c (d.call w c).heard || some_answers_b d (d.call w c).world cs

-- ---- the three sentences

-- "Each command passes or fails .., with the triple of the first check that fails.": in every world
abbrev pub Judges : Device → Type 0
Judges d =
    (w : World) (p : List ℕ)
    → let h = (d.call w (Command p)).heard in
    h.house ≡ 0 → record { passed = h.passed; sense = h.sense } ≡ judged_of (verdict w.state.media w.state.host p)

-- "While only our calls touch the disc, each block read holds ..": after any calls
pub record Accounts (d : Device) : Type 0 where
  -- from every sound state with the right buffers
  pub ready : (w : World) (cs : List Call) → Ready w → Accounted d (run d (met w) cs)
  -- and from power-on with any block buffer and disc: while one of them is wrong, all but events is refused
  pub powered : (w : World) (cs : List Call) → Accounted d (run d (powered_on d w) cs)

-- "After an accepted insertion, .. only INQUIRY and REQUEST SENSE pass until some command has answered 06 28 00.": in every world, after any
-- calls, further events among them
abbrev pub Announces : Device → Type 0
Announces d =
    (w : World) (number : ℕ) (prot : Bool) (disc : List ℕ) (cs : List Call) (p : List ℕ)
    → let inserted = d.call w (Insert number prot disc) in
    inserted.heard.house ≡ 0
    → some_answers_b d inserted.world cs ≡ false
    → (d.call (after d inserted.world cs) (Command p)).heard.passed ≡ true
    → (eqb (code_of p) 0x03 || eqb (code_of p) 0x12) ≡ true

pub record Faithful (d : Device) : Type 0 where
  pub judged : Judges d
  pub accounted : Accounts d
  pub announced : Announces d
