-- Demand 3: "Cutting changes nothing. From a sound state with the right buffers, data lent whole or cut anywhere, with no other call
-- between, gives the same counts in sum, bytes, disc, block buffer and state. A READ or WRITE of at least one block that passes and is
-- carried through may be cut into consecutive commands of its own code, alike but for address and length, of one or more blocks, each
-- carried through with no event between: all pass, with the same bytes, disc, block buffer and end state."
use Rattle.std.specs.Prelude.{◌≡◌, ◌&&◌, ◌||◌, ◌∷◌, ◌++◌, ◌+◌, ◌≤◌, Some}
use Rattle.ground.specs.Kit.{Bool, true, false, List, [], flatten, ℕ, eqb, length, take}
use Rattle.disc.specs.declared.{BlockAddress.BlockAddress}
use Rattle.packet.specs.declared.{Field.Field, Rule.Rule}
use Rattle.disc.specs.Formats.{run_bytes}
use Rattle.packet.specs.Fields.{address_of, length_of}
use Rattle.packet.specs.Rules.{code_of, rule_of}
use Rattle.packet.specs.declared.Field.TheVariants.{Nowhere, Byte4, Bytes7To8, Bytes6To9}
use Rattle.ground.specs.Bytes.{byte_at, be2, be4}
use Rattle.house.specs.World.{World}
use Rattle.house.specs.Theorems.{Ready}
use Rattle.drive.specs.Calls.{Call, Command, Feed, Pull}
use Rattle.demands.specs.Device.{Device}
use Rattle.demands.specs.Ledger.{blocks_on}
use Rattle.demands.specs.Faithful.{Faithful}

-- ---- "data lent whole or cut anywhere, with no other call between"; Req 03: "Demand 3's cutting of data covers the list too."

-- the counts in sum, the pieces or buffers afterwards one after the other, and the world
pub record Lent : Type 0 where
  pub count : ℕ
  pub out : List ℕ
  pub world : World

abbrev pub lent : ℕ → List ℕ → World → Lent
lent count out w = record { count = count; out = out; world = w }

-- `way` is Feed or Pull
abbrev pub lend_all : Device → (List ℕ → Call) → World → List (List ℕ) → Lent
lend_all d way w [] = lent 0 [] w
lend_all d way w (x ∷ xs) =
    let a = d.call w (way x) in
    let rest = lend_all d way a.world xs in
    lent (a.heard.count + rest.count) (a.heard.out ++ rest.out) rest.world

-- any number of pieces of any length
abbrev pub CutAnywhere : Device → (List ℕ → Call) → Type 0
CutAnywhere d way = (w : World) (pieces : List (List ℕ)) → Ready w → lend_all d way w pieces ≡ lend_all d way w (flatten pieces ∷ [])

-- ---- "cut into consecutive commands of its own code"

-- "28 and A8 (each a READ) .., 2A, 2E and AA (each a WRITE)"
abbrev pub READ : List ℕ
READ = 0x28 ∷ 0xa8 ∷ []

abbrev pub WRITE : List ℕ
WRITE = 0x2a ∷ 0x2e ∷ 0xaa ∷ []

abbrev pub is_in : ℕ → List ℕ → Bool
is_in code [] = false
is_in code (c ∷ cs) = eqb code c || is_in code cs

-- "alike but for address and length": bytes 2-5, and bytes 7-8 or bytes 6-9
abbrev pub alike : Field → List ℕ → BlockAddress → ℕ → List ℕ
alike Nowhere p from n = p
alike Byte4 p from n = p
alike Bytes7To8 p from n =
    byte_at p 0 ∷ byte_at p 1 ∷ be4 from.0 ++ byte_at p 6 ∷ be2 n ++ byte_at p 9 ∷ byte_at p 10 ∷ byte_at p 11 ∷ []
alike Bytes6To9 p from n = byte_at p 0 ∷ byte_at p 1 ∷ be4 from.0 ++ be4 n ++ byte_at p 10 ∷ byte_at p 11 ∷ []

-- whether all passed, the bytes that moved, and the world
pub record Carried : Type 0 where
  pub passed : Bool
  pub bytes : List ℕ
  pub world : World

abbrev pub carried : Bool → List ℕ → World → Carried
carried passed bytes w = record { passed = passed; bytes = bytes; world = w }

-- a command, and what is lent for it in pieces
abbrev pub carry : Device → (List ℕ → Call) → World → List ℕ → List (List ℕ) → Carried
carry d way w p pieces =
    let a = d.call w (Command p) in
    let l = lend_all d way a.world pieces in
    carried a.heard.passed (take l.count l.out) l.world

-- a command of so many blocks, and the pieces lent for it
pub record Part : Type 0 where
  pub blocks : ℕ
  pub pieces : List (List ℕ)

-- consecutive commands like p, from an address on
abbrev pub carry_all : Device → (List ℕ → Call) → World → Field → List ℕ → BlockAddress → List Part → Carried
carry_all d way w field p from [] = carried true [] w
carry_all d way w field p from (x ∷ xs) =
    let one = carry d way w (alike field p from x.blocks) x.pieces in
    let rest = carry_all d way one.world field p (blocks_on from x.blocks) xs in
    carried (one.passed && rest.passed) (one.bytes ++ rest.bytes) rest.world

abbrev pub blocks_in : List Part → ℕ
blocks_in [] = 0
blocks_in (x ∷ xs) = x.blocks + blocks_in xs

-- "carried through": enough is lent for n blocks of the disc; more than that is the caller's
abbrev pub Through : ℕ → ℕ → List (List ℕ) → Type 0
Through number n pieces = run_bytes number n ≤ length (flatten pieces)

-- "of one or more blocks, each carried through"
abbrev pub AllThrough : ℕ → List Part → Type 0
AllThrough number [] = Unit
AllThrough number (x ∷ xs) = (1 ≤ x.blocks) × Through number x.blocks x.pieces × AllThrough number xs

-- the bytes lent for n blocks, and those lent for all parts
abbrev pub data_of : ℕ → ℕ → List (List ℕ) → List ℕ
data_of number n pieces = take (run_bytes number n) (flatten pieces)

abbrev pub data_in : ℕ → List Part → List ℕ
data_in number [] = []
data_in number (x ∷ xs) = data_of number x.blocks x.pieces ++ data_in number xs

-- a passing READ or WRITE of n blocks, n at least 1, that is carried through, and parts of n blocks in all
pub record Cut (codes : List ℕ) (d : Device) (w : World) (p : List ℕ) (rule : Rule) (pieces : List (List ℕ)) (parts : List Part) : Type 0 where
  pub ready : Ready w
  pub code : is_in (code_of p) codes ≡ true
  pub known : rule_of p ≡ Some rule
  pub passes : (d.call w (Command p)).heard.passed ≡ true
  pub some : 1 ≤ length_of rule.length p
  pub through : Through w.state.media.disc (length_of rule.length p) pieces
  pub sum : blocks_in parts ≡ length_of rule.length p
  pub all : AllThrough w.state.media.disc parts

-- "all pass, with the same bytes, disc, block buffer and end state"
abbrev pub ReadsCut : Device → Type 0
ReadsCut d =
    (w : World) (p : List ℕ) (rule : Rule) (pieces : List (List ℕ)) (parts : List Part) → Cut READ d w p rule pieces parts
    → carry_all d Pull w rule.length p (address_of p) parts ≡ carry d Pull w p pieces

-- a WRITE is given the same bytes
abbrev pub WritesCut : Device → Type 0
WritesCut d =
    (w : World) (p : List ℕ) (rule : Rule) (pieces : List (List ℕ)) (parts : List Part) → Cut WRITE d w p rule pieces parts
    → data_in w.state.media.disc parts ≡ data_of w.state.media.disc (length_of rule.length p) pieces
    → carry_all d Feed w rule.length p (address_of p) parts ≡ carry d Feed w p pieces

pub record Cuttings (d : Device) : Type 0 where
  -- "data lent whole or cut anywhere .. gives the same counts in sum, bytes, disc, block buffer and state"
  pub feeds : CutAnywhere d Feed
  pub pulls : CutAnywhere d Pull
  -- "A READ or WRITE of at least one block that passes and is carried through may be cut into consecutive commands .."
  pub reads : ReadsCut d
  pub writes : WritesCut d

-- "so demand 3 is stated over demand 2's definition"
pub record Uncut (d : Device) : Type 0 where
  pub over : Faithful d
  pub cut : Cuttings d
