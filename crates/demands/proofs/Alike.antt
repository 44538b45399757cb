-- A packet that is alike to a passing READ or WRITE but for address and length passes too, where its blocks are among the other's.
-- Assumes nothing.
use Rattle.std.specs.Prelude.{◌≡◌, ◌&&◌, ◌||◌, ◌+◌, ◌≤◌, ◌<◌, ◌%◌, Some, Ok, Err}
use Rattle.ground.specs.Kit.{refl, ◌∙◌, Bool, true, false, not, false≢true, List, ℕ, arith, eq-eqb, eqb-true, le-ltb, lt-leb, bit_and, and_mask, eqb, leb, ltb, length}
use Rattle.disc.specs.declared.{BlockAddress.BlockAddress}
use Rattle.state.specs.declared.{Media.Media, Host.Host}
use Rattle.packet.specs.declared.{Field.Field, Values.Values, Rule.Rule}
use Rattle.ground.specs.Bytes.{byte_at}
use Rattle.ground.proofs.Tables.{all}
use Rattle.disc.specs.Formats.{format_of}
use Rattle.disc.specs.Masks.{masks, mask_row}
use Rattle.disc.proofs.Discs.{few_blocks}
use Rattle.packet.specs.Fields.{address_of, length_of}
use Rattle.packet.specs.Rules.{rules, rule_of}
use Rattle.packet.specs.declared.Field.TheVariants.{Nowhere, Byte4, Bytes7To8, Bytes6To9}
use Rattle.packet.specs.declared.Values.TheVariants.{Any, ZeroBits, Page, FormatUnit}
use Rattle.packet.proofs.BaseCommands.{of_known, of_base, opens_b}
use Rattle.checks.specs.Verdicts.{bits_b, below_b, in_mask_b, checks_of, Verdict, verdict}
use Rattle.checks.proofs.Below.{below_at}
use Rattle.checks.proofs.Passing.{passed, in_range}
use Rattle.house.specs.World.{World, Reply}
use Rattle.house.proofs.Houses.{command_admits}
use Rattle.commands.specs.Obeying.{reply_to}
use Rattle.drive.specs.Calls.{Command, call_of}
use Rattle.drive.proofs.Calling.{by_call}
use Rattle.demands.specs.Uncut.{alike}

-- ---- what the table says of a READ and a WRITE

-- the bytes of address and length
abbrev set_b : Field → ℕ → Bool
set_b Nowhere i = false
set_b Byte4 i = false
set_b Bytes7To8 i = leb 2 i && not (eqb i 6) && leb i 8
set_b Bytes6To9 i = leb 2 i && leb i 9

-- a length in blocks
abbrev blocks_b : Field → Bool
blocks_b Nowhere = false
blocks_b Byte4 = false
blocks_b Bytes7To8 = true
blocks_b Bytes6To9 = true

-- F and F2 ask nothing
abbrev any_b : Values → Bool
any_b Any = true
any_b (ZeroBits bits) = false
any_b Page = false
any_b FormatUnit = false

-- byte i, if it is one of them, may have any bits
abbrev free_b : Field → ℕ → ℕ → Bool
free_b field row i = not (set_b field i) || eqb (byte_at (mask_row row) i) 0xff

-- what the test of all entries says of one that opens blocks
opening : (test : Rule → Bool) → all (λ e. of_known (λ code rule. not (opens_b rule.routine) || test rule) e.key e.item) rules ≡ true
    → (p : List ℕ) (rule : Rule) → rule_of p ≡ Some rule → opens_b rule.routine ≡ true → test rule ≡ true
opening test e p rule known opens = rw opens at (of_base (λ code rule. not (opens_b rule.routine) || test rule) e p rule known)

-- what holds of each that does
record Plain (rule : Rule) : Type 0 where
  blocks : blocks_b rule.length ≡ true
  any : any_b rule.values ≡ true
  range : rule.asked.range ≡ true
  free : below_b (free_b rule.length rule.row) 12 ≡ true

plain : (p : List ℕ) (rule : Rule) → rule_of p ≡ Some rule → opens_b rule.routine ≡ true → Plain rule
unfolding rules masks mask_row
plain p rule known opens =
    record {
      blocks = opening (λ rule. blocks_b rule.length) refl p rule known opens;
      any = opening (λ rule. any_b rule.values) refl p rule known opens;
      range = opening (λ rule. rule.asked.range) refl p rule known opens;
      free = opening (λ rule. below_b (free_b rule.length rule.row) 12) refl p rule known opens;
    }

-- ---- check E

module _ (field : Field) (row : ℕ) (p : List ℕ) (free : below_b (free_b field row) 12 ≡ true) (held : in_mask_b p row ≡ true) where
  -- a byte as it was
  kept_in : (i : ℕ) → ltb i 12 ≡ true → bits_b p (mask_row row) i ≡ true
  unfolding in_mask_b
  kept_in i h = below_at (bits_b p (mask_row row)) 12 i h held

  -- any byte of address and length
  set_in : (i x : ℕ) → ltb i 12 ≡ true → set_b field i ≡ true → eqb (bit_and (x % 256) (byte_at (mask_row row) i)) (x % 256) ≡ true
  set_in i x h set =
      let ff = eqb-true (byte_at (mask_row row) i) 0xff (rw set at (below_at (free_b field row) 12 i h free)) in
      rw ff (eq-eqb (bit_and (x % 256) 255) (x % 256) (and_mask (x % 256) 8 ∙ omega arith))

-- so the packet has no bit outside the mask if p has none
alike_in : (field : Field) (row : ℕ) (p : List ℕ) (from : BlockAddress) (n : ℕ) → below_b (free_b field row) 12 ≡ true → in_mask_b p row ≡ true
    → in_mask_b (alike field p from n) row ≡ true
unfolding in_mask_b
alike_in Nowhere row p from n free held = held
alike_in Byte4 row p from n free held = held
alike_in Bytes7To8 row p from n free held = simp (kept_in Bytes7To8 row p free held, set_in Bytes7To8 row p free held)
alike_in Bytes6To9 row p from n free held = simp (kept_in Bytes6To9 row p free held, set_in Bytes6To9 row p free held)

-- ---- what the packet says

-- p's code and unit, and its own address and length
record Same (field : Field) (p q : List ℕ) (from : BlockAddress) (n : ℕ) : Type 0 where
  long : length q ≡ 12
  rule : rule_of q ≡ rule_of p
  unit : byte_at q 1 ≡ byte_at p 1
  address : (address_of q).0 ≡ from.0
  blocks : length_of field q ≡ n

same : (field : Field) (p : List ℕ) (from : BlockAddress) (n : ℕ) → blocks_b field ≡ true → from.0 < 65536 → n < 65536
    → Same field p (alike field p from n) from n
unfolding address_of length_of rule_of
same Nowhere p from n e h k = absurd (false≢true e)
same Byte4 p from n e h k = absurd (false≢true e)
same Bytes7To8 p from n e h k = record { long = refl; rule = refl; unit = refl; address = omega arith; blocks = omega arith }
same Bytes6To9 p from n e h k = record { long = refl; rule = refl; unit = refl; address = omega arith; blocks = omega arith }

-- a passing packet of n blocks from a block on, all on the disc
pub record Says (m : Media) (h : Host) (rule : Rule) (p : List ℕ) (from n : ℕ) : Type 0 where
  pub long : length p ≡ 12
  pub passes : verdict m h p ≡ Ok rule
  pub address : (address_of p).0 ≡ from
  pub blocks : length_of rule.length p ≡ n
  pub within : from + n ≤ (format_of m.disc).blocks

any_value : (v : Values) → any_b v ≡ true → v ≡ Any
any_value Any e = refl
any_value (ZeroBits bits) e = absurd (false≢true e)
any_value Page e = absurd (false≢true e)
any_value FormatUnit e = absurd (false≢true e)

module _ (m : Media) (h : Host) (rule : Rule) (p : List ℕ) (opens : opens_b rule.routine ≡ true) where
  -- a packet alike, of blocks that are among those of p
  pub alike_says : (a l : ℕ) (from : BlockAddress) (n : ℕ) → Says m h rule p a l → 1 ≤ n → a ≤ from.0 → from.0 + n ≤ a + l
      → Says m h rule (alike rule.length p from n) from.0 n
  unfolding verdict checks_of
  alike_says a l from n says some low high =
      let c = passed m h p rule says.passes in
      let t = plain p rule c.known opens in
      let last = (format_of m.disc).blocks in
      let few = few_blocks m.disc in
      let q = same rule.length p from n t.blocks (omega arith) (omega arith) in
      record {
        long = q.long;
        passes =
            rw (
              q.rule,
              c.known,
              q.unit,
              c.unit,
              c.power,
              c.change,
              c.disc,
              alike_in rule.length rule.row p from n t.free c.mask,
              any_value rule.values t.any,
              q.address,
              q.blocks,
              lt-leb last from.0 (omega arith),
              le-ltb last (from.0 + n) (omega arith),
              t.range,
              c.unprotected,
            );
        address = q.address;
        blocks = q.blocks;
        within = omega arith;
      }

-- a command that passed has passed the checks
pub passed_says : (w : World) (p : List ℕ) (rule : Rule) → rule_of p ≡ Some rule → opens_b rule.routine ≡ true → (call_of w (Command p)).heard.passed ≡ true
    → Says w.state.media w.state.host rule p (address_of p).0 (length_of rule.length p)
passed_says w p rule known opens =
    by_call w (Command p) (λ (a : Reply). a.heard.passed ≡ true → Said) (λ _ e. absurd (false≢true e))
    (λ none e. here ((command_admits w p).0 none).0 (verdict w.state.media w.state.host p) refl e)
  where
    Said : Type 0
    Said = Says w.state.media w.state.host rule p (address_of p).0 (length_of rule.length p)

    here : length p ≡ 12 → (v : Verdict) → verdict w.state.media w.state.host p ≡ v → (reply_to v w p).heard.passed ≡ true → Said
    here long (Err sense) q e = absurd (false≢true e)
    here long (Ok own) q e =
        let all = passed w.state.media w.state.host p own q in
        let is : own ≡ rule = let k = all.known in cc in
        record { long = long; passes = rw is at q; address = refl; blocks = refl; within = in_range (rw is at all) opens }
