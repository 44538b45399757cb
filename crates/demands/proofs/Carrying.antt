-- A READ or WRITE that is carried through, whole or cut into consecutive commands, moves the same bytes. Assumes nothing.
use Rattle.std.specs.Prelude.{◌≡◌, ◌&&◌, ◌||◌, ◌∷◌, ◌++◌, ◌+◌, ◌-◌, ◌≤◌, Some}
use Rattle.ground.specs.Kit.{refl, sym, ap, subst, ◌∙◌, true, not, false≢true, List, [], append-nil, flatten, ℕ, min, add-zero, zero-mul, arith, length, take, drop, length-drop, length-append, take-append-drop, length-take-le, take_at, drop-length}
use Rattle.disc.specs.declared.{BlockAddress.BlockAddress}
use Rattle.state.specs.declared.{State.State}
use Rattle.packet.specs.declared.{Routine.Routine, Rule.Rule}
use Rattle.disc.specs.Formats.{block_bytes, run_bytes, place_of}
use Rattle.disc.proofs.Discs.{run_add, run_within}
use Rattle.state.specs.Senses.{no_sense}
use Rattle.state.specs.States.{obeyed_of, moved_of}
use Rattle.state.specs.declared.Transfer.TheVariants.{Closed}
use Rattle.packet.specs.Fields.{address_of, length_of}
use Rattle.packet.specs.Rules.{code_of, rules, rule_of}
use Rattle.packet.specs.declared.Routine.TheVariants.{Nothing, Motor, Answer, Read, Write, ParameterList}
use Rattle.packet.proofs.BaseCommands.{of_base, opens_b, writes_b}
use Rattle.checks.specs.Verdicts.{checks_of, verdict}
use Rattle.house.specs.World.{World, in_state, in_lent, Reply, reply}
use Rattle.house.specs.Theorems.{Ready}
use Rattle.commands.specs.Obeying.{span_of, routine_of, performed_of}
use Rattle.commands.proofs.Judging.{let_in}
use Rattle.drive.specs.Calls.{Call, Command, Feed, Pull, call_of}
use Rattle.drive.proofs.Staying.{stays}
use Rattle.demands.specs.Device.{Device, drive}
use Rattle.demands.specs.Ledger.{blocks_on}
use Rattle.demands.specs.Uncut.{
  Lent,
  lent,
  lend_all,
  READ,
  WRITE,
  is_in,
  alike,
  Carried,
  carried,
  carry,
  Part,
  carry_all,
  blocks_in,
  Through,
  AllThrough,
  data_of,
  data_in,
  Cut,
  Cuttings,
}
use Rattle.demands.proofs.Serving.{Bytes, bytes, Kind, Serves, lends, Puts, feeding, Feeds, feed_served, our_feeds, Gives, reading, Pulls, read_served, from_disc, our_pulls}
use Rattle.demands.proofs.Cutting.{Way, lent_whole, cut_anywhere, feed_way, pull_way}
use Rattle.demands.proofs.Alike.{Says, alike_says, passed_says}

-- ---- a READ and a WRITE

-- how it is lent for, the kind of transfer that its routine opens, and that what is moved on the disc is as long as what is lent
record Carrying : Type 0 where
  device : Device
  way : List ℕ → Call
  kind : Kind
  routine : Routine
  codes : List ℕ
  lending : Way device way
  serves : Serves device way kind
  goes_on : (s : State) (b : List ℕ) (at left : ℕ) → kind.next s b at left ≡ moved_of s (kind.transfer at left)
  commands : (w : World) (q : List ℕ) → Ready w → device.call w (Command q) ≡ call_of w (Command q)
  opens : opens_b routine ≡ true
  by_code : (p : List ℕ) (rule : Rule) → rule_of p ≡ Some rule → is_in (code_of p) codes ≡ true → rule.routine ≡ routine
  performs :
      (w : World) (p : List ℕ) (n : ℕ)
      → let number = w.state.media.disc in
      routine_of routine w p n
      ≡ in_state w (obeyed_of w.state no_sense w.state.motor (kind.transfer (run_bytes number (address_of p).0) (run_bytes number n)))
  long :
      (number at : ℕ) (x buffer disc : List ℕ) → at + length x ≤ length disc
      → length (kind.does number at (length x) x buffer disc).out ≡ length x

-- what the table opens by its codes
is_read : (r : Routine) → (opens_b r && not (writes_b r)) ≡ true → r ≡ Read
is_read Nothing e = absurd (false≢true e)
is_read Motor e = absurd (false≢true e)
is_read (Answer a) e = absurd (false≢true e)
is_read Read e = refl
is_read Write e = absurd (false≢true e)
is_read ParameterList e = absurd (false≢true e)

is_write : (r : Routine) → writes_b r ≡ true → r ≡ Write
is_write Nothing e = absurd (false≢true e)
is_write Motor e = absurd (false≢true e)
is_write (Answer a) e = absurd (false≢true e)
is_write Read e = absurd (false≢true e)
is_write Write e = refl
is_write ParameterList e = absurd (false≢true e)

-- a device whose commands are ours
abbrev pub OurCommands : Device → Type 0
OurCommands d = (w : World) (q : List ℕ) → Ready w → d.call w (Command q) ≡ call_of w (Command q)

-- and that gives as many bytes as the disc has
abbrev pub GivesAll : Gives → Type 0
GivesAll reads = (at n : ℕ) (buffer disc : List ℕ) → at + n ≤ length disc → length (reads at n buffer disc) ≡ n

-- a READ is pulled
read_by : {d : Device} {reads answers : Gives} → Pulls d reads answers → GivesAll reads → OurCommands d → Carrying
unfolding span_of place_of rules
read_by {d} {reads} p all commands =
    record {
      device = d;
      way = Pull;
      kind = reading reads;
      routine = Read;
      codes = READ;
      lending = pull_way p;
      serves = read_served p;
      goes_on = λ s b at left. refl;
      commands = commands;
      opens = refl;
      by_code = λ p rule known c.
          is_read rule.routine
          (rw c at (of_base (λ code rule. not (is_in code READ) || (opens_b rule.routine && not (writes_b rule.routine))) refl p rule known));
      performs = λ w p n. refl;
      long = λ number at x buffer disc h.
          rw (drop-length x, append-nil (reads at (length x) buffer disc)) (all at (length x) buffer disc h);
    }

-- a WRITE is fed
write_by : {d : Device} {puts : Puts} → Feeds d puts → OurCommands d → Carrying
unfolding span_of place_of rules
write_by {d} {puts} f commands =
    record {
      device = d;
      way = Feed;
      kind = feeding puts;
      routine = Write;
      codes = WRITE;
      lending = feed_way f;
      serves = feed_served f;
      goes_on = λ s b at left. refl;
      commands = commands;
      opens = refl;
      by_code = λ p rule known c.
          is_write rule.routine (rw c at (of_base (λ code rule. not (is_in code WRITE) || writes_b rule.routine) refl p rule known));
      performs = λ w p n. refl;
      long = λ number at x buffer disc h. refl;
    }

-- ---- the bytes of blocks

-- the data of n blocks, and of all parts, are as long as the blocks
data_long : (number n : ℕ) (pieces : List (List ℕ)) → Through number n pieces → length (data_of number n pieces) ≡ run_bytes number n
data_long number n pieces t = length-take-le (run_bytes number n) (flatten pieces) t

all_long : (number : ℕ) (parts : List Part) → AllThrough number parts → length (data_in number parts) ≡ run_bytes number (blocks_in parts)
unfolding run_bytes
all_long number [] t = sym (zero-mul (block_bytes number))
all_long number (x ∷ xs) t =
    rw (
      length-append (data_of number x.blocks x.pieces) (data_in number xs),
      data_long number x.blocks x.pieces t.1,
      all_long number xs t.2,
      run_add number x.blocks (blocks_in xs),
    )

-- each part is lent in pieces of some kind
abbrev pub All : (List (List ℕ) → Type 0) → List Part → Type 0
All Kept [] = Unit
All Kept (x ∷ xs) = Kept x.pieces × All Kept xs

-- a device e that does as d with a command that is so carried through
abbrev pub Same : (List ℕ → Call) → Device → Device → (List (List ℕ) → Type 0) → Type 0
Same way d e Kept =
    (w : World) (q : List ℕ) (pieces : List (List ℕ)) → Kept pieces → (carry d way w q pieces).world.state.transfer ≡ Closed
    → carry e way w q pieces ≡ carry d way w q pieces

-- ---- one command

-- the world after a command that has passed, was carried through and moved bytes
abbrev settled : World → Bytes → World
settled w m = in_lent (in_state w (obeyed_of w.state no_sense w.state.motor Closed)) m.buffer m.disc

abbrev carried_as : World → Bytes → Carried
carried_as w m = carried true m.out (settled w m)

-- a packet says the same then
says_settled : (w : World) (b : Bytes) (rule : Rule) (p : List ℕ) → rule_of p ≡ Some rule → (from n : ℕ)
    → Says w.state.media w.state.host rule p from n → Says w.state.media (settled w b).state.host rule p from n
unfolding verdict checks_of obeyed_of
says_settled w b rule p known from n says =
    record {
      long = says.long;
      passes = rw known (rw known at says.passes);
      address = says.address;
      blocks = says.blocks;
      within = says.within;
    }

module _ (c : Carrying) where
  -- the table's name for both
  opens_blocks : (rule : Rule) → rule.routine ≡ c.routine → opens_b rule.routine ≡ true
  opens_blocks rule performs = rw performs c.opens

  -- all of some data, from block `from` on
  abbrev all_moved : World → ℕ → List ℕ → Bytes
  all_moved w from x = let number = w.state.media.disc in c.kind.does number (run_bytes number from) (length x) x w.buffer w.disc

  -- n blocks and then others
  more_moved : (w : World) (from n : ℕ) (x y : List ℕ) → length x ≡ run_bytes w.state.media.disc n
      → let one = all_moved w from x in
      let two = all_moved (settled w one) (from + n) y in
      all_moved w from (x ++ y) ≡ bytes (one.out ++ two.out) two.buffer two.disc
  unfolding obeyed_of
  more_moved w from n x y e =
      let number = w.state.media.disc in
      let next : run_bytes number from + length x ≡ run_bytes number (from + n) = rw (e, run_add number from n) in
      rw (← length-append x y, next) at (c.serves.more number (run_bytes number from) (length y) x y w.buffer w.disc)

  -- what is lent beyond the bytes that move stays as it is
  rest_stays : (number at n : ℕ) (z buffer disc : List ℕ) → n ≤ length z
      → let one = c.kind.does number at (length (take n z)) (take n z) buffer disc in
      c.kind.does number at n z buffer disc ≡ bytes (one.out ++ drop n z) one.buffer one.disc
  rest_stays number at n z buffer disc h =
      let x = take n z in
      let y = drop n z in
      let one = c.kind.does number at (length x) x buffer disc in
      let e : length x + 0 ≡ n = add-zero (length x) ∙ length-take-le n z h in
      (rw (e, take-append-drop n z) at (c.serves.more number at 0 x y buffer disc))
      ∙ rw (c.serves.none number (at + length x) y one.buffer one.disc)

  -- a command's reply, and what its pieces then move
  abbrev lend_for : Reply → List (List ℕ) → Carried
  lend_for a pieces =
      let m = lend_all c.device c.way a.world pieces in
      carried a.heard.passed (take m.count m.out) m.world

  -- the reply is ours
  as_commanded : (w : World) (q : List ℕ) (pieces : List (List ℕ)) → Ready w → carry c.device c.way w q pieces ≡ lend_for (call_of w (Command q)) pieces
  as_commanded w q pieces r = ap (λ (a : Reply). lend_for a pieces) (c.commands w q r)

  module _ (w : World) (r : Ready w) (rule : Rule) (performs : rule.routine ≡ c.routine) (q : List ℕ) (from n : ℕ)
      (says : Says w.state.media w.state.host rule q from n) where
    abbrev number : ℕ
    number = w.state.media.disc

    abbrev opened : World
    opened = in_state w (obeyed_of w.state no_sense w.state.motor (c.kind.transfer (run_bytes number from) (run_bytes number n)))

    -- the command passes and opens its transfer
    obeyed : call_of w (Command q) ≡ reply 0 true 0 [] opened
    unfolding call_of performed_of
    obeyed = let_in w q r says.long ∙ rw (says.passes, performs, c.performs w q (length_of rule.length q), says.address, says.blocks)

    opened-ready : Ready opened
    opened-ready = subst (λ (a : Reply). Ready a.world) obeyed (stays w (Command q) r)

    module _ (pieces : List (List ℕ)) (t : Through number n pieces) where
      abbrev all : Bytes
      all = all_moved w from (data_of number n pieces)

      -- all bytes of the transfer move, and it closes
      lent-through :
          lend_all c.device c.way opened pieces ≡ lent (run_bytes number n) (all.out ++ drop (run_bytes number n) (flatten pieces)) (settled w all)
      unfolding obeyed_of moved_of
      lent-through =
          let at = run_bytes number from in
          let left = run_bytes number n in
          let z = flatten pieces in
          let enough = t in
          let most : min (length z) left ≡ left = omega arith in
          let none : left - left ≡ 0 = omega arith in
          lent_whole c.lending opened pieces opened-ready
          ∙ lends c.serves opened at left refl z opened-ready
          ∙ rw (most, none, rest_stays number at left z w.buffer w.disc enough, c.goes_on, c.serves.left (at + left) 0)

      -- the command passed, and these bytes moved
      carried-through : carry c.device c.way w q pieces ≡ carried_as w all
      carried-through =
          let left = run_bytes number n in
          let x = data_of number n pieces in
          let l = data_long number n pieces t in
          let within = run_within number from n says.within in
          let room : run_bytes number from + length x ≤ length w.disc = rw (l, r.disc) within in
          as_commanded w q pieces r
          ∙ ap (λ (a : Reply). lend_for a pieces) obeyed
          ∙ ap (λ (m : Lent). carried true (take m.count m.out) m.world) lent-through
          ∙ rw (take_at all.out (drop left (flatten pieces)) left (c.long number (run_bytes number from) x w.buffer w.disc room ∙ l))

  -- ---- consecutive commands

  -- a world stays ready
  carry_ready : (w : World) (q : List ℕ) (pieces : List (List ℕ)) → Ready w → Ready (carry c.device c.way w q pieces).world
  carry_ready w q pieces r =
      let v = (call_of w (Command q)).world in
      let rv = stays w (Command q) r in
      let after = subst (λ (l : Lent). Ready l.world) (sym (lent_whole c.lending v pieces rv)) (c.lending.ready v (flatten pieces) rv) in
      subst (λ (y : Carried). Ready y.world) (sym (as_commanded w q pieces r)) after

  module _ (d : Device) (Kept : List (List ℕ) → Type 0) (as-ours : Same c.way c.device d Kept)
      (rule : Rule) (performs : rule.routine ≡ c.routine) (p : List ℕ) (known : rule_of p ≡ Some rule) (a l : ℕ) where
    -- p says so, in this world
    abbrev Here : World → Type 0
    Here w = Ready w × Says w.state.media w.state.host rule p a l

    -- the parts move what all of their data at once would
    abbrev PartsMove : World → BlockAddress → List Part → Type 0
    PartsMove w from parts =
        carry_all d c.way w rule.length p from parts ≡ carried_as w (all_moved w from.0 (data_in w.state.media.disc parts))

    -- one part and then the others
    part-moves : (w : World) → Here w → (from : BlockAddress) (x : Part) (xs : List Part) → a ≤ from.0 → from.0 + blocks_in (x ∷ xs) ≤ a + l
        → AllThrough w.state.media.disc (x ∷ xs) → Kept x.pieces
        → ((b : Bytes) → Here (settled w b) → PartsMove (settled w b) (blocks_on from x.blocks) xs) → PartsMove w from (x ∷ xs)
    unfolding obeyed_of
    part-moves w (r, says) from x xs low high through kept rest =
        let number = w.state.media.disc in
        let n = x.blocks in
        let q = alike rule.length p from n in
        let q-says = alike_says w.state.media w.state.host rule p (opens_blocks rule performs) a l from n says (omega (arith, through.0)) low (omega arith) in
        let one = all_moved w from.0 (data_of number n x.pieces) in
        let e = carried-through w r rule performs q from.0 n q-says x.pieces through.1 in
        let ready = subst (λ (y : Carried). Ready y.world) e (carry_ready w q x.pieces r) in
        ap
        (λ (y : Carried).
        let m = carry_all d c.way y.world rule.length p (blocks_on from n) xs in
        carried (y.passed && m.passed) (y.bytes ++ m.bytes) m.world)
        (as-ours w q x.pieces kept (ap (λ (y : Carried). y.world.state.transfer) e) ∙ e)
        ∙ ap (λ (m : Carried). carried m.passed (one.out ++ m.bytes) m.world) (rest one (ready, says_settled w one rule p known a l says))
        ∙ rw (more_moved w from.0 n (data_of number n x.pieces) (data_in number xs) (data_long number n x.pieces through.1))

    -- from a settled world on, none or more parts
    parts-move : (w : World) (b : Bytes) → Here (settled w b) → (from : BlockAddress) (parts : List Part) → a ≤ from.0 → from.0 + blocks_in parts ≤ a + l
        → AllThrough w.state.media.disc parts → All Kept parts → PartsMove (settled w b) from parts
    unfolding obeyed_of
    parts-move w b here from [] low high through kept =
        let number = w.state.media.disc in
        rw (c.serves.none number (run_bytes number from.0) [] b.buffer b.disc)
    parts-move w b here from (x ∷ xs) low high through kept =
        part-moves (settled w b) here from x xs low high through kept.0
        (λ b' here'. parts-move w b' here' (blocks_on from x.blocks) xs (omega arith) (omega arith) through.2 kept.1)

  -- ---- whole or cut

  -- where the data of the parts and the data of the whole move alike
  cut_carried : (d : Device) (Kept : List (List ℕ) → Type 0) → Same c.way c.device d Kept → (w : World) (p : List ℕ) (rule : Rule)
      (pieces : List (List ℕ)) (parts : List Part) → Cut c.codes c.device w p rule pieces parts → Kept pieces → All Kept parts
      → let from : List ℕ → Bytes = all_moved w (address_of p).0 in
      from (data_in w.state.media.disc parts) ≡ from (data_of w.state.media.disc (length_of rule.length p) pieces)
      → carry_all d c.way w rule.length p (address_of p) parts ≡ carry d c.way w p pieces
  unfolding obeyed_of
  cut_carried d Kept as-ours w p rule pieces [] cut kept all same = let some = cut.some in let sum = cut.sum in absurd (omega arith)
  cut_carried d Kept as-ours w p rule pieces (x ∷ xs) cut kept every same =
      let performs = c.by_code p rule cut.known cut.code in
      let a = (address_of p).0 in
      let l = length_of rule.length p in
      let passes = rw (c.commands w p cut.ready) at cut.passes in
      let says = passed_says w p rule cut.known (opens_blocks rule performs) passes in
      let sum = cut.sum in
      let whole = carried-through w cut.ready rule performs p a l says pieces cut.through in
      part-moves d Kept as-ours rule performs p cut.known a l w (cut.ready, says) (address_of p) x xs (omega arith) (omega arith) cut.all every.0
      (λ b here.
      parts-move d Kept as-ours rule performs p cut.known a l w b here (blocks_on (address_of p) x.blocks) xs (omega arith) (omega arith) cut.all.2 every.1)
      ∙ ap (carried_as w) same
      ∙ sym (as-ours w p pieces kept (ap (λ (y : Carried). y.world.state.transfer) whole) ∙ whole)

-- what is read depends on how much is lent, not on what
module _ {d : Device} {reads answers : Gives} (f : Pulls d reads answers) (all : GivesAll reads) (commands : OurCommands d) where
  pub reads_cut_by : (e : Device) (Kept : List (List ℕ) → Type 0) → Same Pull d e Kept → (w : World) (p : List ℕ) (rule : Rule)
      (pieces : List (List ℕ)) (parts : List Part) → Cut READ d w p rule pieces parts → Kept pieces → All Kept parts
      → carry_all e Pull w rule.length p (address_of p) parts ≡ carry e Pull w p pieces
  unfolding read_by
  reads_cut_by e Kept same w p rule pieces parts cut kept every =
      let number = w.state.media.disc in
      let l = length_of rule.length p in
      let x = data_in number parts in
      let y = data_of number l pieces in
      let long : length x ≡ length y = all_long number parts cut.all ∙ rw cut.sum (sym (data_long number l pieces cut.through)) in
      cut_carried (read_by f all commands) e Kept same w p rule pieces parts cut kept every (rw (drop-length x, drop-length y, long))

-- pieces of any kind
abbrev Any : List (List ℕ) → Type 0
Any pieces = Unit

any : (parts : List Part) → All Any parts
any [] = tt
any (x ∷ xs) = (tt, any xs)

-- a device whose commands are ours obeys every cutting, wherever it puts what it is fed and whatever it gives
pub cuttings : {d : Device} {puts : Puts} {reads answers : Gives} → Feeds d puts → Pulls d reads answers → GivesAll reads → OurCommands d → Cuttings d
unfolding write_by
cuttings {d} f g all commands =
    record {
      feeds = cut_anywhere (feed_way f);
      pulls = cut_anywhere (pull_way g);
      reads = λ w p rule pieces parts cut. reads_cut_by g all commands d Any (λ w q pieces kept closed. refl) w p rule pieces parts cut tt (any parts);
      -- what is written depends on what is lent, which is the same
      writes = λ w p rule pieces parts cut same.
          cut_carried (write_by f commands) d Any (λ w q pieces kept closed. refl) w p rule pieces parts cut tt (any parts) (rw same);
    }

-- ours gives all that the disc has
pub disc_gives : GivesAll from_disc
disc_gives at n buffer disc h = length-take-le n (drop at disc) (simp length-drop (omega arith))

pub our_cuttings : Cuttings drive
our_cuttings = cuttings our_feeds our_pulls disc_gives (λ w q r. refl)
