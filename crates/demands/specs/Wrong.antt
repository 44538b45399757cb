-- Devices that break a demand, each ours but for one thing; proofs/Wrong refutes them.
use Rattle.std.specs.Prelude.{◌≡◌, ◌&&◌, ◌∷◌, ◌++◌, ◌+◌, ◌-◌}
use Rattle.ground.specs.Kit.{Bool, true, false, cond, not, List, [], ℕ, min, eqb, length, take, drop, replicate, set, sets}
use Rattle.state.specs.declared.{Sense.Sense, DiscAt.DiscAt, ListAt.ListAt, Transfer.Transfer}
use Rattle.packet.specs.declared.{Rule.Rule}
use Rattle.ground.specs.Bytes.{byte_at}
use Rattle.disc.specs.Formats.{format_of, block_bytes, run_bytes, place_of}
use Rattle.state.specs.Senses.{no_sense, unknown_code, other_unit, same_b}
use Rattle.state.specs.declared.Transfer.TheVariants.{Closed, Answer as AnswerFrom, Read, Write, ParameterList}
use Rattle.state.specs.States.{host_of, state_of, power_on, obeyed_of}
use Rattle.packet.specs.Fields.{address_of}
use Rattle.packet.specs.Rules.{code_of}
use Rattle.checks.specs.Verdicts.{other_unit_b}
use Rattle.house.specs.World.{World, in_state, in_buffer, in_disc, Reply, reply}
use Rattle.lists.specs.Lists.{immediate_b, bad_list_b, meant_of, list_judged}
use Rattle.feeds.specs.Feeding.{list_ends}
use Rattle.drive.specs.Calls.{Call, Insert, Eject, Command, Feed, Pull, call_of}
use Rattle.demands.specs.Device.{Device}
use Rattle.demands.specs.Faithful.{Judges, Accounts, Announces}
use Rattle.demands.specs.Uncut.{CutAnywhere, Cuttings, READ, Part, Cut, carry, carry_all}

-- what is made of our answer to an insertion, and to a command, a feed and a pull with the packet, piece or buffer
abbrev Events : Type 0
Events = World → Reply → Reply

abbrev Calls : Type 0
Calls = World → List ℕ → Reply → Reply

abbrev pub altered : Events → Calls → Calls → Calls → World → Call → Reply
altered inserts commands feeds pulls w (Insert number prot disc) = inserts w (call_of w (Insert number prot disc))
altered inserts commands feeds pulls w Eject = call_of w Eject
altered inserts commands feeds pulls w (Command p) = commands w p (call_of w (Command p))
altered inserts commands feeds pulls w (Feed piece) = feeds w piece (call_of w (Feed piece))
altered inserts commands feeds pulls w (Pull out) = pulls w out (call_of w (Pull out))

abbrev same_events : Events
same_events w a = a

abbrev same : Calls
same w bytes a = a

abbrev inserting : Events → Device
inserting f = record { start = power_on; call = altered f same same same }

abbrev pub commanding : Calls → Device
commanding f = record { start = power_on; call = altered same_events f same same }

abbrev pub feeding : Calls → Device
feeding f = record { start = power_on; call = altered same_events same f same }

abbrev pulling : Calls → Device
pulling f = record { start = power_on; call = altered same_events same same f }

-- a refusal stays as it is; an accepted call leaves another world
abbrev pub if_accepted : Reply → Reply → Reply
if_accepted a b = cond (eqb a.heard.house 0) b a

abbrev pub leaving : Reply → World → Reply
leaving a w = if_accepted a (reply 0 a.heard.passed a.heard.count a.heard.out w)

-- ---- "A device that fails everything, one that passes everything, one that hands out zeros always, and one that discards feeds"

-- a command that is said to pass or to fail, with a triple, and opens nothing
abbrev pub saying : Bool → Sense → World → Reply
saying passed sense w = reply 0 passed 0 [] (in_state w (obeyed_of w.state sense w.state.motor Closed))

-- whatever triples it gives, the right ones too
abbrev pub fails_everything : (World → List ℕ → Sense) → Device
fails_everything says = commanding (λ w p a. if_accepted a (saying false (says w p) w))

abbrev pub passes_everything : Device
passes_everything = commanding (λ w p a. cond a.heard.passed a (if_accepted a (saying true no_sense w)))

abbrev pub hands_out_zeros : Device
hands_out_zeros =
    pulling (λ w out a.
    let n = a.heard.count in
    reply a.heard.house false n (replicate n 0 ++ drop n out) a.world)

-- by an open read, write and list, and without any of them
abbrev pub by_open : {A : Type 0} → (DiscAt → A) → (DiscAt → A) → (ListAt → A) → A → Transfer → A
by_open reads writes lists other Closed = other
by_open reads writes lists other (AnswerFrom p) = other
by_open reads writes lists other (Read p) = reads p
by_open reads writes lists other (Write p) = writes p
by_open reads writes lists other (ParameterList p) = lists p

-- what is made of our answer to a feed of an open write; a list is fed as ours
abbrev pub feeding_writes : (DiscAt → Calls) → Device
feeding_writes f = feeding (λ w piece a. by_open (λ p. a) (λ p. f p w piece a) (λ p. a) a w.state.transfer)

-- of a write it counts and goes on as ours, and stores nothing
abbrev pub discards_feeds : Device
discards_feeds = feeding_writes (λ p w piece a. leaving a (in_state w a.world.state))

-- ---- "One that serves only the first block or first pull of a transfer"

abbrev at_most : ℕ → DiscAt → DiscAt
at_most n p = record { at = p.at; left = min n p.left }

abbrev shortened : ℕ → Transfer → Transfer
shortened n t = by_open (λ p. Read (at_most n p)) (λ p. Write (at_most n p)) ParameterList t t

abbrev with : World → Transfer → World
with w t = in_state w (state_of w.state.media w.state.motor w.state.host t)

abbrev pub first_block_only : Device
first_block_only =
    commanding (λ w p a. leaving a (with a.world (shortened (block_bytes w.state.media.disc) a.world.state.transfer)))

-- what is pulled from once is closed
abbrev pub pulled_once : Transfer → Transfer
pulled_once t = by_open (λ p. Closed) Write ParameterList Closed t

abbrev pub first_pull_only : Device
first_pull_only = pulling (λ w out a. leaving a (with a.world (pulled_once a.world.state.transfer)))

-- ---- "A made-up count": the length of what was lent

abbrev counted : Calls
counted w bytes a = if_accepted a (reply 0 false (length bytes) a.heard.out a.world)

abbrev pub makes_up_counts : Device
makes_up_counts = record { start = power_on; call = altered same_events same counted counted }

-- ---- "that one flag is cleared": the attentions stay pending for ever

abbrev with_flags : Bool → Bool → World → World
with_flags power change w =
    let s = w.state in
    in_state w (state_of s.media s.motor (host_of power change s.host.sense) s.transfer)

abbrev pub never_ready : Device
never_ready = commanding (λ w p a. leaving a (with_flags w.state.host.power w.state.host.change a.world))

-- ---- "Letting INQUIRY or an unknown code clear a flag": version two, below, and a command of an unknown code that uses the announcement up

abbrev with_change : Bool → World → World
with_change change w = with_flags w.state.host.power change w

abbrev pub unknown_code_clears : Device
unknown_code_clears = commanding (λ w p a. cond (same_b a.heard.sense unknown_code) (leaving a (with_change false a.world)) a)

-- ---- "changes nothing": a refusal closes what is open

abbrev pub closes_at_refusal : Device
closes_at_refusal =
    record {
      start = power_on;
      call = λ w c.
          let a = call_of w c in
          cond (eqb a.heard.house 0) a (reply a.heard.house false 0 a.heard.out (with w Closed));
    }

-- ---- "From a sound state with the right buffers": no answer of ours is longer than 40 bytes, but an open one may end anywhere in the block
-- ---- buffer; from byte 40 on this device reads zeros there

abbrev zeros_from40 : List ℕ → List ℕ
zeros_from40 buffer = take 40 buffer ++ replicate (length buffer - 40) 0

abbrev pub blank_from40 : Device
blank_from40 = pulling (λ w out a. record { heard = (call_of (in_buffer w (zeros_from40 w.buffer)) (Pull out)).heard; world = a.world })

-- ---- Req 02: INQUIRY to another unit still fails at B; or it passes, and answers as to unit 0

abbrev pub fails_another_unit : Device
fails_another_unit = commanding (λ w p a. cond (eqb (code_of p) 0x12 && other_unit_b p) (if_accepted a (saying false other_unit w)) a)

abbrev pub answers_for_all : Device
answers_for_all = commanding (λ w p a. cond (a.heard.passed && eqb (code_of p) 0x12) (call_of w (Command (set p 1 0))) a)

-- ---- Req 03: FORMAT UNIT formats when it passes

abbrev pub formats_at_once : Device
formats_at_once =
    commanding (λ w p a. cond (a.heard.passed && eqb (code_of p) 0x04) (leaving a (in_disc a.world (replicate (length w.disc) 0xf6))) a)

-- what is made of our answer to a feed of an open list, by the world after it
abbrev pub feeding_lists : (ListAt → World → Reply → Reply) → Device
feeding_lists f = feeding (λ w piece a. by_open (λ p. a) (λ p. a) (λ p. f p w a) a w.state.transfer)

-- a whole list, that is good
abbrev good_b : ListAt → Reply → Bool
good_b p a = eqb a.heard.count p.left && not (bad_list_b (format_of a.world.state.media.disc) a.world.buffer)

-- it fills with zeros
abbrev zeroed : ListAt → World → World → List ℕ
zeroed p w after =
    let number = w.state.media.disc in
    let meant = meant_of (format_of number) p.track after.buffer in
    sets w.disc (place_of number meant.first).0 (replicate (run_bytes number meant.count) 0)

abbrev pub fills_zeros : Device
fills_zeros = feeding_lists (λ p w a. cond (good_b p a) (leaving a (in_disc a.world (zeroed p w a.world))) a)

-- it formats the whole disc for a single track
abbrev pub formats_all : Device
formats_all = feeding_lists (λ p w a. cond (good_b p a) (leaving a (in_disc a.world (replicate (length w.disc) 0xf6))) a)

-- it judges a list as if Immediate were not set
abbrev pub formats_immediate : Device
formats_immediate =
    feeding_lists (λ p w a.
    let list = a.world.buffer in
    cond (eqb a.heard.count p.left && immediate_b list)
    (leaving a (list_ends (in_buffer w list) (list_judged w.state.media.disc p.track (set list 1 (byte_at list 1 - 2)) w.disc)))
    a)

-- it judges at the eleventh byte: with one byte left the disc is formatted, if what the block buffer holds then is good
abbrev pub judges_early : Device
judges_early =
    feeding_lists (λ p w a.
    cond (eqb (a.heard.count + 1) p.left)
    (leaving a (in_disc a.world (list_judged w.state.media.disc p.track a.world.buffer w.disc).disc))
    a)

-- ---- the first three versions of the box

-- version one swaps silently: the change flag stays as it was
abbrev pub version_one : Device
version_one = inserting (λ w a. leaving a (with_change w.state.host.change a.world))

-- version two: an INQUIRY that passes uses the announcement up
abbrev pub version_two : Device
version_two = commanding (λ w p a. cond (a.heard.passed && eqb (code_of p) 0x12) (leaving a (with_change false a.world)) a)

-- version three stores byte by byte
abbrev pub stores_bytes : DiscAt → Calls
stores_bytes p w piece a = leaving a (in_disc (in_state w a.world.state) (sets w.disc p.at.0 (take a.heard.count piece)))

abbrev pub version_three : Device
version_three = feeding_writes stores_bytes

-- ---- each breaks demand 2, and demand 3 with it, by the sentence that is named here

pub record Excluded : Type 0 where
  pub fails_everything_lem : (says : World → List ℕ → Sense) → Judges (fails_everything says) → ⊥
  pub passes_everything_lem : Judges passes_everything → ⊥
  pub hands_out_zeros_lem : Accounts hands_out_zeros → ⊥
  pub discards_feeds_lem : Accounts discards_feeds → ⊥
  pub first_block_only_lem : Accounts first_block_only → ⊥
  pub first_pull_only_lem : Accounts first_pull_only → ⊥
  pub makes_up_counts_lem : Accounts makes_up_counts → ⊥
  pub never_ready_lem : Accounts never_ready → ⊥
  pub closes_at_refusal_lem : Accounts closes_at_refusal → ⊥
  pub blank_from_40 : Accounts blank_from40 → ⊥
  pub fails_another_unit_lem : Judges fails_another_unit → ⊥
  pub answers_for_all_lem : Accounts answers_for_all → ⊥
  pub formats_at_once_lem : Accounts formats_at_once → ⊥
  pub fills_zeros_lem : Accounts fills_zeros → ⊥
  pub formats_all_lem : Accounts formats_all → ⊥
  pub formats_immediate_lem : Accounts formats_immediate → ⊥
  pub judges_early_lem : Accounts judges_early → ⊥
  pub unknown_code_clears_lem : Announces unknown_code_clears → ⊥
  pub version_one_lem : Announces version_one → ⊥
  pub version_two_lem : Announces version_two → ⊥
  pub version_three_lem : Accounts version_three → ⊥

-- ---- some "obey some cuttings"

abbrev pub OnePullEach : List Part → Type 0
OnePullEach [] = Unit
OnePullEach (x ∷ xs) = (length x.pieces ≡ 1) × OnePullEach xs

pub record Obeyed : Type 0 where
  -- every cutting, so that the cuttings alone would let these in
  pub hands_out_zeros_lem : Cuttings hands_out_zeros
  pub discards_feeds_lem : Cuttings discards_feeds
  pub version_one_lem : Cuttings version_one
  pub version_three_lem : Cuttings version_three
  -- data cut anywhere
  pub first_block_feeds : CutAnywhere first_block_only Feed
  pub first_block_pulls : CutAnywhere first_block_only Pull
  -- a READ cut into READs, each carried through by one pull
  pub first_pull_reads : (w : World) (p : List ℕ) (rule : Rule) (out : List ℕ) (parts : List Part)
      → Cut READ first_pull_only w p rule (out ∷ []) parts → OnePullEach parts
      → carry_all first_pull_only Pull w rule.length p (address_of p) parts ≡ carry first_pull_only Pull w p (out ∷ [])
