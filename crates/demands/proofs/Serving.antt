-- What one feed or pull moves: the first bytes of what is lent, as many as the open transfer has left. Assumes nothing.
use Rattle.std.specs.Prelude.{◌≡◌, ◌∷◌, ◌++◌, ◌+◌, ◌-◌, ◌<◌}
use Rattle.ground.specs.Kit.{refl, sym, ap, ◌∙◌, Bool, true, false, List, [], append_assoc, append-nil, ℕ, min, add-zero, sub-zero, arith, eqb-true, eqb, length, take, drop, take-append-add, drop-append-add, take-length, drop-length, take-add, drop-drop}
use Rattle.state.specs.declared.{Media.Media, State.State, AnswerAt.AnswerAt, DiscAt.DiscAt, ListAt.ListAt, Transfer.Transfer}
use Rattle.disc.specs.Formats.{block_bytes}
use Rattle.state.specs.States.{left_of, closed_at_zero, moved_of}
use Rattle.state.specs.declared.Transfer.TheVariants.{Closed, Answer, Read, Write, ParameterList}
use Rattle.house.specs.World.{World, in_state, in_lent}
use Rattle.house.specs.Theorems.{Ready}
use Rattle.moves.specs.Replies.{idle}
use Rattle.feeds.specs.Feeding.{writing, feed_bytes, write_fed, feed_of}
use Rattle.feeds.proofs.Feeding.{at_byte, feed_append, feed_at}
use Rattle.feeds.proofs.ByTransfer.{feeds, feeds_write}
use Rattle.pulls.specs.Pulling.{answer_pulled, read_pulled, pull_of}
use Rattle.pulls.proofs.ByTransfer.{pulls, pulls_answer, pulls_read}
use Rattle.drive.specs.Calls.{Call, Feed, Pull, call_of}
use Rattle.drive.proofs.Staying.{stays}
use Rattle.demands.specs.Device.{Device, drive}
use Rattle.demands.specs.Uncut.{Lent, lent}

-- one call
abbrev pub lend_one : Device → (List ℕ → Call) → World → List ℕ → Lent
lend_one d way w x =
    let a = d.call w (way x) in
    lent a.heard.count a.heard.out a.world

-- one lending after the other
abbrev pub join : Lent → Lent → Lent
join one two = lent (one.count + two.count) (one.out ++ two.out) two.world

-- the piece or the caller's buffer, the block buffer and the disc, after bytes have moved
pub record Bytes : Type 0 where
  pub out : List ℕ
  pub buffer : List ℕ
  pub disc : List ℕ

abbrev pub bytes : List ℕ → List ℕ → List ℕ → Bytes
bytes out buffer disc = record { out = out; buffer = buffer; disc = disc }

-- the block buffer and the disc alone
pub record Written : Type 0 where
  pub buffer : List ℕ
  pub disc : List ℕ

abbrev pub written : List ℕ → List ℕ → Written
written buffer disc = record { buffer = buffer; disc = disc }

-- a kind of transfer, with `left` bytes left from place `at` on; what becomes of a piece, the block buffer and disc `number`, when from
-- place `at` on the piece's first n bytes move; and the state after, by the block buffer then
pub record Kind : Type 0 where
  pub transfer : ℕ → ℕ → Transfer
  pub does : ℕ → ℕ → ℕ → List ℕ → List ℕ → List ℕ → Bytes
  pub next : State → List ℕ → ℕ → ℕ → State

-- what it makes of a piece
abbrev pub moving : Kind → World → ℕ → ℕ → List ℕ → Lent
moving k w at left x =
    let n = min (length x) left in
    let b = k.does w.state.media.disc at n x w.buffer w.disc in
    lent n b.out (in_lent (in_state w (k.next w.state b.buffer (at + n) (left - n))) b.buffer b.disc)

-- the next state has the transfer on its way, the disc still in, and is made of the state before alone
pub record GoesOn (transfer : ℕ → ℕ → Transfer) (next : State → List ℕ → ℕ → ℕ → State) : Type 0 where
  pub stands : (s : State) (b : List ℕ) (at left : ℕ) → (next s b at left).transfer ≡ closed_at_zero (transfer at left)
  pub media : (s : State) (b : List ℕ) (at left : ℕ) → (next s b at left).media ≡ s.media
  pub again : (s : State) (b c : List ℕ) (at left more rest : ℕ) → next (next s b at left) c more rest ≡ next s c more rest
  pub same : (s : State) (b : List ℕ) (at left : ℕ) → s.transfer ≡ closed_at_zero (transfer at left) → next s b at left ≡ s

-- nothing but the transfer changes
abbrev pub only_moves : (ℕ → ℕ → Transfer) → State → List ℕ → ℕ → ℕ → State
only_moves transfer s b at left = moved_of s (transfer at left)

only_moves_lem : (transfer : ℕ → ℕ → Transfer) → GoesOn transfer (only_moves transfer)
unfolding moved_of
only_moves_lem transfer =
    record {
      stands = λ s b at left. refl;
      media = λ s b at left. refl;
      again = λ s b c at left more rest. refl;
      same = λ s b at left e. rw (← e);
    }

-- a device serves it by a way of lending: bytes that move in two parts move as they do at once, and a call moves them
pub record Serves (d : Device) (way : List ℕ → Call) (k : Kind) : Type 0 where
  pub left : (at left : ℕ) → left_of (k.transfer at left) ≡ left
  pub goes : GoesOn k.transfer k.next
  pub none : (number at : ℕ) (x buffer disc : List ℕ) → k.does number at 0 x buffer disc ≡ bytes x buffer disc
  pub more :
      (number at m : ℕ) (x y buffer disc : List ℕ)
      → let one = k.does number at (length x) x buffer disc in
      let two = k.does number (at + length x) m y one.buffer one.disc in
      k.does number at (length x + m) (x ++ y) buffer disc ≡ bytes (one.out ++ two.out) two.buffer two.disc
  pub closed : (w : World) (x : List ℕ) → Ready w → w.state.transfer ≡ Closed → lend_one d way w x ≡ lent 0 x w
  pub opened : (w : World) (at left : ℕ) (x : List ℕ) → Ready w → w.state.transfer ≡ k.transfer at left → lend_one d way w x ≡ moving k w at left x

module _ {d : Device} {way : List ℕ → Call} {k : Kind} (s : Serves d way k) (w : World) (at left : ℕ) where
  -- the first byte and then the others
  pub first_moves : (x : ℕ) (xs : List ℕ) → 0 < left
      → let one = moving k w at left (x ∷ []) in
      moving k w at left (x ∷ xs) ≡ join one (moving k one.world (at + 1) (left - 1) xs)
  first_moves x xs h =
      let n : ℕ = min (length xs) (left - 1) in
      let e₁ : min (length (x ∷ xs)) left ≡ 1 + n = omega arith in
      let e₂ : min 1 left ≡ 1 = omega arith in
      let e₃ : at + (1 + n) ≡ at + 1 + n = omega arith in
      let e₄ : left - (1 + n) ≡ left - 1 - n = omega arith in
      let number = w.state.media.disc in
      let one = k.does number at 1 (x ∷ []) w.buffer w.disc in
      let then = k.next w.state one.buffer (at + 1) (left - 1) in
      let both : ℕ → Lent = λ m.
      let two = k.does m (at + 1) n xs one.buffer one.disc in
      lent (1 + n) (one.out ++ two.out)
      (in_lent (in_state w (k.next then two.buffer (at + 1 + n) (left - 1 - n))) two.buffer two.disc) in
      let first : moving k w at left (x ∷ xs) ≡ both number =
      rw (e₁, e₃, e₄, s.more number at n (x ∷ []) xs w.buffer w.disc, s.goes.again w.state one.buffer _ (at + 1) (left - 1) (at + 1 + n) (left - 1 - n)) in
      rw e₂ (first ∙ ap both (sym (ap (λ (m : Media). m.disc) (s.goes.media w.state one.buffer (at + 1) (left - 1)))))

  module _ (stands : w.state.transfer ≡ closed_at_zero (k.transfer at left)) where
    -- where no byte is to move nothing changes
    pub unmoved : (x : List ℕ) → min (length x) left ≡ 0 → moving k w at left x ≡ lent 0 x w
    unmoved x z =
        rw (z, s.none w.state.media.disc at x w.buffer w.disc, add-zero at, sub-zero left, s.goes.same w.state w.buffer at left stands)

    -- a call moves the bytes, also where none is left and the transfer has closed
    pub lends : (x : List ℕ) → Ready w → lend_one d way w x ≡ moving k w at left x
    lends x r = here (eqb left 0) refl
      where
        here : (b : Bool) → eqb left 0 ≡ b → lend_one d way w x ≡ moving k w at left x
        here true q =
            let z = eqb-true left 0 q in
            s.closed w x r (stands ∙ rw (s.left at left, q)) ∙ sym (unmoved x (omega arith))
        here false q = s.opened w at left x r (stands ∙ rw (s.left at left, q))

-- ---- a feed of an open write

-- the piece stays; where its bytes go, from a place on, is the device's
abbrev pub Puts : Type 0
Puts = ℕ → ℕ → List ℕ → List ℕ → List ℕ → Written

abbrev putting : (ℕ → ℕ → Transfer) → Puts → Kind
putting transfer puts =
    record {
      transfer = transfer;
      next = only_moves transfer;
      does = λ number at n x buffer disc.
          let v = puts number at (take n x) buffer disc in
          bytes x v.buffer v.disc;
    }

abbrev pub feeding : Puts → Kind
feeding = putting (λ at left. Write (record { at = at_byte at; left = left }))

-- bytes put in two parts are put as they are at once
pub record Put (puts : Puts) : Type 0 where
  pub none : (number at : ℕ) (buffer disc : List ℕ) → puts number at [] buffer disc ≡ written buffer disc
  pub more :
      (number at : ℕ) (x y buffer disc : List ℕ)
      → let one = puts number at x buffer disc in
      puts number at (x ++ y) buffer disc ≡ puts number (at + length x) y one.buffer one.disc

-- a device that puts them so: without an open write or list nothing moves, and a list is fed as ours
pub record Feeds (d : Device) (puts : Puts) : Type 0 where
  pub put : Put puts
  pub ready : (w : World) (x : List ℕ) → Ready w → Ready (d.call w (Feed x)).world
  pub unfed : (w : World) (x : List ℕ) → Ready w → feed_of w x ≡ idle w x → lend_one d Feed w x ≡ lent 0 x w
  pub fed :
      (w : World) (p : DiscAt) (x : List ℕ) → Ready w → feed_of w x ≡ write_fed p w x → w.state.transfer ≡ Write p
      → lend_one d Feed w x ≡ moving (feeding puts) w p.at.0 p.left x
  pub lists : (w : World) (p : ListAt) (x : List ℕ) → Ready w → w.state.transfer ≡ ParameterList p → d.call w (Feed x) ≡ call_of w (Feed x)

-- serves it
module _ {d : Device} {puts : Puts} (f : Feeds d puts) where
  put_served : (transfer : ℕ → ℕ → Transfer) (puts : Puts) → Put puts → ((at left : ℕ) → left_of (transfer at left) ≡ left)
      → ((w : World) (at left : ℕ) (x : List ℕ) → Ready w → w.state.transfer ≡ transfer at left
      → lend_one d Feed w x ≡ moving (putting transfer puts) w at left x)
      → Serves d Feed (putting transfer puts)
  put_served transfer puts g left opened =
      record {
        left = left;
        goes = only_moves_lem transfer;
        none = λ number at x buffer disc. rw (g.none number at buffer disc);
        more = λ number at m x y buffer disc. rw (take-append-add x y m, take-length x, g.more number at x (take m y) buffer disc);
        closed = λ w x r e. f.unfed w x r (feeds w x r ∙ rw e);
        opened = opened;
      }

  pub feed_served : Serves d Feed (feeding puts)
  feed_served = put_served (feeding puts).transfer puts f.put (λ at left. refl) (λ w at left x r e. f.fed w _ x r (sym (feeds_write w x r _ e)) e)

-- ours: to the block buffer and on to the disc
abbrev pub our_puts : Puts
our_puts number at x buffer disc =
    let v = feed_bytes (block_bytes number) (writing (at_byte at) buffer disc) x in
    written v.buffer v.disc

our_put : Put our_puts
our_put =
    record {
      none = λ number at buffer disc. refl;
      more = λ number at x y buffer disc.
          let b = block_bytes number in
          let v = writing (at_byte at) buffer disc in
          rw (feed_append b v x y, ← feed_at b v x);
    }

pub our_feeds : Feeds drive our_puts
unfolding call_of
our_feeds =
    record {
      put = our_put;
      ready = λ w x. stays w (Feed x);
      unfed = λ w x r e. rw e;
      fed = λ w p x r e f. rw e;
      lists = λ w p x r e. refl;
    }

-- ---- a pull of an open read or answer

-- the bytes that a device gives from a place on go to the start of the caller's buffer
abbrev pub Gives : Type 0
Gives = ℕ → ℕ → List ℕ → List ℕ → List ℕ

abbrev pulling : (ℕ → ℕ → Transfer) → Gives → Kind
pulling transfer gives =
    record { transfer = transfer; next = only_moves transfer; does = λ number at n x buffer disc. bytes (gives at n buffer disc ++ drop n x) buffer disc }

abbrev pub reading : Gives → Kind
reading = pulling (λ at left. Read (record { at = at_byte at; left = left }))

abbrev pub answering : Gives → Kind
answering = pulling (λ at left. Answer (record { at = at; left = left }))

-- bytes given in two parts are given as they are at once
pub record Given (gives : Gives) : Type 0 where
  pub none : (at : ℕ) (buffer disc : List ℕ) → gives at 0 buffer disc ≡ []
  pub more : (at m n : ℕ) (buffer disc : List ℕ) → gives at (m + n) buffer disc ≡ gives at m buffer disc ++ gives (at + m) n buffer disc

-- a device that gives them so: without an open read or answer nothing moves
pub record Pulls (d : Device) (reads answers : Gives) : Type 0 where
  pub read_given : Given reads
  pub answer_given : Given answers
  pub ready : (w : World) (x : List ℕ) → Ready w → Ready (d.call w (Pull x)).world
  pub unpulled : (w : World) (x : List ℕ) → Ready w → pull_of w x ≡ idle w x → lend_one d Pull w x ≡ lent 0 x w
  pub from_read :
      (w : World) (p : DiscAt) (x : List ℕ) → Ready w → pull_of w x ≡ read_pulled p w x
      → lend_one d Pull w x ≡ moving (reading reads) w p.at.0 p.left x
  pub from_answer :
      (w : World) (p : AnswerAt) (x : List ℕ) → Ready w → pull_of w x ≡ answer_pulled p w x
      → lend_one d Pull w x ≡ moving (answering answers) w p.at p.left x

-- a buffer filled whole, and then m bytes of another
fills_more : {gives : Gives} → Given gives → (at m : ℕ) (x y buffer disc : List ℕ)
    → gives at (length x + m) buffer disc ++ drop (length x + m) (x ++ y)
    ≡ gives at (length x) buffer disc ++ drop (length x) x ++ (gives (at + length x) m buffer disc ++ drop m y)
fills_more {gives} g at m x y buffer disc =
    let one = gives at (length x) buffer disc in
    let two = gives (at + length x) m buffer disc in
    rw (g.more at (length x) m buffer disc, drop-append-add x y m, drop-length x, append-nil one, append_assoc one two (drop m y))

-- serves both
module _ {d : Device} {reads answers : Gives} (p : Pulls d reads answers) where
  pull_served : (transfer : ℕ → ℕ → Transfer) (gives : Gives) → Given gives → ((at left : ℕ) → left_of (transfer at left) ≡ left)
      → ((w : World) (at left : ℕ) (x : List ℕ) → Ready w → w.state.transfer ≡ transfer at left
      → lend_one d Pull w x ≡ moving (pulling transfer gives) w at left x)
      → Serves d Pull (pulling transfer gives)
  pull_served transfer gives g left opened =
      record {
        left = left;
        goes = only_moves_lem transfer;
        none = λ number at x buffer disc. rw (g.none at buffer disc);
        more = λ number at m x y buffer disc. rw (fills_more g at m x y buffer disc);
        closed = λ w x r e. p.unpulled w x r (pulls w x r ∙ rw e);
        opened = opened;
      }

  pub read_served : Serves d Pull (reading reads)
  read_served = pull_served (reading reads).transfer reads p.read_given (λ at left. refl) (λ w at left x r e. p.from_read w _ x r (sym (pulls_read w x r _ e)))

  pub answer_served : Serves d Pull (answering answers)
  answer_served = pull_served (answering answers).transfer answers p.answer_given (λ at left. refl) (λ w at left x r e. p.from_answer w _ x r (sym (pulls_answer w x r _ e)))

-- ours: from the disc and from the block buffer
abbrev pub from_disc : Gives
from_disc at n buffer disc = take n (drop at disc)

abbrev pub from_buffer : Gives
from_buffer at n buffer disc = take n (drop at buffer)

taken_more : (source : List ℕ) (at m n : ℕ) → take (m + n) (drop at source) ≡ take m (drop at source) ++ take n (drop (at + m) source)
taken_more source at m n = rw (take-add m n (drop at source), drop-drop m at source)

pub our_pulls : Pulls drive from_disc from_buffer
unfolding call_of
our_pulls =
    record {
      read_given = record { none = λ at buffer disc. refl; more = λ at m n buffer disc. taken_more disc at m n };
      answer_given = record { none = λ at buffer disc. refl; more = λ at m n buffer disc. taken_more buffer at m n };
      ready = λ w x. stays w (Pull x);
      unpulled = λ w x r e. rw e;
      from_read = λ w p x r e. rw e;
      from_answer = λ w p x r e. rw e;
    }
