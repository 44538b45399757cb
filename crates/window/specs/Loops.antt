-- The loop of a program over a window: a turn of any machine on what is unread, and a read where one is due.
use Rattle.std.specs.Prelude.{◌≡◌, ◌++◌, ◌+◌, ◌-◌, ◌≤◌, Some}
use Rattle.ground.specs.Kit.{cond, List, [], ℕ, zero, suc, length, take, drop, get_or}
use Rattle.window.specs.declared.{Window.Window}
use Rattle.window.specs.Windows.{Held, held, unread, opened_of, used_of, within_of, due_of, settled_of, came_of}
use Rattle.window.specs.Streams.{Turn, Machine, Closing, brings, Steady, saying, says_of, reading}
use Rattle.window.specs.Holding.{Open}

-- what a read leaves behind the bytes that it brought, of the bytes that were there: anything of that length
abbrev pub Leaves : (ℕ → List ℕ → List ℕ) → Type 0
Leaves leaves = (n : ℕ) (there : List ℕ) → length (leaves n there) ≡ length there

-- a read into the room from `upto` on
abbrev pub refilled : (List ℕ → List ℕ) → Held → List ℕ → Held
refilled leaves h more =
    let upto = h.window.upto in
    let room = take upto h.room ++ (more ++ leaves (drop (upto + length more) h.room)) in
    held (came_of h.window (Some (length more)) room) room

-- one turn, with what is said from then on: the bytes of a record are used, and where a read is due it comes behind those that are not
abbrev pub loop_turn : {S : Type 0} → Closing S → (S → Held → List ℕ → List ℕ → List ℕ) → (List ℕ → List ℕ) → S → Turn S → Window → List ℕ → List ℕ
    → List ℕ → List ℕ
loop_turn closes on leaves s t window room coming parts =
    let due = due_of window t.waits in
    let after = settled_of (used_of window (cond t.waits 0 t.used)) due room in
    let more = brings (length after.room - after.window.upto) (get_or parts 0 0) coming in
    saying closes s t due
    (on s (refilled leaves after more) (drop (length more) coming) (drop 1 parts))
    (on t.next after coming parts)

module _ {S : Type 0} (step : Machine S) (closes : Closing S) where
  -- so many turns, with the bytes that are still to come and the parts in which they do
  abbrev pub looping : (ℕ → List ℕ → List ℕ) → ℕ → S → Held → List ℕ → List ℕ → List ℕ
  looping leaves zero s h coming parts = []
  looping leaves (suc n) s h coming parts =
      let window = within_of h.window h.room in
      loop_turn closes (looping leaves n) (leaves n) s (step s (unread window h.room) window.ended) window h.room coming parts

  -- the room and the window are not seen: the loop reads as the machine does
  abbrev pub LoopReads : Type 0
  LoopReads = (leaves : ℕ → List ℕ → List ℕ) → Leaves leaves → (n : ℕ) (s : S) (h : Held) (coming parts : List ℕ) → Open h.window h.room
      → looping leaves n s h coming parts
      ≡ reading step closes (length h.room) n s (unread h.window h.room) h.window.ended coming parts

  -- in whatever parts the input comes, the loop says all that is to be said of it, and comes to its end
  abbrev pub AnyLoop : Type 0
  AnyLoop = (leaves : ℕ → List ℕ → List ℕ) → Leaves leaves → (room : List ℕ) → Steady step (length room) → (s : S) (input parts : List ℕ) (n : ℕ)
      → length input + length input + 2 ≤ n → looping leaves n s (held opened_of room) input parts ≡ says_of step closes s input
