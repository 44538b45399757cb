-- The loop over a window reads as the machine does. Assumes nothing.
use Rattle.std.specs.Prelude.{◌≡◌, ◌&&◌, ◌++◌, ◌+◌, ◌-◌, ◌≤◌, Some}
use Rattle.ground.specs.Kit.{refl, ap, ◌∙◌, Bool, true, false, cond, not, List, ℕ, zero, suc, min, arith, eqb, length, take, drop, get_or, length-append, length-take, length-drop, length-take-le, take-append_seam}
use Rattle.window.specs.declared.{Window.Window}
use Rattle.window.specs.Windows.{Held, held, unread, opened_of, used_of, to_front_of}
use Rattle.window.specs.Streams.{Turn, Machine, Closing, brings, saying, reading}
use Rattle.window.specs.Holding.{Open}
use Rattle.window.specs.Loops.{Leaves, refilled, loop_turn, looping, LoopReads, AnyLoop}
use Rattle.window.proofs.Windows.{unread_long}
use Rattle.window.proofs.Holding.{used_unread, within_stays, to_front_unread, came_holds}
use Rattle.window.proofs.Streams.{any_parts}

-- a window of the same unread bytes within a room of that length
pub record Fits (size : ℕ) (bytes : List ℕ) (h : Held) : Type 0 where
  pub same : unread h.window h.room ≡ bytes
  pub ends : Open h.window h.room
  pub long : length h.room ≡ size

-- a read: the bytes come behind the unread ones
module _ (size : ℕ) (bytes : List ℕ) (h : Held) (f : Fits size bytes h) (more : List ℕ) (fits : h.window.upto + length more ≤ size)
    (leaves : List ℕ → List ℕ) (keeps : (l : List ℕ) → length (leaves l) ≡ length l) where
  abbrev upto : ℕ
  upto = h.window.upto

  abbrev past : List ℕ
  past = drop (upto + length more) h.room

  abbrev behind : List ℕ
  behind = more ++ leaves past

  pub read_fits : Fits size (bytes ++ more) (refilled leaves h more)
  read_fits =
      let there = length-take-le upto h.room f.ends.there in
      let last = length-drop (upto + length more) h.room in
      let held = came_holds (unread h.window h.room) 0 h.window h.room behind (Some (length more))
      (record { few = omega arith; bytes = refl; ends = f.ends }) in
      let whole : min (length more) (length behind) ≡ length more = omega (arith, length-append more (leaves past)) in
      record {
        same = held.bytes ∙ rw (whole, take-append_seam more (leaves past), f.same);
        ends = held.ends;
        long = omega (arith, length-append (take upto h.room) behind, length-append more (leaves past), keeps past, there, last, f.long, fits);
      }

-- the unread bytes at the front
front_fits : (size : ℕ) (bytes : List ℕ) (h : Held) → Fits size bytes h
    → let front = to_front_of (used_of h.window 0) h.room in Fits size bytes front × (front.window.upto ≡ length bytes)
front_fits size bytes h f =
    let none = used_of h.window 0 in
    let left = unread none h.room in
    let same : left ≡ bytes = used_unread h.window h.room 0 ∙ f.same in
    let long : length left ≡ length bytes = ap length same in
    let few : length left ≤ length h.room = omega (arith, long, ap length f.same, unread_long h.window h.room f.ends, f.ends.there) in (
      record {
        same = to_front_unread none h.room ∙ same;
        ends = record { order = omega arith; there = omega (arith, length-append left (drop (length left) h.room)) };
        long = omega (arith, length-append left (drop (length left) h.room), length-drop (length left) h.room, few, f.long);
      },
      long,
    )

module _ {S : Type 0} (step : Machine S) (closes : Closing S) (leaves : ℕ → List ℕ → List ℕ) (keeps : Leaves leaves) where
  -- a turn whose ways on say the same
  same_turn : (s : S) (t : Turn S) (ended : Bool) (x y u v : List ℕ) → (t.waits ≡ true → ended ≡ false → x ≡ y) → (t.waits ≡ false → u ≡ v)
      → saying closes s t (t.waits && not ended) x u ≡ saying closes s t (not ended) y v
  same_turn s t ended x y u v = here t.waits ended
    where
      here : (waits ended : Bool) → (waits ≡ true → ended ≡ false → x ≡ y) → (waits ≡ false → u ≡ v)
          → cond waits (cond (waits && not ended) x (closes false s)) (t.says ++ cond t.stops (closes true t.next) u)
          ≡ cond waits (cond (not ended) y (closes false s)) (t.says ++ cond t.stops (closes true t.next) v)
      here true true p q = refl
      here true false p q = p refl refl
      here false _ p q = ap (λ (l : List ℕ). t.says ++ cond t.stops (closes true t.next) l) (q refl)

  -- so many turns
  abbrev Reads : ℕ → Type 0
  Reads n = (s : S) (size : ℕ) (bytes : List ℕ) (h : Held) (coming parts : List ℕ) → Fits size bytes h
      → looping step closes leaves n s h coming parts ≡ reading step closes size n s bytes h.window.ended coming parts

  module _ (n : ℕ) (on : Reads n) (s : S) (size : ℕ) (bytes : List ℕ) (h : Held) (coming parts : List ℕ) (f : Fits size bytes h) where
    -- a read into what is behind the unread bytes, and then the machine's turns
    after_read : (front : Held) → Fits size bytes front × (front.window.upto ≡ length bytes)
        → let more = brings (length front.room - front.window.upto) (get_or parts 0 0) coming in
        let same = brings (size - length bytes) (get_or parts 0 0) coming in
        looping step closes leaves n s (refilled (leaves n) front more) (drop (length more) coming) (drop 1 parts)
        ≡ reading step closes size n s (bytes ++ same) (eqb (length same) 0) (drop (length same) coming) (drop 1 parts)
    after_read front (fit, up) =
        let m = min (suc (get_or parts 0 0)) (size - length bytes) in
        let more = take m coming in
        let later = drop (length more) coming in
        let brought : brings (length front.room - front.window.upto) (get_or parts 0 0) coming ≡ more = rw (fit.long, up) in
        let fits : front.window.upto + length more ≤ size = omega (arith, up, length-take m coming, fit.ends.there, fit.long) in
        rw brought
        (on s size (bytes ++ more) (refilled (leaves n) front more) later (drop 1 parts) (read_fits size bytes front fit more fits (leaves n) (keeps n)))

    after-record : (next : S) (used : ℕ)
        → looping step closes leaves n next (held (used_of h.window used) h.room) coming parts
        ≡ reading step closes size n next (drop used bytes) h.window.ended coming parts
    after-record next used =
        on next size (drop used bytes) (held (used_of h.window used) h.room) coming parts
        (record {
          same = used_unread h.window h.room used ∙ ap (drop used) f.same;
          ends = record { order = omega (arith, f.ends.order); there = f.ends.there };
          long = f.long;
        })

  reads : (n : ℕ) → Reads n
  reads zero s size bytes h coming parts f = refl
  reads (suc n) s size bytes h coming parts f =
      let window = h.window in
      let t = step s bytes window.ended in
      ap
      (λ (v : Window).
      loop_turn closes (looping step closes leaves n) (leaves n) s (step s (unread v h.room) v.ended) v h.room coming parts)
      (within_stays window h.room f.ends)
      ∙ rw f.same
      (same_turn s t window.ended _ _ _ _
      (λ e goes. rw (e, goes) (after_read n (reads n) s size bytes h coming parts f (to_front_of (used_of window 0) h.room) (front_fits size bytes h f)))
      (λ e. rw e (after-record n (reads n) s size bytes h coming parts f t.next t.used)))

pub loop_reads : {S : Type 0} (step : Machine S) (closes : Closing S) → LoopReads step closes
loop_reads step closes leaves keeps n s h coming parts o =
    reads step closes leaves keeps n s (length h.room) _ h coming parts (record { same = refl; ends = o; long = refl })

pub any_loop : {S : Type 0} (step : Machine S) (closes : Closing S) → AnyLoop step closes
any_loop step closes leaves keeps room steady s input parts n few =
    loop_reads step closes leaves keeps n s (held opened_of room) input parts (record { order = omega arith; there = omega arith })
    ∙ any_parts step closes (length room) steady s input parts n few
