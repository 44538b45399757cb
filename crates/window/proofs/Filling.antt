-- A room that is filled comes nearer to its end with each read, and in the end has the bytes that come. Assumes nothing.
use Rattle.std.specs.Prelude.{◌≡◌, ◌||◌, ◌++◌, ◌+◌, ◌-◌, ◌<◌, ◌≤◌, Option, Some, None}
use Rattle.ground.specs.Kit.{refl, sym, ap, ◌∙◌, Bool, true, false, cond, false≢true, List, [], append_assoc, ℕ, zero, suc, min, sub-zero, arith, eqb-true, eqb-false, eqb, leb-true, leb-false, leb, length, take, drop, get_or, length-append, length-take, length-drop, take-append-drop, take-append_seam}
use Rattle.std.proofs.lemmas.List.{take_min}
use Rattle.window.specs.declared.{Window.Window}
use Rattle.window.specs.Windows.{Held, held, opened_of, brought_of, last_b}
use Rattle.window.specs.Streams.{brings}
use Rattle.window.specs.Loops.{Leaves, refilled}
use Rattle.window.specs.Filling.{missing, filling, AnyFilling}
use Rattle.window.proofs.Windows.{unread_long}
use Rattle.window.proofs.Holding.{opened_holds}
use Rattle.window.proofs.Loops.{Fits, read_fits}

-- a read into a room of that size brings a byte at the least, or is the last
pub nearer : (window : Window) (read : Option ℕ) (size : ℕ) → window.ended ≡ false → window.upto < size
    → size - (window.upto + brought_of read (size - window.upto)) + cond (last_b read) 0 1 < missing window size
nearer window None size goes some = rw goes (omega (arith, some))
nearer window (Some k) size goes some = rw goes (here (eqb k 0) refl)
  where
    here : (b : Bool) → eqb k 0 ≡ b → size - (window.upto + min k (size - window.upto)) + cond b 0 1 < size - window.upto + 1
    here true e = omega (arith, some)
    here false e = omega (arith, some, eqb-false k 0 e)

-- a window from the front of a room of that size on the bytes so far, with those that are still to come: none once it has ended
record Front (size : ℕ) (bytes coming : List ℕ) (h : Held) : Type 0 where
  fits : Fits size bytes h
  front : h.window.from ≡ 0
  over : h.window.ended ≡ true → length coming ≡ 0

-- a room of that size has the bytes, as far as there is room for them
abbrev Full : ℕ → List ℕ → Held → Type 0
Full size bytes h = let upto = h.window.upto in (upto ≡ min size (length bytes)) × (length h.room ≡ size) × (take upto h.room ≡ take size bytes)

-- there is no room for more, or no more come
full : {size : ℕ} {bytes coming : List ℕ} {h : Held} → Front size bytes coming h → min size (h.window.upto + length coming) ≡ h.window.upto
    → Full size (bytes ++ coming) h
full {size} {bytes} {coming} {h} f e =
    let upto : h.window.upto ≡ length bytes = omega (arith, ap length f.fits.same, unread_long h.window h.room f.fits.ends) in
    let all : min size (length (bytes ++ coming)) ≡ length bytes = omega (arith, length-append bytes coming) in (
      upto ∙ sym all,
      f.fits.long,
      (rw (f.front, sub-zero h.window.upto) at f.fits.same) ∙ rw (← take_min size (bytes ++ coming), all, take-append_seam bytes coming),
    )

module _ (leaves : ℕ → List ℕ → List ℕ) (keeps : Leaves leaves) where
  -- so many reads fill a room that is not missing more
  abbrev Fills : ℕ → Type 0
  Fills n = (size : ℕ) (bytes coming parts : List ℕ) (h : Held) → Front size bytes coming h → missing h.window size ≤ n
      → Full size (bytes ++ coming) (filling leaves n h coming parts)

  -- one read, where there is room and more may come, and then the others
  first_fills : (n : ℕ) → Fills n → Fills (suc n)
  first_fills n on size bytes coming parts h f few = here h.window.ended (leb (length h.room) h.window.upto) refl refl
    where
      more : List ℕ
      more = brings (length h.room - h.window.upto) (get_or parts 0 0) coming

      later : List ℕ
      later = drop (length more) coming

      here : (ended no_room : Bool) → h.window.ended ≡ ended → leb (length h.room) h.window.upto ≡ no_room
          → Full size (bytes ++ coming) (cond (ended || no_room) h (filling leaves n (refilled (leaves n) h more) later (drop 1 parts)))
      here true _ e _ = full f (omega (arith, f.over e))
      here false true _ e = full f (omega (arith, leb-true (length h.room) h.window.upto e))
      here false false goes e =
          let some : h.window.upto < length h.room = leb-false (length h.room) h.window.upto e in
          let m = min (suc (get_or parts 0 0)) (length h.room - h.window.upto) in
          let long = length-take m coming in
          let none : eqb (length more) 0 ≡ true → length later ≡ 0 = λ z. omega (arith, eqb-true (length more) 0 z, length-drop (length more) coming) in
          let whole : more ++ later ≡ coming = rw (long, ← take_min m coming) (take-append-drop (min m (length coming)) coming) in
          let read = read_fits size bytes h f.fits more (omega arith) (leaves n) (keeps n) in
          let less = nearer h.window (Some (length more)) size goes (omega arith) in
          rw (append_assoc bytes more later, whole) at
          (on size (bytes ++ more) later (drop 1 parts) (refilled (leaves n) h more) (record { fits = read; front = f.front; over = none })
          (rw read.long (omega arith)))

  fills : (n : ℕ) → Fills n
  fills zero = λ size bytes coming parts h f few. full f (omega arith)
  fills (suc n) = first_fills n (fills n)

pub any_filling : AnyFilling
any_filling leaves keeps room coming parts n few =
    fills leaves keeps n (length room) [] coming parts (held opened_of room)
    (record { fits = record { same = refl; ends = (opened_holds room).ends; long = refl }; front = refl; over = λ e. absurd (false≢true e) }) (omega arith)
