-- What is unread after each function, and what a window holds of the bytes that came. Assumes nothing.
use Rattle.std.specs.Prelude.{◌≡◌, ◌∷◌, ◌++◌, ◌+◌, ◌-◌, ◌≤◌, Option, Some, None}
use Rattle.ground.specs.Kit.{refl, sym, ap, ◌∙◌, Bool, true, false, List, [], ℕ, zero, suc, min, sub-zero, arith, leb-true, leb-false, leb, length, take, drop, length-append, length-drop, length-take-le, take-nil, take-append-add, take-append_seam, drop-append-le, drop-drop}
use Rattle.std.proofs.lemmas.List.{drop_min}
use Rattle.window.specs.Windows.{unread, used_of, brought_of}
use Rattle.window.specs.Holding.{UsedUnread, ToFrontUnread, CameUnread, OpenedHolds, UsedHolds, WithinStays, ToFrontHolds, SettledHolds, CameHolds}

pub drop_taken : (c n : ℕ) (l : List ℕ) → drop c (take n l) ≡ take (n - c) (drop c l)
drop_taken zero n l = rw (sub-zero n)
drop_taken (suc c) zero l = let none : 0 - suc c ≡ 0 = omega arith in rw none
drop_taken (suc c) (suc n) [] = rw (take-nil (suc n - suc c))
drop_taken (suc c) (suc n) (x ∷ l) = let less : suc n - suc c ≡ n - c = omega arith in rw less (drop_taken c n l)

pub used_unread : UsedUnread
used_unread window room count = rw (drop_taken count n (drop from room)) (here (leb count n) refl)
  where
    from : ℕ
    from = window.from

    n : ℕ
    n = window.upto - from

    here : (b : Bool) → leb count n ≡ b → unread (used_of window count) room ≡ take (n - count) (drop count (drop from room))
    here true e =
        let most : min count n ≡ count = omega (arith, leb-true count n e) in
        let left : window.upto - (from + count) ≡ n - count = omega arith in
        rw (most, left, drop-drop count from room)
    here false e =
        let none : window.upto - (from + min count n) ≡ 0 = omega (arith, leb-false count n e) in
        let less : n - count ≡ 0 = omega (arith, leb-false count n e) in
        rw (none, less)

pub to_front_unread : ToFrontUnread
to_front_unread window room =
    let bytes = unread window room in rw (sub-zero (length bytes)) (take-append_seam bytes (drop (length bytes) room))

pub came_unread : CameUnread
came_unread window room behind read o =
    let front = take window.upto room in
    let long : length front ≡ window.upto = length-take-le window.upto room o.there in
    let rest : length (front ++ behind) - window.upto ≡ length behind = omega (arith, length-append front behind) in
    let left : length (drop window.from front) ≡ window.upto - window.from = omega (arith, length-drop window.from front) in
    let k = brought_of read (length behind) in
    let all : window.upto + k - window.from ≡ length (drop window.from front) + k = omega (arith, o.order) in
    rw (rest, all, drop-append-le window.from front behind (omega (arith, o.order)), take-append-add (drop window.from front) behind k, drop_taken window.from window.upto room)

pub opened_holds : OpenedHolds
opened_holds room = record { few = omega arith; bytes = refl; ends = record { order = omega arith; there = omega arith } }

pub used_holds : UsedHolds
used_holds came used window room count h =
    let bytes = unread window room in
    let more = min count (length bytes) in
    record {
      few = omega (arith, h.few, ap length h.bytes, length-drop used came);
      bytes = used_unread window room count ∙ sym (drop_min count bytes) ∙ ap (drop more) h.bytes ∙ drop-drop more used came;
      ends = record { order = omega (arith, h.ends.order); there = h.ends.there };
    }

pub within_stays : WithinStays
within_stays window room o =
    let upto : min window.upto (length room) ≡ window.upto = omega arith in
    let from : min window.from window.upto ≡ window.from = omega arith in
    rw (upto, from)

pub to_front_holds : ToFrontHolds
to_front_holds came used window room h =
    let bytes = unread window room in
    record {
      few = h.few;
      bytes = to_front_unread window room ∙ h.bytes;
      ends = record { order = omega arith; there = omega (arith, length-append bytes (drop (length bytes) room)) };
    }

pub settled_holds : SettledHolds
settled_holds came used window true room h = to_front_holds came used window room h
settled_holds came used window false room h = h

-- no more than there is room for
at_most : (read : Option ℕ) (most : ℕ) → brought_of read most ≤ most
at_most (Some got) most = omega arith
at_most None most = omega arith

pub came_holds : CameHolds
came_holds came used window room behind read h =
    let front = take window.upto room in
    let size : length (front ++ behind) ≡ window.upto + length behind =
    omega (arith, length-append front behind, length-take-le window.upto room h.ends.there) in
    let most = at_most read (length (front ++ behind) - window.upto) in
    let brought = take (brought_of read (length behind)) behind in
    record {
      few = omega (arith, h.few, length-append came brought);
      bytes = rw (came_unread window room behind read h.ends, h.bytes, drop-append-le used came brought h.few);
      ends = record { order = omega (arith, h.ends.order); there = omega (arith, most, size) };
    }
