-- The unread bytes, where the ends of the window lie within the room. Assumes nothing.
use Rattle.std.specs.Prelude.{◌≡◌, ◌-◌}
use Rattle.ground.specs.Kit.{refl, Bool, true, false, List, ℕ, min, arith, leb-true, leb-false, leb, length, take, drop, length-take, length-drop}
use Rattle.std.proofs.lemmas.List.{take_min}
use Rattle.window.specs.declared.{Window.Window}
use Rattle.window.specs.Windows.{unread, within_of}
use Rattle.window.specs.Holding.{Open, WithinUnread}

pub unread_long : (window : Window) (room : List ℕ) → Open window room → length (unread window room) ≡ window.upto - window.from
unread_long window room o = simp (length-take, length-drop) (omega arith)

-- the ends of a part: cut to the room, and to each other
ends : (from upto size : ℕ) → min (upto - from) (size - from) ≡ min upto size - min from (min upto size)
ends from upto size = omega arith

pub within_unread : WithinUnread
within_unread window room =
    rw (← take_min (window.upto - window.from) (drop window.from room), length-drop window.from room, ends window.from window.upto (length room))
    (here (leb window.from upto) refl)
  where
    upto : ℕ
    upto = min window.upto (length room)

    here : (b : Bool) → leb window.from upto ≡ b
        → take (upto - min window.from upto) (drop (min window.from upto) room) ≡ take (upto - min window.from upto) (drop window.from room)
    here true e = let same : min window.from upto ≡ window.from = omega (arith, leb-true window.from upto e) in rw same
    here false e = let none : upto - min window.from upto ≡ 0 = omega (arith, leb-false window.from upto e) in rw none

pub within_open : (window w : Window) (room : List ℕ) → w ≡ within_of window room → Open w room
within_open window w room e = rw e (record { order = omega arith; there = omega arith })
