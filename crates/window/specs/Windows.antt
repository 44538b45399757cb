-- The window on bytes that come a part at a time: of a lent room, the bytes from `from` up to `upto` have come and are not yet used.
use Rattle.std.specs.Prelude.{◌&&◌, ◌++◌, ◌+◌, ◌-◌, Option, Some, None}
use Rattle.ground.specs.Kit.{Bool, true, false, cond, not, List, ℕ, min, eqb, length, take, drop}
use Rattle.window.specs.declared.{Window.Window}

abbrev pub unread : Window → List ℕ → List ℕ
unread window room = take (window.upto - window.from) (drop window.from room)

abbrev pub opened_of : Window
opened_of = record { from = 0; upto = 0; ended = false }

-- `count` bytes, or as many as there are
abbrev pub used_of : Window → ℕ → Window
used_of window count = record { from = window.from + min count (window.upto - window.from); upto = window.upto; ended = window.ended }

-- both ends lie within the room
abbrev pub within_of : Window → List ℕ → Window
within_of window room =
    let upto = min window.upto (length room) in record { from = min window.from upto; upto = upto; ended = window.ended }

-- a window with its room
pub record Held : Type 0 where
  pub window : Window
  pub room : List ℕ

abbrev pub held : Window → List ℕ → Held
held window room = record { window = window; room = room }

-- the unread bytes stand at the front of the room, and the rest of it stays
abbrev pub to_front_of : Window → List ℕ → Held
to_front_of window room =
    let bytes = unread window room in
    held (record { from = 0; upto = length bytes; ended = window.ended }) (bytes ++ drop (length bytes) room)

-- where a record can't be told, and more may come, a read is due
abbrev pub due_of : Window → Bool → Bool
due_of window waits = waits && not window.ended

-- where a read is due the unread bytes go to the front of the room
abbrev pub settled_of : Window → Bool → List ℕ → Held
settled_of window due room = cond due (to_front_of window room) (held window room)

-- how many bytes a read brought, by how many it answered and how many there was room for: none where it failed
abbrev pub brought_of : Option ℕ → ℕ → ℕ
brought_of (Some got) most = min got most
brought_of None most = 0

-- a read that answers 0 or fails is the last
abbrev pub last_b : Option ℕ → Bool
last_b (Some got) = eqb got 0
last_b None = true

abbrev pub came_of : Window → Option ℕ → List ℕ → Window
came_of window read room =
    record { from = window.from; upto = window.upto + brought_of read (length room - window.upto); ended = last_b read }
