-- What is unread after each function, and what a window holds of the bytes that came; proved in `proofs/`, `UsedUnread` as `used_unread`.
use Rattle.std.specs.Prelude.{◌≡◌, ◌++◌, ◌+◌, ◌≤◌, Option}
use Rattle.ground.specs.Kit.{Bool, List, [], ℕ, min, length, take, drop}
use Rattle.window.specs.declared.{Window.Window}
use Rattle.window.specs.Windows.{unread, opened_of, used_of, within_of, to_front_of, settled_of, brought_of, came_of}

-- both ends lie within the room
pub record Open (window : Window) (room : List ℕ) : Type 0 where
  pub order : window.from ≤ window.upto
  pub there : window.upto ≤ length room

-- ---- what is unread

abbrev pub UsedUnread : Type 0
UsedUnread = (window : Window) (room : List ℕ) (count : ℕ) → unread (used_of window count) room ≡ drop count (unread window room)

-- whatever the ends were
abbrev pub WithinUnread : Type 0
WithinUnread = (window : Window) (room : List ℕ) → unread (within_of window room) room ≡ unread window room

abbrev pub ToFrontUnread : Type 0
ToFrontUnread = (window : Window) (room : List ℕ) → let front = to_front_of window room in unread front.window front.room ≡ unread window room

-- a read that leaves the room up to `upto`: the bytes that it brought come behind
abbrev pub CameUnread : Type 0
CameUnread = (window : Window) (room behind : List ℕ) (read : Option ℕ) → Open window room
    → let after = take window.upto room ++ behind in
    unread (came_of window read after) after ≡ unread window room ++ take (brought_of read (length behind)) behind

-- ---- of the bytes that came

-- the unread bytes are those that came but for the first, which are used: so many, and no more than came
pub record Holds (came : List ℕ) (used : ℕ) (window : Window) (room : List ℕ) : Type 0 where
  pub few : used ≤ length came
  pub bytes : unread window room ≡ drop used came
  pub ends : Open window room

abbrev pub OpenedHolds : Type 0
OpenedHolds = (room : List ℕ) → Holds [] 0 opened_of room

-- so many more are used, or as many as there are
abbrev pub UsedHolds : Type 0
UsedHolds = (came : List ℕ) (used : ℕ) (window : Window) (room : List ℕ) (count : ℕ) → Holds came used window room
    → Holds came (used + min count (length (unread window room))) (used_of window count) room

-- a window that lies within its room stays as it is
abbrev pub WithinStays : Type 0
WithinStays = (window : Window) (room : List ℕ) → Open window room → within_of window room ≡ window

abbrev pub ToFrontHolds : Type 0
ToFrontHolds = (came : List ℕ) (used : ℕ) (window : Window) (room : List ℕ) → Holds came used window room
    → let front = to_front_of window room in Holds came used front.window front.room

-- whether or not they go to the front
abbrev pub SettledHolds : Type 0
SettledHolds = (came : List ℕ) (used : ℕ) (window : Window) (due : Bool) (room : List ℕ) → Holds came used window room
    → let front = settled_of window due room in Holds came used front.window front.room

abbrev pub CameHolds : Type 0
CameHolds = (came : List ℕ) (used : ℕ) (window : Window) (room behind : List ℕ) (read : Option ℕ) → Holds came used window room
    → let after = take window.upto room ++ behind in
    Holds (came ++ take (brought_of read (length behind)) behind) used (came_of window read after) after
