-- What holds of every turn. Each statement is proved in `proofs/` under the name in small letters, `UsesRecord` as `uses_record`.
use Rattle.std.specs.Prelude.{◌≡◌, ◌≤◌}
use Rattle.ground.specs.Kit.{Bool, List, ℕ, min, length}
use Rattle.turns.specs.declared.{Run.Run}
use Rattle.window.specs.declared.{Window.Window}
use Rattle.window.specs.Windows.{unread}
use Rattle.window.specs.Holding.{Open, Holds}
use Rattle.player.specs.Steps.{Stepped}
use Rattle.turns.specs.Turns.{done_of, turned, left_by, turn_of}

-- of the unread bytes those of the record are used, as far as they are there, and no others
abbrev pub UsesRecord : Type 0
UsesRecord = (window : Window) (room : List ℕ) (number : ℕ) (s : Stepped) → Open window room
    → let t = left_by window room number s in
    let bytes = unread window room in
    Holds bytes (min (done_of s.bad s.used) (length bytes)) t.run.window t.room

-- as a turn's promise allows it: both ends of the window lie within the room, and the line within what was lent for it
abbrev pub StaysWithin : Type 0
StaysWithin = (run r : Run) (explain : Bool) (room buffer disc line room' buffer' disc' line' : List ℕ)
    → turned r room' buffer' disc' line' ≡ turn_of run explain room buffer disc line → Open r.window room' × (r.length ≤ length line)
