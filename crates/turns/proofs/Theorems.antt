-- What holds of every turn. Assumes nothing.
use Rattle.std.specs.Prelude.{◌≡◌, ◌&&◌, ◌-◌, ◌≤◌}
use Rattle.ground.specs.Kit.{refl, sym, subst, Bool, true, false, cond, not, List, ℕ, min, arith, zero-add, length}
use Rattle.house.specs.World.{world}
use Rattle.text.specs.Ink.{Ink, ink, put_all}
use Rattle.text.proofs.Putting.{stays_in_line}
use Rattle.explain.specs.Explaining.{explained_text}
use Rattle.window.specs.Windows.{unread, used_of, within_of, due_of}
use Rattle.window.specs.Holding.{Open}
use Rattle.window.proofs.Windows.{within_open}
use Rattle.window.proofs.Holding.{used_holds, settled_holds}
use Rattle.player.specs.Steps.{Stepped, step_of}
use Rattle.player.proofs.Theorems.{ends_in_line}
use Rattle.turns.specs.Turns.{Turned, done_of, worded_line, worded, turn_of}
use Rattle.turns.specs.Theorems.{UsesRecord, StaysWithin}

pub uses_record : UsesRecord
uses_record window room number s o =
    let bytes = unread window room in
    let done = done_of s.bad s.used in
    let taken = min done (length bytes) in
    settled_holds bytes taken (used_of window done) (due_of window s.waits) room
    (rw (zero-add taken) at (used_holds bytes 0 window room done (record { few = omega arith; bytes = refl; ends = o })))

-- a line ends within what was lent for it, also with its words
worded_ends : (explain : Bool) (bytes : List ℕ) (s : Stepped) (size : ℕ) → s.line.at ≤ size → length s.line.line ≡ size
    → (worded_line explain bytes s).at ≤ size
unfolding worded_line
worded_ends explain bytes s size ends same = here (not s.waits && explain)
  where
    words : List ℕ
    words = explained_text bytes s.house s.world.state.host.sense s.count

    i : Ink
    i = ink (s.line.at - 1) s.line.line

    here : (b : Bool) → (cond b (put_all i words) s.line).at ≤ size
    here true = rw (← same) (stays_in_line i words (omega (arith, ends, same))).0
    here false = ends

pub stays_within : StaysWithin
unfolding turn_of
stays_within run r explain room buffer disc line room' buffer' disc' line' e =
    let window = within_of run.window room in
    let bytes = unread window room in
    let w = world run.state buffer disc in
    let s = step_of w run.number bytes window.ended line in
    let stays = ends_in_line w run.number bytes window.ended line in
    subst (λ (t : Turned). Open t.run.window t.room × (t.run.length ≤ length line)) (sym e)
    ((uses_record window room run.number (worded explain bytes s) (within_open run.window window room refl)).ends, worded_ends explain bytes s (length line) stays.0 stays.1)
