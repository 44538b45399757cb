-- A room filled from its front, in however many reads.
use Rattle.std.specs.Prelude.{◌≡◌, ◌||◌, ◌+◌, ◌-◌, ◌≤◌}
use Rattle.ground.specs.Kit.{cond, List, ℕ, zero, suc, min, leb, length, take, drop, get_or}
use Rattle.window.specs.declared.{Window.Window}
use Rattle.window.specs.Windows.{Held, held, opened_of}
use Rattle.window.specs.Streams.{brings}
use Rattle.window.specs.Loops.{Leaves, refilled}

-- the bytes that are missing in a room of that size, and a read that brings none
abbrev pub missing : Window → ℕ → ℕ
missing window size = size - window.upto + cond window.ended 0 1

-- reads until the room is full or one brings nothing, with the bytes that are still to come and the parts in which they do; n bounds the reads
abbrev pub filling : (ℕ → List ℕ → List ℕ) → ℕ → Held → List ℕ → List ℕ → Held
filling leaves zero h coming parts = h
filling leaves (suc n) h coming parts =
    let more = brings (length h.room - h.window.upto) (get_or parts 0 0) coming in
    cond (h.window.ended || leb (length h.room) h.window.upto) h
    (filling leaves n (refilled (leaves n) h more) (drop (length more) coming) (drop 1 parts))

-- in whatever parts they come, the room has the bytes that come, as far as there is room for them
abbrev pub AnyFilling : Type 0
AnyFilling = (leaves : ℕ → List ℕ → List ℕ) → Leaves leaves → (room coming parts : List ℕ) (n : ℕ) → length room + 1 ≤ n
    → let h = filling leaves n (held opened_of room) coming parts in
    let upto = h.window.upto in
    (upto ≡ min (length room) (length coming)) × (length h.room ≡ length room) × (take upto h.room ≡ take (length room) coming)
