-- Laws of filling the start of a buffer. Assumes nothing.
use Rattle.std.specs.Prelude.{◌≡◌, ◌≤◌}
use Rattle.ground.specs.Kit.{List, ℕ, length, take, take-take}
use Rattle.ground.specs.Filling.{fill_of}

-- a start of the source fills as the source itself
pub fill_start : (n m : ℕ) (source buffer : List ℕ) → n ≤ length source → m ≤ n
    → fill_of m (take n source) buffer ≡ fill_of m source buffer
fill_start n m source buffer h k = rw (take-take m n source k)
