-- The first bytes of a source put at the start of a buffer.
use Rattle.std.specs.Prelude.{◌++◌}
use Rattle.ground.specs.Kit.{List, ℕ, take, drop}

-- how many bytes were put, and the buffer's bytes after
pub record Filled : Type 0 where
  pub count : ℕ
  pub bytes : List ℕ

abbrev pub filled : ℕ → List ℕ → Filled
filled count bytes = record { count = count; bytes = bytes }

-- n of them; the rest of the buffer is untouched
abbrev pub fill_of : ℕ → List ℕ → List ℕ → Filled
fill_of n source buffer = filled n (take n source ++ drop n buffer)
