-- What holds of giving an answer; proved in proofs/Given.
use Rattle.std.specs.Prelude.{◌≡◌}
use Rattle.ground.specs.Kit.{List, ℕ}
use Rattle.ground.specs.Filling.{Filled, filled}

-- "two answers allowed by the promise are equal": the count and the buffer
abbrev pub OneGiving : Type 0
OneGiving = (f : Filled) (r q : ℕ) (b c : List ℕ) → filled r b ≡ f → filled q c ≡ f → (r ≡ q) × (b ≡ c)
