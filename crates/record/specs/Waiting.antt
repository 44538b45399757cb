-- When the record at the front of a script can be told from the bytes that have come so far.
use Rattle.std.specs.Prelude.{◌≡◌, ◌&&◌, ◌||◌, ◌++◌, ◌<◌}
use Rattle.ground.specs.Kit.{Bool, true, false, List, ℕ, leb, ltb, length}
use Rattle.record.specs.Records.{length_field, record_of}

-- its length and kind have come, and it is whole or longer than any record
abbrev pub enough_b : List ℕ → Bool
enough_b bytes = leb 4 (length bytes) && (leb (length_field bytes) (length bytes) || ltb 516 (length_field bytes))

-- what comes behind changes neither the record nor its length
pub record ToldBy (bytes : List ℕ) : Type 0 where
  pub same : (more : List ℕ) → record_of (bytes ++ more) ≡ record_of bytes
  pub long : (more : List ℕ) → length_field (bytes ++ more) ≡ length_field bytes
  pub still : (more : List ℕ) → enough_b (bytes ++ more) ≡ true

abbrev pub EnoughTells : Type 0
EnoughTells = (bytes : List ℕ) → enough_b bytes ≡ true → ToldBy bytes

-- where it can't be told, fewer bytes have come than the longest record has
abbrev pub FewCome : Type 0
FewCome = (bytes : List ℕ) → enough_b bytes ≡ false → length bytes < 516
