-- What a record holds, row by row. Assumes nothing.
use Rattle.std.specs.Prelude.{◌≡◌, ◌&&◌, ◌≤◌, Option, None}
use Rattle.ground.specs.Kit.{refl, Bool, true, false, cond, List, ℕ, arith, leb-true, leb, length}
use Rattle.std.proofs.lemmas.Bool.Decides.{nat_tests}
use Rattle.record.specs.declared.{Record.Record}
use Rattle.ground.specs.Bytes.{byte_at, little}
use Rattle.ground.proofs.Truth.{both}
use Rattle.ground.proofs.Tables.{found}
use Rattle.ground.proofs.Each.{found_each}
use Rattle.record.specs.Records.{Row, length_field, kind_field, whole_b, script_rows, other_row, row_of, record_of}
use Rattle.record.specs.Holding.{There, Holds, AllHold}

-- the tests that a whole record has passed
pub record Whole (r : Row) (bytes : List ℕ) : Type 0 where
  pub low : r.least ≤ length_field bytes
  pub high : length_field bytes ≤ r.most
  pub there : length_field bytes ≤ length bytes

pub whole : (r : Row) (bytes : List ℕ) → whole_b r.least r.most bytes ≡ true → Whole r bytes
whole r bytes w = record { low = grind (arith, nat_tests); high = grind (arith, nat_tests); there = grind (arith, nat_tests) }

-- every row's least length counts the header, and no record has more than 516 bytes
pub record Bounded (r : Row) : Type 0 where
  pub header : 4 ≤ r.least
  pub few : r.most ≤ 516

pub bounded : (bytes : List ℕ) → Bounded (row_of bytes)
unfolding script_rows
bounded bytes =
    let (header, few) = both _ _ (found (λ _ r. leb 4 r.least && leb r.most 516) other_row (kind_field bytes) refl script_rows refl) in
    record { header = leb-true 4 _ header; few = leb-true _ 516 few }

-- a test that fails leaves a record bad
if_good : (bytes : List ℕ) (t : Bool) (r : Option Record) → (t ≡ true → Holds r bytes) → Holds (cond t r None) bytes
if_good bytes true r h = h refl
if_good bytes false r h = tt

-- row by row, and of another kind
each_holds : (bytes : List ℕ) → There bytes → Whole (row_of bytes) bytes → Holds ((row_of bytes).says bytes) bytes
unfolding script_rows
each_holds bytes there =
    found_each (λ r. Whole r bytes → Holds (r.says bytes) bytes) other_row (kind_field bytes) script_rows
    (λ _. if_good bytes (leb (byte_at bytes 5) 1) _ (λ _. there))
    (λ _. there)
    (λ w. (there, omega (arith, w.low, w.high)))
    (λ w. (there, omega (arith, w.low)))
    (λ _. if_good bytes (leb (little (byte_at bytes 4) (byte_at bytes 5)) 512) _ (λ t. (there, leb-true _ 512 t)))
    (λ _. tt)

pub all_hold : AllHold
unfolding record_of
all_hold bytes =
    let r = row_of bytes in
    if_good bytes (whole_b r.least r.most bytes) (r.says bytes)
    (λ t. let w = whole r bytes t in each_holds bytes (omega (arith, (bounded bytes).header, w.low), w.there) w)
