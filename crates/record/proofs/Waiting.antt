-- A record that can be told stays the same whatever comes behind it. Assumes nothing.
use Rattle.std.specs.Prelude.{◌≡◌, ◌++◌, ◌+◌, ◌<◌, ◌≤◌, Option, None}
use Rattle.ground.specs.Kit.{refl, Bool, true, false, cond, List, ℕ, arith, length, take, drop, length-append, length-drop, drop-append-le, take-append-le, get_or-append}
use Rattle.std.proofs.lemmas.Bool.Decides.{nat_tests}
use Rattle.record.specs.declared.{Record.Record}
use Rattle.ground.specs.Bytes.{byte_at, little}
use Rattle.ground.proofs.Each.{found_each}
use Rattle.record.specs.Records.{length_field, kind_field, whole_b, insert_record, pull_record, two_bytes, script_rows, other_row, row_of, record_of}
use Rattle.record.specs.Waiting.{enough_b, EnoughTells, FewCome}
use Rattle.record.proofs.Holding.{Whole, whole, bounded}

if_alike : (t : Bool) (r q : Option Record) → (t ≡ true → r ≡ q) → cond t r None ≡ cond t q None
if_alike true r q e = e refl
if_alike false r q e = refl

module _ (bytes more : List ℕ) (h : enough_b bytes ≡ true) where
  header : 4 ≤ length bytes
  header = grind (arith, nat_tests)

  longer : length bytes ≤ length (bytes ++ more)
  longer = rw (length-append bytes more) (omega arith)

  -- bytes that have come stay where they are
  fields : (i j : ℕ) → i < length bytes → j < length bytes
      → little (byte_at (bytes ++ more) i) (byte_at (bytes ++ more) j) ≡ little (byte_at bytes i) (byte_at bytes j)
  fields i j hi hj = rw (get_or-append bytes more 0 i hi, get_or-append bytes more 0 j hj)

  long : length_field (bytes ++ more) ≡ length_field bytes
  long = fields 0 1 (omega (arith, header)) (omega (arith, header))

  kind : kind_field (bytes ++ more) ≡ kind_field bytes
  kind = fields 2 3 (omega (arith, header)) (omega (arith, header))

  -- a record that is whole stays so, and one that is longer than any stays too long
  wholes : (least most : ℕ) → most ≤ 516 → whole_b least most (bytes ++ more) ≡ whole_b least most bytes
  wholes least most m = rw long (grind (arith, nat_tests, longer))

  two : (says : ℕ → ℕ → Option Record) → 6 ≤ length_field bytes → length_field bytes ≤ length bytes → two_bytes says (bytes ++ more) ≡ two_bytes says bytes
  two says low there = rw (get_or-append bytes more 0 4 (omega arith), get_or-append bytes more 0 5 (omega arith))

  -- row by row, and of another kind
  each_alike : Whole (row_of bytes) bytes → (row_of bytes).says (bytes ++ more) ≡ (row_of bytes).says bytes
  unfolding script_rows
  each_alike =
      found_each (λ r. Whole r bytes → r.says (bytes ++ more) ≡ r.says bytes) other_row (kind_field bytes) script_rows
      (λ w. two insert_record w.low w.there)
      (λ _. refl)
      (λ _. refl)
      (λ _. rw long)
      (λ w. two pull_record w.low w.there)
      (λ _. refl)

  same : record_of (bytes ++ more) ≡ record_of bytes
  unfolding record_of
  same =
      let r = row_of bytes in
      rw (kind, wholes r.least r.most (bounded bytes).few)
      (if_alike (whole_b r.least r.most bytes) (r.says (bytes ++ more)) (r.says bytes)
      (λ t. each_alike (whole r bytes t)))

  still : enough_b (bytes ++ more) ≡ true
  still = rw long (grind (arith, nat_tests, longer))

pub enough_tells : EnoughTells
enough_tells bytes h = record { same = λ more. same bytes more h; long = λ more. long bytes more h; still = λ more. still bytes more h }

pub few_come : FewCome
few_come bytes e = grind (arith, nat_tests)

-- the n bytes behind the header
pub behind_header : (bytes more : List ℕ) (n : ℕ) → 4 + n ≤ length bytes → take n (drop 4 (bytes ++ more)) ≡ take n (drop 4 bytes)
behind_header bytes more n h =
    rw (drop-append-le 4 bytes more (omega arith), take-append-le n (drop 4 bytes) more (rw (length-drop 4 bytes) (omega arith)))
