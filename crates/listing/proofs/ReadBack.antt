-- A listing can be read back, so images that are listed alike differ alike. Assumes nothing.
use Rattle.std.specs.Prelude.{◌≡◌, ◌∷◌, ◌++◌, ◌+◌, ◌-◌, ◌*◌, ◌/◌, ◌^◌, ◌<◌, ◌≤◌}
use Rattle.ground.specs.Kit.{refl, sym, ap, ◌∙◌, inl, inr, Bool, true, false, cond, List, [], append_assoc, map, flatten, ℕ, zero, suc, arith, pow_step, le-leb, ltb-false, eqb, ltb, length, drop, get_or}
use Rattle.listing.specs.declared.{Difference.Difference}
use Rattle.disc.specs.Formats.{block_bytes}
use Rattle.disc.proofs.Discs.{block_fits, few_blocks}
use Rattle.text.specs.Numbers.{last_digit, digits_before, decimal_of}
use Rattle.text.specs.Reading.{digit_b}
use Rattle.listing.specs.Differing.{differing}
use Rattle.listing.specs.Listing.{line_of, lines_of, total_line}
use Rattle.listing.specs.Theorems.{In, RisesFrom, Images, SameListing}
use Rattle.listing.proofs.Theorems.{each_told, no_other}

-- ---- a number is read back

-- the digits at the start of a text read, after others: the number that they say stands in their place
abbrev reading : ℕ → List ℕ → List ℕ
reading n [] = n ∷ []
reading n (b ∷ bs) = cond (digit_b b) (reading (n * 10 + (b - 48)) bs) (n ∷ b ∷ bs)

-- a number's last digit, behind the others
last_read : (n m : ℕ) (text : List ℕ) → m ≡ n / 10 → reading m (last_digit n ∷ text) ≡ reading n text
last_read n m text e =
    rw (le-leb 48 (last_digit n) (omega arith), le-leb (last_digit n) 57 (omega arith)) (ap (λ (v : ℕ). reading v text) (omega arith))

digits_read : (k n : ℕ) (text rest : List ℕ) → n < 10 ^ suc k → reading 0 (digits_before k n text ++ rest) ≡ reading n (text ++ rest)
unfolding digits_before
digits_read zero n text rest h = last_read n 0 (text ++ rest) (omega arith)
digits_read (suc k) n text rest h =
    more (ltb 9 n) refl (digits_before k (n / 10) (last_digit n ∷ text))
    (digits_read k (n / 10) (last_digit n ∷ text) rest (omega (arith, pow_step 10 (suc k))))
  where
    more : (b : Bool) → ltb 9 n ≡ b → (longer : List ℕ) → reading 0 (longer ++ rest) ≡ reading (n / 10) (last_digit n ∷ text ++ rest)
        → reading 0 (cond b longer (last_digit n ∷ text) ++ rest) ≡ reading n (text ++ rest)
    more true e longer read = read ∙ last_read n (n / 10) (text ++ rest) refl
    more false e longer read = last_read n 0 (text ++ rest) (omega (arith, ltb-false 9 n e))

-- a number of at most 20 digits, with a mark behind it that is no digit
number_read : (n mark : ℕ) → n < 10 ^ 20 → digit_b mark ≡ false → (rest : List ℕ) → reading 0 (decimal_of n ++ (mark ∷ rest)) ≡ n ∷ mark ∷ rest
number_read n mark h other rest = rw (digits_read 19 n [] (mark ∷ rest) h, other)

-- ---- the lines are read back

-- no number of it has more than 20 digits
record Small (d : Difference) : Type 0 where
  block : d.block.0 < 10 ^ 20
  count : d.count < 10 ^ 20
  first : d.first.0 < 10 ^ 20

-- what at most so many lines tell: behind the number that a line starts with stands a space, and the last line starts with a letter
abbrev read_lines : ℕ → List ℕ → List Difference
read_lines zero text = []
read_lines (suc n) text =
    let block = reading 0 text in
    let count = reading 0 (drop 2 block) in
    let first = reading 0 (drop 2 count) in
    let d : Difference = record { block = record { 0 = get_or block 0 0 }; count = get_or count 0 0; first = record { 0 = get_or first 0 0 } } in
    cond (eqb (get_or block 1 0) 32) (d ∷ read_lines n (drop 2 first)) []

lines_read : (n : ℕ) (ds : List Difference) (total : ℕ) → length ds ≤ n → ((d : Difference) → In d ds → Small d)
    → read_lines n (lines_of ds ++ total_line total) ≡ ds
unfolding lines_of line_of flatten total_line
lines_read zero [] total h small = refl
lines_read zero (d ∷ ds) total h small = absurd (omega arith)
lines_read (suc n) [] total h small = refl
lines_read (suc n) (d ∷ ds) total h small =
    let s = small d (inl refl) in
    let rest = lines_read n ds total (omega arith) (λ e m. small e (inr m)) in
    simp (append_assoc, number_read d.block.0 32 s.block refl, number_read d.count 32 s.count refl, number_read d.first.0 10 s.first refl, rest)

-- ---- what is listed is small

-- below n there are few numbers to rise through
rises_few : (at n : ℕ) (xs : List ℕ) → RisesFrom at xs → ((x : ℕ) → In x xs → x < n) → length xs ≤ n - at
rises_few at n [] r below = omega arith
rises_few at n (x ∷ xs) r below = omega (arith, below x (inl refl), rises_few (suc x) n xs r.1 (λ y m. below y (inr m)))

map_in : {A B : Type 0} (f : A → B) (xs : List A) (x : A) → In x xs → In (f x) (map f xs)
map_in {A = A} {B = B} f [] x x3 = elim x3 [ ]
map_in f (y ∷ ys) x (inl e) = inl (ap f e)
map_in f (y ∷ ys) x (inr m) = inr (map_in f ys x m)

listed_small : (number : ℕ) (first second : List ℕ) → Images number first second → (d : Difference) → In d (differing number first second) → Small d
listed_small number first second images d m =
    let told = each_told number first second images d m in
    let here = (no_other number first second d.block (map_in (λ d. d.block.0) (differing number first second) d m)).0 in
    let few = block_fits number in
    record {
      block = omega (arith, few_blocks number);
      count = omega (arith, rises_few 0 (block_bytes number) told.places told.rising (λ i m. (told.those i m).0));
      first = omega arith;
    }

pub same_listing : SameListing
same_listing number first second other another images others same =
    let ds = differing number first second in
    let es = differing number other another in
    let n = length ds + length es in
    sym (lines_read n ds (length ds) (omega arith) (listed_small number first second images))
    ∙ ap (read_lines n) same ∙ lines_read n es (length es) (omega arith) (listed_small number other another others)
