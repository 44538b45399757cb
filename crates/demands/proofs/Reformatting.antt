-- A disc that is formatted is the ledger's blocks that are. Assumes nothing.
use Rattle.std.specs.Prelude.{◌≡◌, ◌∷◌, ◌++◌, ◌||◌, ◌+◌, ◌*◌, ◌/◌, ◌≤◌, ◌<◌}
use Rattle.ground.specs.Kit.{refl, sym, ap, ◌∙◌, Bool, true, false, List, [], append_assoc, cond, not, flatten, ℕ, suc, zero-mul, suc-mul, add-zero, add_comm, add-mul, le_refl, arith, eqb, lt-leb, le-leb, lt-ltb, le-ltb, length, take, drop, length-drop, length-take-le, length-replicate, replicate, replicate-append-replicate, take-append-drop, drop-drop, mul-le-mul_right, sets, sets-eq}
use Rattle.ground.proofs.Parts.{flatten_append}
use Rattle.disc.specs.Formats.{format_of, block_bytes, run_bytes, place_of}
use Rattle.disc.proofs.Discs.{track_holds}
use Rattle.lists.specs.Lists.{single_track_b, side_of, meant_of, formatted}
use Rattle.lists.proofs.Formatting.{by_meant, meant_within, among_side}
use Rattle.demands.specs.Ledger.{meant_b, reformat, reformatted}
use Rattle.demands.proofs.BlockLists.{Even, even_length, from_block, some_blocks}

module _ (b : ℕ) (meant : ℕ → Bool) where
  pub reformat_even : (k : ℕ) (bs : List (List ℕ)) → Even b bs → Even b (reformat b meant k bs)
  reformat_even k [] e = tt
  reformat_even k (x ∷ xs) e = (here (meant k) _, reformat_even (suc k) xs e.1)
    where
      here : (t : Bool) (v : ℕ) → length (cond t (replicate b v) x) ≡ b
      here true v = length-replicate b v
      here false v = e.0

  append : (k : ℕ) (xs ys : List (List ℕ)) → reformat b meant k (xs ++ ys) ≡ reformat b meant k xs ++ reformat b meant (k + length xs) ys
  append k [] ys = rw (add-zero k)
  append k (x ∷ xs) ys =
      let e : k + suc (length xs) ≡ suc k + length xs = omega arith in
      rw (append (suc k) xs ys, e)

  -- blocks of which none is meant, and of which each is
  untouched : (k : ℕ) (bs : List (List ℕ)) → ((i : ℕ) → k ≤ i → i < k + length bs → meant i ≡ false) → reformat b meant k bs ≡ bs
  untouched k [] none = refl
  untouched k (x ∷ xs) none =
      rw (none k (le_refl k) (omega arith), untouched (suc k) xs (λ i low high. none i (omega arith) (omega arith)))

  filled : (k : ℕ) (bs : List (List ℕ)) → ((i : ℕ) → k ≤ i → i < k + length bs → meant i ≡ true)
      → flatten (reformat b meant k bs) ≡ replicate (length bs * b) 0xf6
  unfolding flatten
  filled k [] each = rw (zero-mul b)
  filled k (x ∷ xs) each =
      rw (each k (le_refl k) (omega arith), filled (suc k) xs (λ i low high. each i (omega arith) (omega arith)), suc-mul (length xs) b, add_comm (length xs * b) b)
      (replicate-append-replicate b (length xs * b) 0xf6)

  -- those from `first` on, `count` of them, are meant
  pub refilled : (first count : ℕ) (bs : List (List ℕ)) → Even b bs → first + count ≤ length bs
      → ((i : ℕ) → i < first → meant i ≡ false) → ((i : ℕ) → first ≤ i → i < first + count → meant i ≡ true)
      → ((i : ℕ) → first + count ≤ i → i < length bs → meant i ≡ false)
      → flatten (reformat b meant 0 bs) ≡ sets (flatten bs) (first * b) (replicate (count * b) 0xf6)
  refilled first count bs even within before inside behind =
      let xs = take first bs in
      let rest = drop first bs in
      let ys = take count rest in
      let zs = drop count rest in
      let xs-long = length-take-le first bs (omega arith) in
      let rest-long = length-drop first bs in
      let ys-long = length-take-le count rest (omega arith) in
      let zs-long = length-drop count rest in
      let whole : bs ≡ xs ++ (ys ++ zs) = rw (take-append-drop count rest, take-append-drop first bs) in
      let e₁ : 0 + length xs ≡ first = omega arith in
      let e₂ : first + length ys ≡ first + count = omega arith in
      let x : reformat b meant 0 xs ≡ xs = untouched 0 xs (λ i low high. before i (omega arith)) in
      let y : flatten (reformat b meant first ys) ≡ replicate (count * b) 0xf6 =
      filled first ys (λ i low high. inside i low (omega arith)) ∙ ap (λ (n : ℕ). replicate (n * b) 0xf6) ys-long in
      let z : reformat b meant (first + count) zs ≡ zs = untouched (first + count) zs (λ i low high. behind i low (omega arith)) in
      let left : flatten (reformat b meant 0 (xs ++ (ys ++ zs))) ≡ flatten xs ++ (replicate (count * b) 0xf6 ++ flatten zs) =
      rw (
        append 0 xs (ys ++ zs),
        e₁,
        append first ys zs,
        e₂,
        flatten_append (reformat b meant 0 xs) (reformat b meant first ys ++ reformat b meant (first + count) zs),
        flatten_append (reformat b meant first ys) (reformat b meant (first + count) zs),
        x,
        y,
        z,
      ) in
      let filler : List ℕ = replicate (count * b) 0xf6 in
      let size : length filler ≡ count * b = length-replicate (count * b) 0xf6 in
      let long : first * b + length filler ≡ (first + count) * b = rw size (sym (add-mul first count b)) in
      let room : first * b + length filler ≤ length (flatten bs) = rw (long, even_length b bs even) (mul-le-mul_right b within) in
      let right : sets (flatten bs) (first * b) filler ≡ flatten xs ++ (filler ++ flatten zs) =
      rw (
        sets-eq filler (flatten bs) (first * b) room,
        long,
        ← some_blocks b first bs even,
        ← from_block b (first + count) bs even,
        ← drop-drop count first bs,
        append_assoc (flatten xs) filler (flatten zs),
      ) in
      ap (λ (l : List (List ℕ)). flatten (reformat b meant 0 l)) whole ∙ left ∙ sym right

-- ---- the blocks that a list means

pub formats : (number track : ℕ) (list : List ℕ) (blocks : List (List ℕ)) → 0 < number → number ≤ 4 → track < (format_of number).cylinders
    → Even (block_bytes number) blocks → length blocks ≡ (format_of number).blocks
    → flatten (reformatted number track list blocks) ≡ formatted number (meant_of (format_of number) track list) (flatten blocks)
unfolding formatted place_of run_bytes
formats number track list blocks low high on even all =
    let within = meant_within number track list on in
    let b = block_bytes number in
    let s = (format_of number).sectors in
    let h = track * 2 + side_of list in
    let pos = track_holds number low high in
    let as-side : single_track_b list ≡ true → (i : ℕ) → meant_b number track list i ≡ eqb (i / s) h = λ single i.
    ap (λ (b : Bool). not b || eqb (i / s) h) single in
    let all-meant : single_track_b list ≡ false → (i : ℕ) → meant_b number track list i ≡ true = λ none i. ap (λ (b : Bool). not b || eqb (i / s) h) none in
    by_meant (format_of number) track list
    (λ m. m.first.0 + m.count ≤ (format_of number).blocks
    → flatten (reformatted number track list blocks) ≡ sets (flatten blocks) (m.first.0 * b) (replicate (m.count * b) 0xf6))
    (λ single fits.
    refilled b (meant_b number track list) (h * s) s blocks even (rw all fits)
    (λ i below. as-side single i ∙ rw (← among_side s h i pos, lt-leb (h * s) i below))
    (λ i from to. as-side single i ∙ rw (← among_side s h i pos, le-leb (h * s) i from, lt-ltb i (h * s + s) to))
    (λ i from to. as-side single i ∙ rw (← among_side s h i pos, le-leb (h * s) i (omega arith), le-ltb i (h * s + s) from)))
    (λ whole fits.
    refilled b (meant_b number track list) 0 (format_of number).blocks blocks even (rw all fits)
    (λ i below. absurd (omega arith))
    (λ i from to. all-meant whole i)
    (λ i from to. absurd (omega arith)))
    within
