-- A disc as a list of blocks of one length: its bytes, some of its blocks, and one block replaced. Assumes nothing.
use Rattle.std.specs.Prelude.{◌≡◌, ◌∷◌, ◌++◌, ◌+◌, ◌*◌, ◌<◌}
use Rattle.ground.specs.Kit.{refl, sym, ap, ◌∙◌, List, [], flatten, append_assoc, ℕ, zero, suc, zero-mul, suc-mul, add_comm, add_assoc, zero-add, not-suc-le-zero, le_of_suc-le-suc, arith, length, take, drop, set, length-drop, length-append, take-append-drop, paste, length-take-le, take-nil, drop-nil, take_all, drop_at, take-append-add, drop-append-add}
use Rattle.demands.specs.Ledger.{blocks_of}

module _ (b : ℕ) where
  abbrev pub Even : List (List ℕ) → Type 0
  Even [] = Unit
  Even (x ∷ xs) = (length x ≡ b) × Even xs

  -- the place after one block more
  next : (k : ℕ) → suc k * b ≡ b + k * b
  next k = suc-mul k b ∙ add_comm (k * b) b

  -- past the first block
  module _ (x : List ℕ) (whole : length x ≡ b) (rest : List ℕ) (n : ℕ) where
    take_past : take (b + n) (x ++ rest) ≡ x ++ take n rest
    take_past = rw (← whole) (take-append-add x rest n)

    drop_past : drop (b + n) (x ++ rest) ≡ drop n rest
    drop_past = rw (← whole) (drop-append-add x rest n)

  -- ---- some blocks

  pub drop_even : (k : ℕ) (bs : List (List ℕ)) → Even bs → Even (drop k bs)
  drop_even zero bs e = e
  drop_even (suc k) [] e = tt
  drop_even (suc k) (x ∷ xs) e = drop_even k xs e.1

  pub from_block : (k : ℕ) (bs : List (List ℕ)) → Even bs → flatten (drop k bs) ≡ drop (k * b) (flatten bs)
  unfolding flatten
  from_block zero bs e = rw (zero-mul b)
  from_block (suc k) [] e = sym (drop-nil (suc k * b))
  from_block (suc k) (x ∷ xs) e = rw (next k, drop_past x e.0 (flatten xs) (k * b)) (from_block k xs e.1)

  pub some_blocks : (n : ℕ) (bs : List (List ℕ)) → Even bs → flatten (take n bs) ≡ take (n * b) (flatten bs)
  unfolding flatten
  some_blocks zero bs e = rw (zero-mul b)
  some_blocks (suc n) [] e = sym (take-nil (suc n * b))
  some_blocks (suc n) (x ∷ xs) e = rw (next n, take_past x e.0 (flatten xs) (n * b), some_blocks n xs e.1)

  -- ---- the blocks of a disc

  pub cut_even : (n : ℕ) (disc : List ℕ) → length disc ≡ n * b → Even (blocks_of b n disc)
  cut_even zero disc e = tt
  cut_even (suc n) disc e =
      let l : length disc ≡ b + n * b = e ∙ next n in
      (length-take-le b disc (omega arith), cut_even n (drop b disc) (length-drop b disc ∙ omega arith))

  pub cut_joins : (n : ℕ) (disc : List ℕ) → length disc ≡ n * b → flatten (blocks_of b n disc) ≡ disc
  unfolding flatten
  cut_joins zero [] e = refl
  cut_joins zero (x ∷ xs) e = absurd (omega (arith, zero-mul b))
  cut_joins (suc n) disc e =
      let l : length disc ≡ b + n * b = e ∙ next n in
      rw (cut_joins n (drop b disc) (length-drop b disc ∙ omega arith)) (take-append-drop b disc)

  pub cut_count : (n : ℕ) (disc : List ℕ) → length (blocks_of b n disc) ≡ n
  cut_count zero disc = refl
  cut_count (suc n) disc = ap suc (cut_count n (drop b disc))

  pub even_length : (bs : List (List ℕ)) → Even bs → length (flatten bs) ≡ length bs * b
  unfolding flatten
  even_length [] e = sym (zero-mul b)
  even_length (x ∷ xs) e = length-append x (flatten xs) ∙ rw (e.0, even_length xs e.1, next (length xs))

  -- ---- one block replaced

  module _ (x : List ℕ) (whole : length x ≡ b) where
    pub set_even : (bs : List (List ℕ)) (k : ℕ) → Even bs → Even (set bs k x)
    set_even [] k e = tt
    set_even (y ∷ ys) zero e = (whole, e.1)
    set_even (y ∷ ys) (suc k) e = (e.0, set_even ys k e.1)

    pub set_block : (bs : List (List ℕ)) (k : ℕ) → Even bs → k < length bs → flatten (set bs k x) ≡ paste (flatten bs) (k * b) x b
    unfolding flatten
    set_block [] k e h = absurd (not-suc-le-zero h)
    set_block (y ∷ ys) zero e h = rw (zero-mul b, zero-add b, take_all b x (omega arith), drop_at y (flatten ys) b e.0)
    set_block (y ∷ ys) (suc k) e h =
        let rest = flatten ys in
        rw (
          next k,
          add_assoc b (k * b) b,
          take_past y e.0 rest (k * b),
          drop_past y e.0 rest (k * b + b),
          set_block ys k e.1 (le_of_suc-le-suc h),
          append_assoc y (take (k * b) rest) (take b x),
          append_assoc y (take (k * b) rest ++ take b x) (drop (k * b + b) rest),
        )
