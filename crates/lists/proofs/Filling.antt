-- Bytes of one value set from a place on, as many as there is room for. Assumes nothing.
use Rattle.std.specs.Prelude.{◌≡◌, ◌∷◌, ◌++◌, ◌≤◌, ◌+◌, ◌-◌}
use Rattle.std.proofs.lemmas.List.{drop_all}
use Rattle.ground.specs.Kit.{refl, sym, ap, ◌∙◌, Bool, true, false, List, [], ℕ, suc, min, arith, leb, leb-true, leb-false, length, length-replicate, length-drop, length-take-le, take, drop, take-append-drop, append-nil, replicate, replicate-append-replicate, set_out, sets, length-sets}
use Rattle.ground.proofs.Parts.{put_back, sets_more}

past : (vs l : List ℕ) (at : ℕ) → length l ≤ at → sets l at vs ≡ l
past [] l at h = refl
past (v ∷ vs) l at h = rw (set_out l at v h) (past vs l (suc at) (omega arith))

module _ (l : List ℕ) (from v : ℕ) where
  -- filled up to i
  abbrev filled_to : ℕ → List ℕ
  filled_to i = sets l from (replicate (i - from) v)

  -- the first j of n, and then the others
  parts : (j n : ℕ) → sets l from (replicate (j + n) v) ≡ sets (sets l from (replicate j v)) (from + j) (replicate n v)
  parts j n = rw (← replicate-append-replicate j n v, sets_more (replicate j v) (replicate n v) l from, length-replicate j v)

  fill_ends : (count i : ℕ) → from ≤ i → i ≤ from + count → min (from + count) (length l) ≤ i → filled_to i ≡ sets l from (replicate count v)
  fill_ends count i low high end = here (leb (from + count) i) refl
    where
      here : (b : Bool) → leb (from + count) i ≡ b → filled_to i ≡ sets l from (replicate count v)
      here true q =
          let all = leb-true (from + count) i q in
          let e : i - from ≡ count = omega arith in
          rw e
      here false q =
          let some = leb-false (from + count) i q in
          let j = i - from in
          let e : count ≡ j + (count - j) = omega arith in
          let long = length-sets l from (replicate j v) in
          let rest = past (replicate (count - j) v) (filled_to i) (from + j) (omega arith) in
          sym (ap (λ (m : ℕ). sets l from (replicate m v)) e ∙ parts j (count - j) ∙ rest)

  -- the part from the place on, or from the end, is filled
  pub filled_part : (first end count : ℕ) (new : List ℕ) → end ≡ min (length l) (from + count) → first ≡ min end from
      → new ≡ replicate (length (take (end - first) (drop first l))) v
      → take first l ++ (new ++ drop (end - first) (drop first l)) ≡ sets l from (replicate count v)
  filled_part first end count new e f n = here (leb from (length l)) refl
    where
      here : (b : Bool) → leb from (length l) ≡ b → take first l ++ (new ++ drop (end - first) (drop first l)) ≡ sets l from (replicate count v)
      here true q =
          let low = leb-true from (length l) q in
          let same : first ≡ from = omega arith in
          let k = end - from in
          let long : length (take k (drop from l)) ≡ k = length-take-le k (drop from l) (simp length-drop (omega arith)) in
          let vs : List ℕ = replicate k v in
          let size : length vs ≡ k = length-replicate k v in
          let all : new ≡ vs ++ drop (length vs) (take k (drop from l)) = rw (n, same, long, size, drop_all k (take k (drop from l)) (omega (arith, long)), append-nil vs) in
          rw same (put_back l vs new from k (omega arith) (omega arith) all) ∙ fill_ends count end (omega arith) (omega arith) (omega arith)
      here false q =
          let past_end = leb-false from (length l) q in
          let same : first ≡ end = omega arith in
          let none : end - first ≡ 0 = omega arith in
          rw (n, none, take-append-drop first l) (sym (past (replicate count v) l from (omega arith)))

  -- the same by how long the part is
  pub filled_span : (first k count : ℕ) (new : List ℕ) → new ≡ replicate (length (take k (drop first l))) v
      → first + k ≡ min (length l) (from + count) → first ≡ min (first + k) from
      → take first l ++ (new ++ drop k (drop first l)) ≡ sets l from (replicate count v)
  filled_span first k count new n e f =
      let span : first + k - first ≡ k = omega arith in
      rw span at (filled_part first (first + k) count new e f (rw span n))
