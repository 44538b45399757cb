-- Parts of a list: those that are lent and come back, and those beside a copy that was pasted. Assumes nothing.
use Rattle.std.specs.Prelude.{◌≡◌, ◌∷◌, ◌++◌, ◌≤◌, ◌+◌, ◌-◌}
use Rattle.ground.specs.Kit.{refl, sym, ◌∙◌, List, [], append_assoc, flatten, ℕ, zero, suc, zero-add, add-zero, suc-add, arith, length, take, drop, set, length-drop, take-append-drop, paste, sets, sets-eq, take-nil, take_all, take_at, take-take, take-set-le, drop-set-lt, take-append-le, length-take-le, drop_at, drop-append-le, drop-drop, drop-paste}

-- lists of lists, one after the other
pub flatten_append : (xs ys : List (List ℕ)) → flatten (xs ++ ys) ≡ flatten xs ++ flatten ys
unfolding flatten
flatten_append [] ys = refl
flatten_append (x ∷ xs) ys = rw (flatten_append xs ys) (sym (append_assoc x (flatten xs) (flatten ys)))

-- the part from `at` to the end
pub tail_part : (at : ℕ) (l : List ℕ) → take (length l - at) (drop at l) ≡ drop at l
tail_part at l = take_all (length l - at) (drop at l) (simp length-drop (omega arith))

-- `ys`, which begins with `xs`, back in the place of the k bytes from `at` on
pub put_back : (buffer xs ys : List ℕ) (at k : ℕ) → at + k ≤ length buffer → length xs ≤ k → ys ≡ xs ++ drop (length xs) (take k (drop at buffer))
    → take at buffer ++ (ys ++ drop k (drop at buffer)) ≡ sets buffer at xs
put_back buffer xs ys at k h i e =
    let n = length xs in
    let part = take k (drop at buffer) in
    let l : length part ≡ k = length-take-le k (drop at buffer) (simp length-drop (omega arith)) in
    let tail : drop n part ++ drop k (drop at buffer) ≡ drop (at + n) buffer =
    sym (drop-append-le n part (drop k (drop at buffer)) (omega arith)) ∙ rw (take-append-drop k (drop at buffer), drop-drop n at buffer) in
    rw (e, append_assoc xs, tail, sets-eq xs buffer at (omega arith), append_assoc (take at buffer))

-- bytes set one after the other may be set in two parts
pub sets_more : (xs ys l : List ℕ) (at : ℕ) → sets l at (xs ++ ys) ≡ sets (sets l at xs) (at + length xs) ys
sets_more [] ys l at = rw (add-zero at)
sets_more (x ∷ xs) ys l at =
    let e : at + suc (length xs) ≡ suc at + length xs = omega arith in
    rw e (sets_more xs ys (set l at x) (suc at))

-- what is before them and behind them stays
pub take_sets : (vs l : List ℕ) (at m : ℕ) → m ≤ at → take m (sets l at vs) ≡ take m l
take_sets [] l at m h = refl
take_sets (v ∷ vs) l at m h = take_sets vs (set l at v) (suc at) m (omega arith) ∙ take-set-le m l at v h

pub drop_sets : (vs l : List ℕ) (at m : ℕ) → at + length vs ≤ m → drop m (sets l at vs) ≡ drop m l
drop_sets [] l at m h = refl
drop_sets (v ∷ vs) l at m h = drop_sets vs (set l at v) (suc at) m (omega arith) ∙ drop-set-lt m l at v (omega arith)

-- ---- parts of a list with a copy pasted into it

-- a part is the end of what is taken up to its own end
pub part_taken : (n m : ℕ) (l : List ℕ) → take n (drop m l) ≡ drop m (take (m + n) l)
part_taken n zero l = rw (zero-add n)
part_taken n (suc m) [] = rw (take-nil n, take-nil (suc m + n))
part_taken n (suc m) (x ∷ l) = rw (suc-add m n) (part_taken n m l)

module _ (l s : List ℕ) (at n : ℕ) (room : at + n ≤ length l) (held : n ≤ length s) where
  paste_at : drop at (paste l at s n) ≡ take n s ++ drop (at + n) l
  paste_at =
      rw (append_assoc (take at l) (take n s) (drop (at + n) l))
      (drop_at (take at l) (take n s ++ drop (at + n) l) at (length-take-le at l (omega arith)))

  pub paste_same : take n (drop at (paste l at s n)) ≡ take n s
  paste_same = rw paste_at (take_at (take n s) (drop (at + n) l) n (length-take-le n s held))

  -- a part before it, and one after it
  pub paste_before : (m : ℕ) → m + n ≤ at → take n (drop m (paste l at s n)) ≡ take n (drop m l)
  paste_before m h =
      let front : take (m + n) (paste l at s n) ≡ take (m + n) l =
      rw (
        append_assoc (take at l) (take n s) (drop (at + n) l),
        take-append-le (m + n) (take at l) (take n s ++ drop (at + n) l) (rw (length-take-le at l (omega arith)) h),
        take-take (m + n) at l h,
      ) in
      rw (part_taken n m (paste l at s n), front, part_taken n m l)

  pub paste_after : (m : ℕ) → at + n ≤ m → take n (drop m (paste l at s n)) ≡ take n (drop m l)
  paste_after m h =
      let e : m ≡ at + n + (m - (at + n)) = omega arith in
      rw (e, ← drop-drop (m - (at + n)) (at + n) (paste l at s n), drop-paste l at s n (omega arith) held, drop-drop (m - (at + n)) (at + n) l)
