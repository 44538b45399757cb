-- A digit more in front, and none. Assumes nothing.
use Rattle.std.specs.Prelude.{◌≡◌, ◌&&◌, ◌+◌, ◌-◌, ◌/◌, ◌<◌}
use Rattle.ground.specs.Kit.{sym, ◌∙◌, true, false, and-true, and-eq-true_iff, false≢true, List, ℕ, zero, suc, arith, add-one, sub-one, lt-ltb, ltb, length, drop, get_or, set, drop-cons, drop-set-lt}
use Rattle.text.specs.Numbers.{last_digit, digits_before}

module _ (digits : List ℕ) (n : ℕ) where
  -- the place before is free: the next digit goes there
  pub one_more : (x i : ℕ) → (ltb 9 n && ltb 0 i) ≡ true → i < length digits → get_or digits i 0 ≡ last_digit n
      → digits_before (i - 1) (n / 10) (drop (i - 1 + 1) (set digits (i - 1) x)) ≡ digits_before i n (drop (i + 1) digits)
  unfolding digits_before
  one_more x zero t h e = absurd (false≢true ((and-eq-true_iff (ltb 9 n) (ltb 0 0)).0 t).1)
  one_more x (suc k) t h e =
      rw (sub-one (suc k), add-one k, drop-set-lt (suc k) digits k x (omega arith), drop-cons digits (suc k) 0 h, e, add-one (suc k), ((and-eq-true_iff (ltb 9 n) (ltb 0 (suc k))).0 t).0)

  -- the last one is there
  pub no_more : (i : ℕ) → (ltb 9 n && ltb 0 i) ≡ false → i < length digits → get_or digits i 0 ≡ last_digit n
      → drop i digits ≡ digits_before i n (drop (i + 1) digits)
  unfolding digits_before
  no_more zero t h e = rw (drop-cons digits 0 0 h, e)
  no_more (suc k) t h e =
      let few : ltb 9 n ≡ false = sym (and-true (ltb 9 n)) ∙ (rw (lt-ltb 0 (suc k) (omega arith)) at t) in
      rw (drop-cons digits (suc k) 0 h, e, add-one (suc k), few)
