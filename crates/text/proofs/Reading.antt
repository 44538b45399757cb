-- A number's digits, read back, are the number. Assumes nothing.
use Rattle.std.specs.Prelude.{◌≡◌, ◌∷◌, ◌+◌, ◌/◌, ◌^◌, ◌<◌, ◌≤◌}
use Rattle.ground.specs.Kit.{refl, ap, ◌∙◌, Bool, true, false, cond, List, [], ℕ, zero, suc, arith, pow_step, ltb-false, ltb, length}
use Rattle.text.specs.Numbers.{last_digit, digits_before, read_after, ReadsBack, FewDigits}

digits_read : (k n : ℕ) (text : List ℕ) → n < 10 ^ suc k → read_after 0 (digits_before k n text) ≡ read_after n text
unfolding digits_before
digits_read zero n text h = ap (λ (v : ℕ). read_after v text) (omega (arith, h))
digits_read (suc k) n text h = more (ltb 9 n) refl (λ h'. digits_read k (n / 10) (last_digit n ∷ text) h')
  where
    more : (b : Bool) → ltb 9 n ≡ b → (n / 10 < 10 ^ suc k → read_after 0 (digits_before k (n / 10) (last_digit n ∷ text)) ≡ read_after (n / 10) (last_digit n ∷ text))
        → read_after 0 (cond b (digits_before k (n / 10) (last_digit n ∷ text)) (last_digit n ∷ text)) ≡ read_after n text
    more true e rest = rest (omega (arith, h, pow_step 10 (suc k))) ∙ ap (λ (v : ℕ). read_after v text) (omega arith)
    more false e rest = ap (λ (v : ℕ). read_after v text) (omega (arith, ltb-false 9 n e))

pub reads_back : ReadsBack
reads_back n h = digits_read 19 n [] h

digits_few : (k n : ℕ) (text : List ℕ) → length (digits_before k n text) ≤ suc k + length text
unfolding digits_before
digits_few zero n text = omega arith
digits_few (suc k) n text = more (ltb 9 n) (digits_few k (n / 10) (last_digit n ∷ text))
  where
    more : (b : Bool) → length (digits_before k (n / 10) (last_digit n ∷ text)) ≤ suc k + length (last_digit n ∷ text)
        → length (cond b (digits_before k (n / 10) (last_digit n ∷ text)) (last_digit n ∷ text)) ≤ suc (suc k) + length text
    more true h = omega (arith, h)
    more false h = omega arith

pub few_digits : FewDigits
few_digits n = omega (arith, digits_few 19 n [])
