-- A number that a text says, digit by digit. Assumes nothing.
use Rattle.std.specs.Prelude.{◌≡◌, ◌∷◌, ◌/◌, ◌^◌, ◌<◌, Some, None}
use Rattle.ground.specs.Kit.{refl, eqb, ne_eqb, sym, ap, ◌∙◌, Bool, true, false, cond, List, [], ℕ, zero, suc, arith, ltb-false, ltb, pow_step, length, drop, drop-cons, get_or}
use Rattle.std.proofs.lemmas.Bool.Decides.{nat_tests}
use Rattle.text.specs.Numbers.{last_digit, digits_before}
use Rattle.text.specs.Reading.{with_digit, after, number_of, ReadsNumbers}

-- behind what is no number nothing is
no_more : (text : List ℕ) → after text None ≡ None
unfolding after
no_more [] = refl
no_more (b ∷ bs) = no_more bs

-- so a text of which a byte says none says none
pub says_none : (text : List ℕ) (i n : ℕ) → after (drop i text) (Some n) ≡ number_of text → i < length text
    → None ≡ with_digit n (get_or text i 0) → None ≡ number_of text
unfolding after
says_none text i n so_far h e =
    let next : after (drop (suc i) text) (with_digit n (get_or text i 0)) ≡ number_of text = rw (drop-cons text i 0 h) at so_far in
    sym (no_more (drop (suc i) text)) ∙ rw (← e) at next

-- a number's last digit, behind the others
last_digit_lem : (n m : ℕ) → m ≡ n / 10 → n < 2 ^ 64 → with_digit m (last_digit n) ≡ Some n
unfolding with_digit
last_digit_lem n m e h = grind (arith, nat_tests)

digits_said : (k n : ℕ) (text : List ℕ) → n < 10 ^ suc k → n < 2 ^ 64 → after (digits_before k n text) (Some 0) ≡ after text (Some n)
unfolding digits_before after
digits_said zero n text h f = ap (after text) (last_digit_lem n 0 (omega (arith, h)) f)
digits_said (suc k) n text h f = more (ltb 9 n) refl (λ h'. digits_said k (n / 10) (last_digit n ∷ text) h' (omega (arith, f)))
  where
    more : (b : Bool) → ltb 9 n ≡ b
        → (n / 10 < 10 ^ suc k → after (digits_before k (n / 10) (last_digit n ∷ text)) (Some 0) ≡ after text (with_digit (n / 10) (last_digit n)))
        → after (cond b (digits_before k (n / 10) (last_digit n ∷ text)) (last_digit n ∷ text)) (Some 0) ≡ after text (Some n)
    more true e rest = rest (omega (arith, h, pow_step 10 (suc k))) ∙ ap (after text) (last_digit_lem n (n / 10) refl f)
    more false e rest = ap (after text) (last_digit_lem n 0 (omega (arith, ltb-false 9 n e)) f)

digits_some : (k n : ℕ) (text : List ℕ) → 0 < length (digits_before k n text)
unfolding digits_before
digits_some zero n text = omega arith
digits_some (suc k) n text = more (ltb 9 n) (digits_some k (n / 10) (last_digit n ∷ text))
  where
    more : (b : Bool) → 0 < length (digits_before k (n / 10) (last_digit n ∷ text))
        → 0 < length (cond b (digits_before k (n / 10) (last_digit n ∷ text)) (last_digit n ∷ text))
    more true h = h
    more false h = omega arith

pub reads_numbers : ReadsNumbers
unfolding number_of after
reads_numbers n h =
    let digits = digits_before 19 n [] in
    let some : eqb (length digits) 0 ≡ false = ne_eqb (length digits) 0 (λ e. absurd (omega (arith, e, digits_some 19 n []))) in
    rw some (digits_said 19 n [] (omega (arith, h)) h)
