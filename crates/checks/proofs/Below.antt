-- What a test of all numbers below a limit says of one that fails, of each, and of masks beside the bytes of a packet. Assumes nothing.
use Rattle.std.specs.Prelude.{◌≡◌, ◌&&◌, ◌∷◌, ◌<◌}
use Rattle.ground.specs.Kit.{refl, sym, ◌∙◌, Bool, true, false, false≢true, and-false, and-true, ⊎_elim, List, [], length, ℕ, zero, suc, eqb, eq-eqb, bit_and, ltb, ltb-true, not-suc-le-zero, eq-or-lt_of_le, le_of_suc-le-suc}
use Rattle.std.specs.List.{list_all, zip}
use Rattle.std.specs.Int.Bits.{and_zero_l}
use Rattle.std.proofs.Math.Bool.{and_assoc}
use Rattle.ground.specs.Bytes.{byte_at}
use Rattle.checks.specs.Verdicts.{bits_b, below_b}

module _ (f : ℕ → Bool) where
  pub one_fails : (n i : ℕ) → i < n → f i ≡ false → below_b f n ≡ false
  one_fails zero i h e = absurd (not-suc-le-zero h)
  one_fails (suc n) i h e =
      ⊎_elim (λ q. rw (← q, e) (and-false (below_b f i))) (λ l. rw (one_fails n i l e)) (eq-or-lt_of_le (le_of_suc-le-suc h))

  -- all numbers below a limit, and one of them
  pub below_at : (n i : ℕ) → ltb i n ≡ true → below_b f n ≡ true → f i ≡ true
  below_at n i h held = here (f i) refl
    where
      here : (b : Bool) → f i ≡ b → b ≡ true
      here true q = refl
      here false q = absurd (false≢true (sym (one_fails n i (ltb-true i n h) q) ∙ held))

  -- counted from the first number on
  from_first : (n : ℕ) → below_b f (suc n) ≡ (f 0 && below_b (λ i. f (suc i)) n)
  from_first zero = rw and-true
  from_first (suc n) = rw (from_first n) (and_assoc (f 0) (below_b (λ i. f (suc i)) n) (f (suc n)))

past_packet : (masks : List ℕ) (n : ℕ) → below_b (bits_b [] masks) n ≡ true
past_packet masks zero = refl
past_packet masks (suc n) = rw (past_packet masks n) (eq-eqb (bit_and 0 (byte_at masks n)) 0 (and_zero_l (byte_at masks n)))

-- a mask beside its byte
abbrev pub pair_b : ℕ × ℕ → Bool
pair_b pair = eqb (bit_and pair.1 pair.0) pair.1

pub pairs : (masks p : List ℕ) → list_all pair_b (zip masks p) ≡ below_b (bits_b p masks) (length masks)
pairs [] p = refl
pairs (m ∷ masks) [] = rw (past_packet (m ∷ masks) (length (m ∷ masks)))
pairs (m ∷ masks) (b ∷ p) = rw (from_first (bits_b (b ∷ p) (m ∷ masks)) (length masks), pairs masks p)
