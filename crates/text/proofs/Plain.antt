-- Bytes can be told from the text that shows them. Assumes nothing.
use Rattle.std.specs.Prelude.{◌≡◌, ◌∷◌, ◌++◌, ◌+◌, ◌/◌, ◌%◌, ◌<◌}
use Rattle.ground.specs.Kit.{refl, sym, ap, ◌∙◌, Bool, true, false, cond, false≢true, List, [], ℕ, suc, arith, div-add-mod', ltb-true, ltb-false, ltb}
use Rattle.text.specs.Numbers.{glyph_of, hex_of}
use Rattle.text.specs.Plain.{prints_b, plain_byte, plain_of, PlainApart}

glyph_apart : (a b : ℕ) → a < 16 → b < 16 → glyph_of a ≡ glyph_of b → a ≡ b
unfolding glyph_of
glyph_apart a b h k = here (ltb a 10) (ltb b 10) refl refl
  where
    here : (x y : Bool) → ltb a 10 ≡ x → ltb b 10 ≡ y → cond x (48 + a) (87 + a) ≡ cond y (48 + b) (87 + b) → a ≡ b
    here true true e f same = omega (arith, same)
    here true false e f same = omega (arith, same, ltb-true a 10 e, ltb-false b 10 f)
    here false true e f same = omega (arith, same, ltb-false a 10 e, ltb-true b 10 f)
    here false false e f same = omega (arith, same)

module _ (b c : ℕ) (r s : List ℕ) (h : b < 256) (k : c < 256) where
  -- by both digits
  hex_apart : hex_of b ++ r ≡ hex_of c ++ s → (b ≡ c) × (r ≡ s)
  unfolding hex_of
  hex_apart e =
      let high : b / 16 ≡ c / 16 = glyph_apart (b / 16) (c / 16) (omega arith) (omega arith) (cc) in
      let low : b % 16 ≡ c % 16 = glyph_apart (b % 16) (c % 16) (omega arith) (omega arith) (cc) in
      (omega (arith, high, low, div-add-mod' b 16, div-add-mod' c 16), (cc))

  -- an escape starts with a byte that never stands as it is
  byte_apart : plain_byte b ++ r ≡ plain_byte c ++ s → (b ≡ c) × (r ≡ s)
  unfolding plain_byte
  byte_apart = here (prints_b b) (prints_b c) refl refl
    where
      here : (x y : Bool) → prints_b b ≡ x → prints_b c ≡ y
          → cond x (b ∷ []) (92 ∷ 120 ∷ hex_of b) ++ r ≡ cond y (c ∷ []) (92 ∷ 120 ∷ hex_of c) ++ s → (b ≡ c) × (r ≡ s)
      here true true e f same = ((cc), (cc))
      here true false e f same = let escape : b ≡ 92 = cc in absurd (false≢true (sym (ap prints_b escape) ∙ e))
      here false true e f same = let escape : c ≡ 92 = cc in absurd (false≢true (sym (ap prints_b escape) ∙ f))
      here false false e f same = let rest : hex_of b ++ r ≡ hex_of c ++ s = cc in hex_apart rest

-- no text begins with nothing
some : (b : ℕ) (r : List ℕ) → plain_byte b ++ r ≡ [] → ⊥
unfolding plain_byte
some b r = here (prints_b b)
  where
    here : (x : Bool) → cond x (b ∷ []) (92 ∷ 120 ∷ hex_of b) ++ r ≡ [] → ⊥
    here true e = let z : ◌≡◌ {A = ℕ} 0 1 = cc in omega arith
    here false e = let z : ◌≡◌ {A = ℕ} 0 1 = cc in omega arith

pub plain_apart : PlainApart
plain_apart [] [] h k e = refl
plain_apart [] (y ∷ ys) h k e = absurd (some y (plain_of ys) (sym e))
plain_apart (x ∷ xs) [] h k e = absurd (some x (plain_of xs) e)
plain_apart (x ∷ xs) (y ∷ ys) h k e =
    let (one, more) = byte_apart x y (plain_of xs) (plain_of ys) (h 0) (k 0) e in
    let rest : xs ≡ ys = plain_apart xs ys (λ i. h (suc i)) (λ i. k (suc i)) more in
    cc
