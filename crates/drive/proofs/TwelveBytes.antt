-- A packet and a list have twelve bytes: two that agree in each are equal. Assumes nothing.
use Rattle.std.specs.Prelude.{◌≡◌}
use Rattle.ground.specs.Kit.{sym, ◌∙◌, true, List, ℕ, eq-eqb, lt-ltb, eqb, eqb-true, length, ext_get_or}
use Rattle.ground.specs.Bytes.{byte_at}
use Rattle.checks.specs.Verdicts.{below_b}
use Rattle.checks.proofs.Below.{below_at}

module _ (p q : List ℕ) where
  abbrev Same : ℕ → Type 0
  Same i = byte_at p i ≡ byte_at q i

  pub twelve : length p ≡ 12 → length q ≡ 12 → Same 0 → Same 1 → Same 2 → Same 3 → Same 4 → Same 5 → Same 6 → Same 7 → Same 8 → Same 9 → Same 10 → Same 11
      → p ≡ q
  twelve long same e₀ e₁ e₂ e₃ e₄ e₅ e₆ e₇ e₈ e₉ e₁₀ e₁₁ =
      let is : (i : ℕ) → Same i → eqb (byte_at p i) (byte_at q i) ≡ true = λ i e. eq-eqb (byte_at p i) (byte_at q i) e in
      let each : below_b (λ i. eqb (byte_at p i) (byte_at q i)) 12 ≡ true =
      rw (is 0 e₀, is 1 e₁, is 2 e₂, is 3 e₃, is 4 e₄, is 5 e₅, is 6 e₆, is 7 e₇, is 8 e₈, is 9 e₉, is 10 e₁₀, is 11 e₁₁) in
      ext_get_or 0 p q (long ∙ sym same)
      (λ i h. eqb-true (byte_at p i) (byte_at q i) (below_at (λ i. eqb (byte_at p i) (byte_at q i)) 12 i (lt-ltb i 12 (rw long at h)) each))
