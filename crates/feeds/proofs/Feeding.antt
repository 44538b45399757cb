-- Laws of feeding: a cut of the bytes anywhere, and the bytes within one block at once. Assumes nothing.
use Rattle.std.specs.Prelude.{◌≡◌, ◌∷◌, ◌++◌, ◌<◌, ◌≤◌, ◌+◌, ◌-◌, ◌*◌, ◌/◌, ◌%◌}
use Rattle.ground.specs.Kit.{refl, sym, ap, ◌∙◌, Bool, true, false, cond, List, [], ℕ, suc, min, mod-lt, mod-eq_of_lt, div-add-mod', add-zero, mul-mod_left, add_assoc, add-mul, one-mul, arith, eq-eqb, ne_eqb, eqb-true, ltb-true, ltb-false, digits_mod, eqb, ltb, length, take, drop, set, length-set, paste, length-paste, sets, take-add, length-take-le}
use Rattle.disc.specs.declared.{BytePlace.BytePlace}
use Rattle.state.specs.States.{onward}
use Rattle.feeds.specs.Feeding.{Writing, writing, feed_byte, feed_bytes}

abbrev pub at_byte : ℕ → BytePlace
at_byte n = record { 0 = n }

module _ (b : ℕ) where
  -- the cut: xs and then ys
  pub feed_append : (w : Writing) (xs ys : List ℕ) → feed_bytes b w (xs ++ ys) ≡ feed_bytes b (feed_bytes b w xs) ys
  feed_append w [] ys = refl
  feed_append w (x ∷ xs) ys = feed_append (feed_byte b w x) xs ys

  -- ---- one byte, j its place within block q

  module _ (q j x : ℕ) (buffer disc : List ℕ) where
    pub feed_inside : j + 1 < b → feed_byte b (writing (at_byte (q * b + j)) buffer disc) x ≡ writing (at_byte (q * b + suc j)) (set buffer j x) disc
    unfolding feed_byte
    feed_inside h =
        let e₁ : (q * b + j) % b ≡ j = digits_mod q (omega arith) in
        let e₂ : q * b + j + 1 ≡ q * b + suc j = omega arith in
        let e₃ : (q * b + suc j) % b ≡ suc j = digits_mod q (omega arith) in
        rw (e₁, e₂, ne_eqb ((q * b + suc j) % b) 0 (λ e. omega arith))

    pub feed_last : j + 1 ≡ b
        → feed_byte b (writing (at_byte (q * b + j)) buffer disc) x ≡ writing (at_byte (q * b + suc j)) (set buffer j x) (paste disc (q * b) (set buffer j x) b)
    unfolding feed_byte
    feed_last h =
        let e₁ : (q * b + j) % b ≡ j = digits_mod q (omega arith) in
        let e₂ : q * b + j + 1 ≡ q * b + suc j = omega arith in
        let e₃ : q * b + suc j ≡ (q + 1) * b = omega (arith, add-mul q 1 b, one-mul b) in
        let e₄ : q * b + suc j - b ≡ q * b = omega arith in
        rw (e₁, e₂, eq-eqb ((q * b + suc j) % b) 0 (rw e₃ (mul-mod_left (q + 1) b)), e₄)

  -- ---- bytes from place j within block q on

  feed_some : (q j : ℕ) (buffer disc xs : List ℕ) → j + length xs < b
      → feed_bytes b (writing (at_byte (q * b + j)) buffer disc) xs ≡ writing (at_byte (q * b + j + length xs)) (sets buffer j xs) disc
  feed_some q j buffer disc [] h = rw (add-zero (q * b + j))
  feed_some q j buffer disc (x ∷ xs) h =
      let e : q * b + j + suc (length xs) ≡ q * b + suc j + length xs = omega arith in
      rw (feed_inside q j x buffer disc (omega arith), e) (feed_some q (suc j) (set buffer j x) disc xs (omega arith))

  feed_all : (q j : ℕ) (buffer disc xs : List ℕ) → j < b → j + length xs ≡ b
      → feed_bytes b (writing (at_byte (q * b + j)) buffer disc) xs
      ≡ writing (at_byte (q * b + j + length xs)) (sets buffer j xs) (paste disc (q * b) (sets buffer j xs) b)
  feed_all q j buffer disc [] k h = absurd (omega arith)
  feed_all q j buffer disc (x ∷ []) k h =
      let e : q * b + j + 1 ≡ q * b + suc j = omega arith in
      rw (feed_last q j x buffer disc (omega arith), e)
  feed_all q j buffer disc (x ∷ (y ∷ ys)) k h =
      let e : q * b + j + suc (length (y ∷ ys)) ≡ q * b + suc j + length (y ∷ ys) = omega arith in
      rw (feed_inside q j x buffer disc (omega arith), e) (feed_all q (suc j) (set buffer j x) disc (y ∷ ys) (omega arith) (omega arith))

  -- ---- the same from a place `at` on

  module _ (at : ℕ) (buffer disc xs : List ℕ) where
    pub share_part : at % b + length xs < b → feed_bytes b (writing (at_byte at) buffer disc) xs ≡ writing (at_byte (at + length xs)) (sets buffer (at % b) xs) disc
    share_part h = rw (div-add-mod' at b) at (feed_some (at / b) (at % b) buffer disc xs h)

    pub share_full : 0 < b → at % b + length xs ≡ b
        → feed_bytes b (writing (at_byte at) buffer disc) xs
        ≡ writing (at_byte (at + length xs)) (sets buffer (at % b) xs) (paste disc (at - at % b) (sets buffer (at % b) xs) b)
    share_full pos h =
        let d = div-add-mod' at b in
        let e : at / b * b ≡ at - at % b = omega arith in
        rw (d, e) at (feed_all (at / b) (at % b) buffer disc xs (mod-lt at pos) h)

-- ---- block buffer and disc stay as long as they are

module _ (b : ℕ) (pos : 0 < b) where
  at_least : (m : ℕ) → 0 < m → m % b ≡ 0 → b ≤ m
  at_least m some e = here (ltb m b) refl
    where
      here : (t : Bool) → ltb m b ≡ t → b ≤ m
      here false f = ltb-false m b f
      here true f = absurd (let z = mod-eq_of_lt (ltb-true m b f) in omega arith)

  pub byte_lengths : (w : Writing) (x : ℕ) → b ≤ length w.buffer → w.at.0 < length w.disc
      → (length (feed_byte b w x).buffer ≡ length w.buffer) × (length (feed_byte b w x).disc ≡ length w.disc)
  unfolding feed_byte
  byte_lengths w x held room = (length-set w.buffer (w.at.0 % b) x, here (eqb ((w.at.0 + 1) % b) 0) refl)
    where
      here : (t : Bool) → eqb ((w.at.0 + 1) % b) 0 ≡ t
          → length (cond t (paste w.disc (w.at.0 + 1 - b) (set w.buffer (w.at.0 % b) x) b) w.disc) ≡ length w.disc
      here false e = refl
      here true e =
          let h = at_least (w.at.0 + 1) (omega arith) (eqb-true ((w.at.0 + 1) % b) 0 e) in
          length-paste w.disc (w.at.0 + 1 - b) (set w.buffer (w.at.0 % b) x) b (omega arith) (rw (length-set w.buffer (w.at.0 % b) x) held)

  pub feed_lengths : (xs : List ℕ) (w : Writing) → b ≤ length w.buffer → w.at.0 + length xs ≤ length w.disc
      → (length (feed_bytes b w xs).buffer ≡ length w.buffer) × (length (feed_bytes b w xs).disc ≡ length w.disc)
  unfolding feed_byte
  feed_lengths [] w held room = (refl, refl)
  feed_lengths (x ∷ xs) w held room =
      let (buffer, disc) = byte_lengths w x held (omega arith) in
      let more = feed_lengths xs (feed_byte b w x) (rw buffer held) (rw disc (omega arith)) in
      (more.0 ∙ buffer, more.1 ∙ disc)

-- ---- the place after them

pub feed_at : (b : ℕ) (v : Writing) (xs : List ℕ) → (feed_bytes b v xs).at.0 ≡ v.at.0 + length xs
unfolding feed_byte
feed_at b v [] = sym (add-zero v.at.0)
feed_at b v (x ∷ xs) = feed_at b (feed_byte b v x) xs ∙ omega arith

-- so a writing that is r bytes further on tells how many of a piece's first bytes were taken
pub taken_count : (b most r : ℕ) (v : Writing) (buffer disc piece : List ℕ)
    → writing (onward v.at r) buffer disc ≡ feed_bytes b v (take (min (length piece) most) piece) → r ≡ min (length piece) most
taken_count b most r v buffer disc piece e =
    let n = min (length piece) most in
    let l = length-take-le n piece (omega arith) in
    omega (arith, ap (λ (w : Writing). w.at.0) e, feed_at b v (take n piece))

-- r bytes more of the rest of the piece, after `done` of it
pub feed_more : (b at done most r : ℕ) (piece rest : List ℕ) (buffer₀ disc₀ buffer₁ disc₁ buffer₂ disc₂ : List ℕ) → rest ≡ drop done piece
    → writing (at_byte (at + done)) buffer₁ disc₁ ≡ feed_bytes b (writing (at_byte at) buffer₀ disc₀) (take done piece)
    → writing (at_byte (at + done + r)) buffer₂ disc₂ ≡ feed_bytes b (writing (at_byte (at + done)) buffer₁ disc₁) (take (min (length rest) most) rest)
    → writing (at_byte (at + (done + r))) buffer₂ disc₂ ≡ feed_bytes b (writing (at_byte at) buffer₀ disc₀) (take (done + r) piece)
feed_more b at done most r piece rest buffer₀ disc₀ buffer₁ disc₁ buffer₂ disc₂ same first more =
    let v = writing (at_byte at) buffer₀ disc₀ in
    let count = taken_count b most r (writing (at_byte (at + done)) buffer₁ disc₁) buffer₂ disc₂ rest more in
    rw (take-add done r piece, feed_append b v (take done piece) (take r (drop done piece)), ← first, ← add_assoc at done r)
    (rw (← count, same) at more)
