-- At any cut a block on the disc is all old or all new. Assumes nothing.
use Rattle.std.specs.Prelude.{◌≡◌, ◌&&◌, ◌∷◌, ◌++◌, ◌+◌, ◌-◌, ◌*◌, ◌/◌, ◌%◌, ◌≤◌, ◌<◌}
use Rattle.ground.specs.Kit.{refl, sym, ◌∙◌, Bool, true, false, cond, List, [], ℕ, suc, min, mod-lt, div-add-mod', mul-mod_left, mul-le-mul_right, lt_of_mul-lt-mul_right, eq_of_mul-eq-mul_right, add-mul, one-mul, arith, eq-eqb, ne_eqb, eqb-true, eqb-false, lt-ltb, le-leb, ltb-true, ltb-false, le-ltb, lt-leb, digits_mod, eqb, leb, ltb, length, take, drop, set, length-set, paste, length-take-le, length-paste, take_at, take-suc-set, append_snoc, drop-append-add}
use Rattle.disc.specs.Formats.{block_bytes, run_bytes, place_of}
use Rattle.ground.proofs.Truth.{both}
use Rattle.disc.proofs.Discs.{block_fits, block_holds}
use Rattle.ground.proofs.Parts.{paste_same, paste_before, paste_after}
use Rattle.moves.proofs.Spans.{may_write}
use Rattle.feeds.specs.Feeding.{writing, feed_byte, feed_bytes}
use Rattle.feeds.proofs.Feeding.{at_byte, feed_inside, feed_last}
use Rattle.feeds.proofs.ByTransfer.{feeds_write}
use Rattle.drive.specs.Theorems.{Room, completes_b, gathered_of, OnlyAtTheLastByte, AllOldOrAllNew, FedAllOldOrAllNew}

-- ---- blocks of b bytes

abbrev block_at : ℕ → List ℕ → ℕ → List ℕ
block_at b disc k = take b (drop (k * b) disc)

abbrev end_at : ℕ → ℕ → ℕ
end_at b k = k * b + b

unfoldable reaches_b : ℕ → ℕ → ℕ → ℕ → Bool
reaches_b b at n k = ltb at (end_at b k) && leb (end_at b k) (at + n)

module _ (b : ℕ) (pos : 0 < b) where
  before : (q k : ℕ) → q < k → end_at b q ≤ k * b
  before q k h = let next : q + 1 ≤ k = omega arith in omega (arith, mul-le-mul_right b next, add-mul q 1 b, one-mul b)

  same_end : (q k : ℕ) → end_at b q ≡ end_at b k → q ≡ k
  same_end q k e = eq_of_mul-eq-mul_right b pos q k (omega arith)

  ends_alike : (q k : ℕ) → eqb (end_at b q) (end_at b k) ≡ eqb q k
  ends_alike q k = here (eqb q k) refl
    where
      here : (t : Bool) → eqb q k ≡ t → eqb (end_at b q) (end_at b k) ≡ t
      here true e = eq-eqb (end_at b q) (end_at b k) (rw (eqb-true q k e))
      here false e = ne_eqb (end_at b q) (end_at b k) (λ f. eqb-false q k e (same_end q k f))

  -- within a block there is no end of one
  no_end : (q j k : ℕ) → j + 1 < b → q * b + j + 1 ≡ end_at b k → ⊥
  no_end q j k h e =
      let next : end_at b k ≡ (k + 1) * b = omega (arith, add-mul k 1 b, one-mul b) in
      let place : q * b + j + 1 ≡ q * b + (j + 1) = omega arith in
      let m : j + 1 ≡ 0 = sym (digits_mod q h) ∙ rw (← place, e, next) (mul-mod_left (k + 1) b) in
      omega arith

  -- a block that is stored changes, and no other
  block_stored : (q k : ℕ) (disc buffer : List ℕ) → end_at b q ≤ length disc → b ≤ length buffer
      → block_at b (paste disc (q * b) buffer b) k ≡ cond (eqb q k) (take b buffer) (block_at b disc k)
  block_stored q k disc buffer room held = here (eqb q k) refl (ltb q k) refl
    where
      here : (t : Bool) → eqb q k ≡ t → (u : Bool) → ltb q k ≡ u → block_at b (paste disc (q * b) buffer b) k ≡ cond t (take b buffer) (block_at b disc k)
      here true e u f = rw (← eqb-true q k e) (paste_same disc buffer (q * b) b room held)
      here false e true f = paste_after disc buffer (q * b) b room held (k * b) (before q k (ltb-true q k f))
      here false e false f =
          let h = ltb-false q k f in
          let d = eqb-false q k e in
          paste_before disc buffer (q * b) b room held (k * b) (before k q (omega arith))

  -- ---- one byte

  module _ (q j x k : ℕ) (buffer disc : List ℕ) (h : j < b) (held : b ≤ length buffer) (room : q * b + j < length disc) where
    at_last : block_at b (feed_byte b (writing (at_byte (q * b + j)) buffer disc) x).disc k
        ≡ cond (eqb (q * b + j + 1) (end_at b k)) (take b (feed_byte b (writing (at_byte (q * b + j)) buffer disc) x).buffer) (block_at b disc k)
    at_last = here (eqb (j + 1) b) refl
      where
        here : (t : Bool) → eqb (j + 1) b ≡ t
            → block_at b (feed_byte b (writing (at_byte (q * b + j)) buffer disc) x).disc k
            ≡ cond (eqb (q * b + j + 1) (end_at b k)) (take b (feed_byte b (writing (at_byte (q * b + j)) buffer disc) x).buffer) (block_at b disc k)
        here false e =
            let inside : j + 1 < b = let d = eqb-false (j + 1) b e in omega arith in
            rw (feed_inside b q j x buffer disc inside, ne_eqb (q * b + j + 1) (end_at b k) (no_end q j k inside))
        here true e =
            let last = eqb-true (j + 1) b e in
            let place : q * b + j + 1 ≡ end_at b q = omega arith in
            rw (feed_last b q j x buffer disc last, place, ends_alike q k)
            (block_stored q k disc (set buffer j x) (omega arith) (rw (length-set buffer j x) held))

  -- ---- bytes

  -- if a byte isn't the last of block k, another one after it has to be
  reaches_next : (at n k : ℕ) → (at + 1 ≡ end_at b k → ⊥) → reaches_b b at (suc n) k ≡ reaches_b b (at + 1) n k
  unfolding reaches_b
  reaches_next at n k other = here (ltb at (end_at b k)) refl
    where
      here : (t : Bool) → ltb at (end_at b k) ≡ t → (t && leb (end_at b k) (at + suc n)) ≡ reaches_b b (at + 1) n k
      here true e =
          let h = ltb-true at (end_at b k) e in
          let s : at + suc n ≡ at + 1 + n = omega arith in
          rw (lt-ltb (at + 1) (end_at b k) (omega arith), s)
      here false e = let h = ltb-false at (end_at b k) e in rw (le-ltb (at + 1) (end_at b k) (omega arith))

  reaches_none : (at k : ℕ) → reaches_b b at 0 k ≡ false
  unfolding reaches_b
  reaches_none at k = here (ltb at (end_at b k)) refl
    where
      here : (t : Bool) → ltb at (end_at b k) ≡ t → (t && leb (end_at b k) (at + 0)) ≡ false
      here true e = let h = ltb-true at (end_at b k) e in lt-leb (end_at b k) (at + 0) (omega arith)
      here false e = refl

  module _ (at n k : ℕ) where
    reaches-not : end_at b k ≤ at → reaches_b b at n k ≡ false
    unfolding reaches_b
    reaches-not h = rw (le-ltb at (end_at b k) h)

    reaches-now : at < end_at b k → end_at b k ≤ at + n → reaches_b b at n k ≡ true
    unfolding reaches_b
    reaches-now h i = rw (lt-ltb at (end_at b k) h, le-leb (end_at b k) (at + n) i)

  reaches_on : (q n k : ℕ) → reaches_b b ((q + 1) * b + 0) n k ≡ true → q < k
  unfolding reaches_b
  reaches_on q n k e =
      let at = (q + 1) * b + 0 in
      let h = ltb-true at (end_at b k) (both (ltb at (end_at b k)) (leb (end_at b k) (at + n)) e).0 in
      let i : (q + 1) * b < (k + 1) * b = omega (arith, add-mul k 1 b, one-mul b) in
      let l = lt_of_mul-lt-mul_right b i in
      omega arith

  -- block k after n bytes from place j within block q on: `gathered` is what there is from the block's start on
  abbrev new_of : ℕ → ℕ → ℕ → ℕ → List ℕ → List ℕ → List ℕ
  new_of k q j n gathered disc = cond (reaches_b b (q * b + j) n k) (take b (drop (k * b - q * b) gathered)) (block_at b disc k)

  abbrev Whole : ℕ → List ℕ → Type 0
  Whole k xs =
      (q j : ℕ) (buffer disc : List ℕ) → j < b → b ≤ length buffer → q * b + j + length xs ≤ length disc
      → block_at b (feed_bytes b (writing (at_byte (q * b + j)) buffer disc) xs).disc k ≡ new_of k q j (length xs) (take j buffer ++ xs) disc

  module _ (k x : ℕ) (xs : List ℕ) (more : Whole k xs) (q j : ℕ) (buffer disc : List ℕ) (held : b ≤ length buffer)
      (room : q * b + j + suc (length xs) ≤ length disc) where
    -- the byte joins what is gathered of its block
    joined : j < b → take (suc j) (set buffer j x) ++ xs ≡ take j buffer ++ x ∷ xs
    joined h = rw (take-suc-set buffer j x (omega arith)) (append_snoc (take j buffer) x xs)

    abbrev Next : Type 0
    Next =
        block_at b (feed_bytes b (feed_byte b (writing (at_byte (q * b + j)) buffer disc) x) xs).disc k
        ≡ new_of k q j (suc (length xs)) (take j buffer ++ x ∷ xs) disc

    whole-inside : j + 1 < b → Next
    whole-inside inside =
        let s : q * b + j + 1 ≡ q * b + suc j = omega arith in
        rw (
          feed_inside b q j x buffer disc inside,
          reaches_next (q * b + j) (length xs) k (no_end q j k inside),
          s,
          ← joined (omega arith),
        )
        (more q (suc j) (set buffer j x) disc (omega arith) (rw (length-set buffer j x) held) (omega arith))

    module _ (last : j + 1 ≡ b) where
      block : length (take (suc j) (set buffer j x)) ≡ b
      block = length-take-le (suc j) (set buffer j x) (rw (length-set buffer j x) (omega arith)) ∙ omega arith

      -- the gathered block, and what comes after it
      gathered : take b (take j buffer ++ x ∷ xs) ≡ take b (set buffer j x)
      gathered =
          let s : suc j ≡ b = omega arith in
          rw (← joined (omega arith), take_at (take (suc j) (set buffer j x)) xs b block, s)

      later : (m : ℕ) → drop (b + m) (take j buffer ++ x ∷ xs) ≡ drop m xs
      later m = rw (← joined (omega arith), ← block) (drop-append-add (take (suc j) (set buffer j x)) xs m)

      whole-last : Next
      whole-last =
          let next : q * b + suc j ≡ (q + 1) * b + 0 = omega (arith, add-mul q 1 b, one-mul b) in
          let stored = paste disc (q * b) (set buffer j x) b in
          let fits : b ≤ length (set buffer j x) = rw (length-set buffer j x) held in
          let long : length stored ≡ length disc = length-paste disc (q * b) (set buffer j x) b (omega arith) fits in
          rw (
            feed_last b q j x buffer disc last,
            next,
            more (q + 1) 0 (set buffer j x) stored pos fits (omega arith),
            block_stored q k disc (set buffer j x) (omega arith) fits,
          )
          (here (eqb q k) refl)
        where
          here : (t : Bool) → eqb q k ≡ t
              → cond (reaches_b b ((q + 1) * b + 0) (length xs) k) (take b (drop (k * b - (q + 1) * b) xs)) (cond t (take b (set buffer j x)) (block_at b disc k))
              ≡ new_of k q j (suc (length xs)) (take j buffer ++ x ∷ xs) disc
          here true e =
              let s = eqb-true q k e in
              let none : k * b - q * b ≡ 0 = rw s (omega arith) in
              let over : end_at b k ≤ (q + 1) * b + 0 = rw (← s) (omega (arith, add-mul q 1 b, one-mul b)) in
              let reached : end_at b k ≤ q * b + j + suc (length xs) = rw (← s) (omega arith) in
              rw (
                reaches-not ((q + 1) * b + 0) (length xs) k over,
                reaches-now (q * b + j) (suc (length xs)) k (rw (← s) (omega arith)) reached,
                none,
                gathered,
              )
          here false e =
              let place : q * b + j + 1 ≡ (q + 1) * b + 0 = omega (arith, add-mul q 1 b, one-mul b) in
              let other : q * b + j + 1 ≡ end_at b k → ⊥ = λ f. eqb-false q k e (same_end q k (omega arith)) in
              rw (reaches_next (q * b + j) (length xs) k other, place) (there (reaches_b b ((q + 1) * b + 0) (length xs) k) refl)
            where
              there : (c : Bool) → reaches_b b ((q + 1) * b + 0) (length xs) k ≡ c
                  → cond c (take b (drop (k * b - (q + 1) * b) xs)) (block_at b disc k)
                  ≡ cond c (take b (drop (k * b - q * b) (take j buffer ++ x ∷ xs))) (block_at b disc k)
              there false f = refl
              there true f =
                  let h = before q k (reaches_on q (length xs) k f) in
                  let further : k * b - q * b ≡ b + (k * b - (q + 1) * b) = omega (arith, add-mul q 1 b, one-mul b) in
                  rw (further, later (k * b - (q + 1) * b))

  whole : (k : ℕ) (xs : List ℕ) → Whole k xs
  whole k [] q j buffer disc h held room = rw (reaches_none (q * b + j) k)
  whole k (x ∷ xs) q j buffer disc h held room = here (eqb (j + 1) b) refl (λ q j buffer disc. whole k xs q j buffer disc)
    where
      here : (t : Bool) → eqb (j + 1) b ≡ t → (more : Whole k xs) → Next k x xs more q j buffer disc held room
      here true e more = whole-last k x xs more q j buffer disc held room (eqb-true (j + 1) b e)
      here false e more = whole-inside k x xs more q j buffer disc held room (let d = eqb-false (j + 1) b e in omega arith)

-- ---- the blocks of a disc

pub only_at_the_last_byte : OnlyAtTheLastByte
unfolding place_of run_bytes
only_at_the_last_byte number w x k r =
    let b = block_bytes number in
    let at = w.at.0 in
    let pos = block_holds number r.whole.low r.whole.high in
    let fits = block_fits number in
    let d = div-add-mod' at b in
    rw d at (at_last b pos (at / b) (at % b) x k.0 w.buffer w.disc (mod-lt at pos) (omega (arith, r)) (rw d (omega (arith, r))))

pub all_old_or_all_new : AllOldOrAllNew
unfolding place_of run_bytes completes_b gathered_of reaches_b
all_old_or_all_new number w xs k r =
    let b = block_bytes number in
    let at = w.at.0 in
    let pos = block_holds number r.whole.low r.whole.high in
    let fits = block_fits number in
    let d = div-add-mod' at b in
    let start : at / b * b ≡ at - at % b = omega arith in
    rw (d, start) at (whole b pos k.0 xs (at / b) (at % b) w.buffer w.disc (mod-lt at pos) (omega (arith, r)) (rw d r.within))

pub fed_all_old_or_all_new : FedAllOldOrAllNew
fed_all_old_or_all_new w piece p k ready e =
    let s = (may_write w ready p e).span in
    let number = w.state.media.disc in
    let n = min (length piece) p.left in
    let from = writing p.at w.buffer w.disc in
    let l : length (take n piece) ≡ n = length-take-le n piece (omega arith) in
    let room : Room number from (length (take n piece)) = record { whole = s.whole; buffer = ready.buffer; within = rw l (omega (arith, s.within)) } in
    rw (← feeds_write w piece ready p e) (rw l at (all_old_or_all_new number from (take n piece) k room))
