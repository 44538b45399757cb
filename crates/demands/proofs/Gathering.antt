-- Bytes that are fed to the drive and gathered by the ledger leave the same blocks. Assumes nothing.
use Rattle.std.specs.Prelude.{◌≡◌, ◌∷◌, ◌++◌, ◌+◌, ◌*◌, ◌<◌, ◌≤◌}
use Rattle.ground.specs.Kit.{refl, sym, ap, ◌∙◌, Bool, true, false, List, [], flatten, ℕ, suc, add-mul, one-mul, lt_of_mul-lt-mul_right, add-one, arith, eqb-true, eqb-false, eqb, length, take, set, length-set, length-append, paste, take_all, take-suc-set}
use Rattle.feeds.specs.Feeding.{Writing, writing, feed_byte, feed_bytes}
use Rattle.feeds.proofs.Feeding.{at_byte, feed_inside, feed_last, byte_lengths}
use Rattle.demands.specs.Ledger.{Store, store, blocks_on, gather_byte, gather}
use Rattle.demands.proofs.BlockLists.{Even, even_length, set_even, set_block}

module _ (b : ℕ) where
  -- the disc is the ledger's blocks, and the block buffer has of the block being written what the ledger got
  pub record Gathered (s : Store) (w : Writing) : Type 0 where
    pub at : w.at.0 ≡ s.block.0 * b + length s.got
    pub short : length s.got < b
    pub got : take (length s.got) w.buffer ≡ s.got
    pub held : b ≤ length w.buffer
    pub even : Even b s.blocks
    pub disc : w.disc ≡ flatten s.blocks

  module _ (s : Store) (w : Writing) (g : Gathered s w) (x : ℕ) (room : w.at.0 < length w.disc) where
    abbrev more : List ℕ
    more = s.got ++ (x ∷ [])

    one_more : length more ≡ length s.got + 1
    one_more = length-append s.got (x ∷ [])

    abbrev place : ℕ → Writing
    place at = writing (at_byte at) w.buffer w.disc

    -- what the block buffer then has
    abbrev buffer : List ℕ
    buffer = set w.buffer (length s.got) x

    now : take (length more) buffer ≡ more
    now =
        rw (one_more, add-one)
        (take-suc-set w.buffer (length s.got) x (omega (arith, g.short, g.held)) ∙ ap (λ (got : List ℕ). got ++ (x ∷ [])) g.got)

    inside : (length more ≡ b → ⊥) → Gathered (store s.blocks s.block more) (feed_byte b w x)
    inside h =
        let e : feed_byte b w x ≡ writing (at_byte (s.block.0 * b + suc (length s.got))) buffer w.disc =
        ap (λ (at : ℕ). feed_byte b (place at) x) g.at
        ∙ feed_inside b s.block.0 (length s.got) x w.buffer w.disc (omega (arith, one_more, g.short)) in
        rw e
        (record {
          at = omega (arith, one_more);
          short = omega (arith, one_more, g.short);
          got = now;
          held = rw (length-set w.buffer (length s.got) x) g.held;
          even = g.even;
          disc = g.disc;
        })

    -- its place is one of the disc's blocks
    on_disc : s.block.0 < length s.blocks
    on_disc = lt_of_mul-lt-mul_right b (omega (arith, g.at, room, ap length g.disc, even_length b s.blocks g.even))

    last : length more ≡ b → Gathered (store (set s.blocks s.block.0 more) (blocks_on s.block 1) []) (feed_byte b w x)
    last h =
        let e : feed_byte b w x ≡ writing (at_byte (s.block.0 * b + suc (length s.got))) buffer (paste w.disc (s.block.0 * b) buffer b) =
        ap (λ (at : ℕ). feed_byte b (place at) x) g.at
        ∙ feed_last b s.block.0 (length s.got) x w.buffer w.disc (omega (arith, one_more)) in
        let stored : take b buffer ≡ take b more = rw (take_all b more (omega arith), ← h) now in
        rw e
        (record {
          at = omega (arith, one_more, add-mul s.block.0 1 b, one-mul b);
          short = omega (arith, g.short);
          got = refl;
          held = rw (length-set w.buffer (length s.got) x) g.held;
          even = set_even b more h s.blocks s.block.0 g.even;
          disc = rw (g.disc, stored) (sym (set_block b more h s.blocks s.block.0 g.even on_disc));
        })

    pub gathered_byte : Gathered (gather_byte b s x) (feed_byte b w x)
    gathered_byte = here (eqb (length more) b) refl
      where
        here : (t : Bool) → eqb (length more) b ≡ t → Gathered (gather_byte b s x) (feed_byte b w x)
        here true q = rw q (last (eqb-true (length more) b q))
        here false q = rw q (inside (eqb-false (length more) b q))

  pub gathered : (xs : List ℕ) (s : Store) (w : Writing) → Gathered s w → w.at.0 + length xs ≤ length w.disc
      → Gathered (gather b s xs) (feed_bytes b w xs)
  unfolding feed_byte
  gathered [] s w g room = g
  gathered (x ∷ xs) s w g room =
      let same = (byte_lengths b (omega (arith, g.short)) w x g.held (omega arith)).1 in
      gathered xs (gather_byte b s x) (feed_byte b w x) (gathered_byte s w g x (omega arith)) (rw same (omega arith))
