-- One share of a feed: what the copy into the buffer leaves, and that the share is a run of bytes. Assumes nothing.
use Rattle.std.specs.Prelude.{◌≡◌, ◌++◌, ◌≤◌, ◌+◌, ◌-◌, ◌%◌}
use Rattle.ground.specs.Kit.{ap, List, ℕ, min, arith, length, take, drop, length-drop, paste, sets, length-take-le}
use Rattle.ground.specs.Filling.{Filled, filled, fill_of}
use Rattle.moves.proofs.Blocks.{Share}
use Rattle.ground.proofs.Parts.{put_back}
use Rattle.feeds.specs.Feeding.{writing, feed_bytes}
use Rattle.feeds.proofs.Feeding.{at_byte, share_part, share_full}

-- the buffer `after` has the first `count` bytes of the piece in its k bytes from `at` on
pub record Copied (at k : ℕ) (piece buffer after : List ℕ) (count : ℕ) : Type 0 where
  pub share : count ≡ min (length piece) k
  pub size : length (take count piece) ≡ count
  pub bytes : after ≡ sets buffer at (take count piece)

pub copied : (at k : ℕ) (piece buffer : List ℕ) → at + k ≤ length buffer → (count : ℕ) (last : List ℕ)
    → filled count last ≡ fill_of (min (length piece) (length (take k (drop at buffer)))) piece (take k (drop at buffer))
    → Copied at k piece buffer (take at buffer ++ (last ++ drop k (drop at buffer))) count
copied at k piece buffer held count last e =
    let part = take k (drop at buffer) in
    let l : length part ≡ k = length-take-le k (drop at buffer) (simp length-drop (omega arith)) in
    let n = ap (λ (f : Filled). f.count) e in
    let size = length-take-le count piece (omega arith) in
    let start : last ≡ take count piece ++ drop (length (take count piece)) part = rw (size, n) (ap (λ (f : Filled). f.bytes) e) in
    record { share = rw l at n; size = size; bytes = put_back buffer (take count piece) last at k held (omega arith) start }

module _ (b at m : ℕ) (s : Share b at m) (piece buffer : List ℕ) (held : b ≤ length buffer) (count : ℕ) where
  module _ (after disc : List ℕ) (c : Copied (at % b) (b - at % b) piece buffer after count) where
    -- the share is the piece's first bytes, one by one
    abbrev Done : List ℕ → Type 0
    Done disc' =
        writing (at_byte (at + count)) after disc' ≡ feed_bytes b (writing (at_byte at) buffer disc) (take (min (length piece) (b - at % b)) piece)

    pub part_done : (at % b + count ≡ b → ⊥) → Done disc
    part_done h =
        let z = c.size in
        let n = c.share in
        let i = s.inside in
        rw (← n, share_part b at buffer disc (take count piece) (omega arith), z, c.bytes)

    pub full_done : (disc' : List ℕ) → at % b + count ≡ b → disc' ≡ paste disc (at - at % b) after b → Done disc'
    full_done disc' h e =
        let z = c.size in
        rw (← c.share, e, share_full b at buffer disc (take count piece) s.pos (omega arith), z, c.bytes)
