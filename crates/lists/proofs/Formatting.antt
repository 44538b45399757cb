-- What a list looks at, which blocks it means, and what formatting leaves of a disc. Assumes nothing.
use Rattle.std.specs.Prelude.{◌≡◌, ◌&&◌, ◌++◌, ◌+◌, ◌-◌, ◌*◌, ◌/◌, ◌≤◌, ◌<◌}
use Rattle.ground.specs.Kit.{refl, ap, ◌∙◌, Bool, true, false, cond, List, append_assoc, ℕ, mod-lt, le_refl, lit≤, zero-add, add-mul, one-mul, suc-mul, mul-le-mul_right, div-lt_iff_lt-mul, le-div_iff_mul-le, arith, eqb, leb, ltb, eq-eqb, ne_eqb, leb-true, leb-false, ltb-true, ltb-false, length, length-take-le, take, drop, get_or-take, replicate, length-replicate, replicate-append-replicate, sets, sets-eq, length-sets, drop-append-add, drop_at, take_at}
use Rattle.disc.specs.declared.{Format.Format, BlockAddress.BlockAddress}
use Rattle.ground.specs.Bytes.{byte_at}
use Rattle.ground.proofs.Parts.{part_taken, take_sets, drop_sets}
use Rattle.disc.specs.Formats.{heads, format_of, block_bytes, run_bytes, disc_bytes, place_of}
use Rattle.disc.proofs.Discs.{track_within}
use Rattle.lists.specs.declared.{Blocks.Blocks}
use Rattle.lists.specs.Lists.{single_track_b, side_of, bad_list_b, blocks_from, meant_of, among_b, filler, formatted}

-- ---- the first 12 bytes of what is lent are the list

module _ (f : Format) (xs : List ℕ) where
  pub judged_by_twelve : bad_list_b f (take 12 xs) ≡ bad_list_b f xs
  unfolding bad_list_b
  judged_by_twelve =
      let same : (i : ℕ) → i < 12 → byte_at (take 12 xs) i ≡ byte_at xs i = λ i h. get_or-take 12 xs i 0 h in
      rw (
        same 1 (lit≤ tt),
        same 2 (lit≤ tt),
        same 3 (lit≤ tt),
        same 4 (lit≤ tt),
        same 5 (lit≤ tt),
        same 6 (lit≤ tt),
        same 7 (lit≤ tt),
        same 9 (lit≤ tt),
        same 10 (lit≤ tt),
        same 11 (lit≤ tt),
      )

  pub meant_by_twelve : (track : ℕ) → meant_of f track (take 12 xs) ≡ meant_of f track xs
  unfolding meant_of
  meant_by_twelve track = let same : byte_at (take 12 xs) 1 ≡ byte_at xs 1 = get_or-take 12 xs 1 0 (lit≤ tt) in rw same

-- ---- the blocks that are meant

-- by Single Track
pub by_meant : (f : Format) (track : ℕ) (list : List ℕ) (P : Blocks → Type 0)
    → (single_track_b list ≡ true → P (blocks_from ((track * heads + side_of list) * f.sectors) f.sectors))
    → (single_track_b list ≡ false → P (blocks_from 0 f.blocks)) → P (meant_of f track list)
unfolding meant_of
by_meant f track list P single whole = here (single_track_b list) refl
  where
    here : (b : Bool) → single_track_b list ≡ b → P (meant_of f track list)
    here true q = rw q (single q)
    here false q = rw q (whole q)

-- all of them are on the disc
pub meant_within : (number track : ℕ) (list : List ℕ) → track < (format_of number).cylinders
    → let meant = meant_of (format_of number) track list in
    meant.first.0 + meant.count ≤ (format_of number).blocks
meant_within number track list on =
    by_meant (format_of number) track list (λ m. m.first.0 + m.count ≤ (format_of number).blocks)
    (λ _. track_within number track (side_of list) on (mod-lt (byte_at list 1) (lit≤ tt)))
    (λ _. rw (zero-add (format_of number).blocks) (le_refl (format_of number).blocks))

-- block k is of track and side h, where a track has s sectors
pub among_side : (s h k : ℕ) → 0 < s → (leb (h * s) k && ltb k (h * s + s)) ≡ eqb (k / s) h
among_side s h k pos = here (leb (h * s) k) refl (ltb k (h * s + s)) refl
  where
    next : (h + 1) * s ≡ h * s + s
    next = omega (arith, add-mul h 1 s, one-mul s)

    here : (b : Bool) → leb (h * s) k ≡ b → (c : Bool) → ltb k (h * s + s) ≡ c → (b && c) ≡ eqb (k / s) h
    here false q c f =
        let a = (div-lt_iff_lt-mul {k = s} {x = k} {y = h} pos).1 (leb-false (h * s) k q) in
        rw (ne_eqb (k / s) h (λ e. omega arith))
    here true q false f =
        let a = (le-div_iff_mul-le {k = s} {x = h + 1} {y = k} pos).1 (omega (arith, next, ltb-false k (h * s + s) f)) in
        rw (ne_eqb (k / s) h (λ e. omega arith))
    here true q true f =
        let a = (le-div_iff_mul-le {k = s} {x = h} {y = k} pos).1 (leb-true (h * s) k q) in
        let b = (div-lt_iff_lt-mul {k = s} {x = k} {y = h + 1} pos).1 (omega (arith, next, ltb-true k (h * s + s) f)) in
        rw (eq-eqb (k / s) h (omega arith))

-- ---- the disc

pub formatted_length : (number : ℕ) (meant : Blocks) (disc : List ℕ) → length (formatted number meant disc) ≡ length disc
unfolding formatted
formatted_length number meant disc = length-sets disc (place_of number meant.first).0 (replicate (run_bytes number meant.count) filler)

-- n bytes of one value, in three parts
three : (i j k v : ℕ) → replicate (i + (j + k)) v ≡ replicate i v ++ (replicate j v ++ replicate k v)
three i j k v = rw (replicate-append-replicate j k v, replicate-append-replicate i (j + k) v)

-- the bytes from place m on, b of them, where bytes of one value are set from `at` on: before those, among those, behind those
module _ (l : List ℕ) (at n v b m : ℕ) (room : at + n ≤ length l) where
  abbrev set_part : List ℕ
  set_part = take b (drop m (sets l at (replicate n v)))

  before : m + b ≤ at → set_part ≡ take b (drop m l)
  before h = rw (part_taken b m (sets l at (replicate n v)), take_sets (replicate n v) l at (m + b) h, part_taken b m l)

  behind : at + n ≤ m → set_part ≡ take b (drop m l)
  behind h = ap (take b) (drop_sets (replicate n v) l at m (rw (length-replicate n v) h))

  split : (i k : ℕ) → n ≡ i + (b + k) → m ≡ at + i → set_part ≡ replicate b v
  split i k e f =
      let front : List ℕ = take at l in
      let rest : List ℕ = drop (at + n) l in
      let size : length (replicate n v) ≡ n = length-replicate n v in
      let whole : replicate n v ≡ replicate i v ++ (replicate b v ++ replicate k v) = ap (λ (n : ℕ). replicate n v) e ∙ three i b k v in
      let form : sets l at (replicate n v) ≡ front ++ (replicate i v ++ (replicate b v ++ (replicate k v ++ rest))) =
      rw (
        sets-eq (replicate n v) l at (rw size room),
        size,
        whole,
        append_assoc front (replicate i v ++ (replicate b v ++ replicate k v)) rest,
        append_assoc (replicate i v) (replicate b v ++ replicate k v) rest,
        append_assoc (replicate b v) (replicate k v) rest,
      ) in
      let place : m ≡ length front + i = omega (arith, length-take-le at l (omega arith)) in
      rw (
        form,
        place,
        drop-append-add front (replicate i v ++ (replicate b v ++ (replicate k v ++ rest))) i,
        drop_at (replicate i v) (replicate b v ++ (replicate k v ++ rest)) i (length-replicate i v),
        take_at (replicate b v) (replicate k v ++ rest) b (length-replicate b v),
      )

  among : at ≤ m → m + b ≤ at + n → set_part ≡ replicate b v
  among low high = split (m - at) (n - (m - at + b)) (omega arith) (omega arith)

-- block k is F6 throughout if it is meant, else as it was
pub formatted_block : (number : ℕ) (meant : Blocks) (disc : List ℕ) (k : BlockAddress) → length disc ≡ disc_bytes number
    → meant.first.0 + meant.count ≤ (format_of number).blocks
    → let block : List ℕ → List ℕ = λ l. take (block_bytes number) (drop (place_of number k).0 l) in
    block (formatted number meant disc) ≡ cond (among_b meant k) (replicate (block_bytes number) filler) (block disc)
unfolding formatted place_of run_bytes disc_bytes
formatted_block number meant disc k long within =
    let b = block_bytes number in
    let first = meant.first.0 in
    let count = meant.count in
    let room : first * b + count * b ≤ length disc = rw (long, ← add-mul first count b) (mul-le-mul_right b within) in
    here b first count room (leb first k.0) refl (ltb k.0 (first + count)) refl
  where
    here : (b first count : ℕ) → first * b + count * b ≤ length disc → (s : Bool) → leb first k.0 ≡ s → (t : Bool) → ltb k.0 (first + count) ≡ t
        → take b (drop (k.0 * b) (sets disc (first * b) (replicate (count * b) filler)))
        ≡ cond (s && t) (replicate b filler) (take b (drop (k.0 * b) disc))
    here b first count room false q t f =
        let next = mul-le-mul_right b (leb-false first k.0 q) in
        before disc (first * b) (count * b) filler b (k.0 * b) room (omega (arith, suc-mul k.0 b, next))
    here b first count room true q false f =
        let past = mul-le-mul_right b (ltb-false k.0 (first + count) f) in
        behind disc (first * b) (count * b) filler b (k.0 * b) room (omega (arith, add-mul first count b, past))
    here b first count room true q true f =
        let low = mul-le-mul_right b (leb-true first k.0 q) in
        let high = mul-le-mul_right b (ltb-true k.0 (first + count) f) in
        among disc (first * b) (count * b) filler b (k.0 * b) room low (omega (arith, suc-mul k.0 b, add-mul first count b, high))
