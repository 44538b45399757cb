-- What soundness says of an open transfer, in numbers, and back. Assumes nothing.
use Rattle.std.specs.Prelude.{◌≡◌, ◌&&◌, ◌+◌, ◌%◌, ◌≤◌, ◌<◌}
use Rattle.ground.specs.Kit.{refl, true, not, ℕ, arith, eqb-true, eqb-false, leb-true, ltb-true, ne_eqb, le-leb, lt-ltb, not-true, eqb, leb, ltb}
use Rattle.state.specs.declared.{AnswerAt.AnswerAt, DiscAt.DiscAt, ListAt.ListAt, Media.Media, Transfer.Transfer}
use Rattle.disc.specs.Formats.{format_of, buffer_bytes, block_bytes, disc_bytes}
use Rattle.ground.proofs.Truth.{both}
use Rattle.state.specs.declared.Transfer.TheVariants.{Closed, Answer, Read, Write, ParameterList}
use Rattle.state.specs.States.{list_bytes, left_of, is_open_b}
use Rattle.sound.specs.Soundness.{on_disc_b, ends_on_block_b, list_sound_b, open_sound_b}

-- "an answer: within the block buffer"
pub record InBuffer (p : AnswerAt) : Type 0 where
  pub some : 0 < p.left
  pub within : p.at + p.left ≤ buffer_bytes

-- "at least one byte left and ends within its disc"
pub record OnDisc (number : ℕ) (p : DiscAt) : Type 0 where
  pub is_in_lem : number ≡ 0 → ⊥
  pub some : 0 < p.left
  pub within : p.at.0 + p.left ≤ disc_bytes number

-- "a write ends on a block boundary"
pub record EndsOnBlock (number : ℕ) (p : DiscAt) : Type 0 where
  pub blocks : block_bytes number ≡ 0 → ⊥
  pub whole : (p.at.0 + p.left) % block_bytes number ≡ 0

module _ (m : Media) (p : AnswerAt) where
  pub in_buffer_lem : open_sound_b m (Answer p) ≡ true → InBuffer p
  unfolding open_sound_b
  in_buffer_lem e =
      let (some, within) = both (ltb 0 p.left) (leb (p.at + p.left) buffer_bytes) e in
      record { some = ltb-true 0 p.left some; within = leb-true (p.at + p.left) buffer_bytes within }

  pub answer_sound : InBuffer p → open_sound_b m (Answer p) ≡ true
  unfolding open_sound_b
  answer_sound i = rw (lt-ltb 0 p.left i.some, le-leb (p.at + p.left) buffer_bytes i.within)

module _ (number : ℕ) (p : DiscAt) where
  pub on_disc : on_disc_b number p ≡ true → OnDisc number p
  unfolding on_disc_b
  on_disc e =
      let (a, within) = both (not (eqb number 0) && ltb 0 p.left) (leb (p.at.0 + p.left) (disc_bytes number)) e in
      let (is_in_lem, some) = both (not (eqb number 0)) (ltb 0 p.left) a in
      record {
        is_in_lem = eqb-false number 0 (not-true (eqb number 0) is_in_lem);
        some = ltb-true 0 p.left some;
        within = leb-true (p.at.0 + p.left) (disc_bytes number) within;
      }

  pub on_disc_sound : OnDisc number p → on_disc_b number p ≡ true
  unfolding on_disc_b
  on_disc_sound d =
      rw (ne_eqb number 0 d.is_in_lem, lt-ltb 0 p.left d.some, le-leb (p.at.0 + p.left) (disc_bytes number) d.within)

  pub ends_on_block : ends_on_block_b number p ≡ true → EndsOnBlock number p
  unfolding ends_on_block_b
  ends_on_block e =
      let (blocks, whole) = both (not (eqb (block_bytes number) 0)) (eqb ((p.at.0 + p.left) % block_bytes number) 0) e in
      record {
        blocks = eqb-false (block_bytes number) 0 (not-true (eqb (block_bytes number) 0) blocks);
        whole = eqb-true ((p.at.0 + p.left) % block_bytes number) 0 whole;
      }

  pub ends_sound : EndsOnBlock number p → ends_on_block_b number p ≡ true
  unfolding ends_on_block_b
  ends_sound e = rw (ne_eqb (block_bytes number) 0 e.blocks, e.whole)

-- a write: on its disc, to the end of a block, unprotected
pub record Writes (m : Media) (p : DiscAt) : Type 0 where
  pub on : OnDisc m.disc p
  pub ends : EndsOnBlock m.disc p
  pub bare : not m.protected ≡ true

module _ (m : Media) (p : DiscAt) where
  pub writes : open_sound_b m (Write p) ≡ true → Writes m p
  unfolding open_sound_b
  writes e =
      let (a, bare) = both (on_disc_b m.disc p && ends_on_block_b m.disc p) (not m.protected) e in
      let (on, ends) = both (on_disc_b m.disc p) (ends_on_block_b m.disc p) a in
      record { on = on_disc m.disc p on; ends = ends_on_block m.disc p ends; bare = bare }

  pub writes_sound : Writes m p → open_sound_b m (Write p) ≡ true
  unfolding open_sound_b
  writes_sound w = rw (on_disc_sound m.disc p w.on, ends_sound m.disc p w.ends, w.bare)

-- a list: 1 to 12 bytes left, its track on the disc, which is unprotected
pub record Lists (m : Media) (p : ListAt) : Type 0 where
  pub some : 0 < p.left
  pub few : p.left ≤ list_bytes
  pub track : p.track < (format_of m.disc).cylinders
  pub bare : not m.protected ≡ true
  pub is_in_lem : m.disc ≡ 0 → ⊥

module _ (m : Media) (p : ListAt) where
  pub lists : open_sound_b m (ParameterList p) ≡ true → Lists m p
  unfolding open_sound_b list_sound_b
  lists e =
      let some = ltb 0 p.left in
      let few = leb p.left list_bytes in
      let track = ltb p.track (format_of m.disc).cylinders in
      let bare = not m.protected in
      let (sftb, i) = both (some && few && track && bare) (not (eqb m.disc 0)) e in
      let (sft, b) = both (some && few && track) bare sftb in
      let (sf, t) = both (some && few) track sft in
      let (s, f) = both some few sf in
      record {
        some = ltb-true 0 p.left s;
        few = leb-true p.left list_bytes f;
        track = ltb-true p.track (format_of m.disc).cylinders t;
        bare = b;
        is_in_lem = eqb-false m.disc 0 (not-true (eqb m.disc 0) i);
      }

  pub lists_sound : Lists m p → open_sound_b m (ParameterList p) ≡ true
  unfolding open_sound_b list_sound_b
  lists_sound l =
      rw (
        lt-ltb 0 p.left l.some,
        le-leb p.left list_bytes l.few,
        lt-ltb p.track (format_of m.disc).cylinders l.track,
        l.bare,
        ne_eqb m.disc 0 l.is_in_lem,
      )

some : (n : ℕ) → 0 < n → true ≡ not (eqb n 0)
some n h = rw (ne_eqb n 0 (λ z. omega arith))

-- whatever is open has bytes left, and what isn't has none
pub open_left : (m : Media) (t : Transfer) → open_sound_b m t ≡ true → is_open_b t ≡ not (eqb (left_of t) 0)
unfolding open_sound_b
open_left m Closed e = refl
open_left m (Answer p) e = some p.left (in_buffer_lem m p e).some
open_left m (Read p) e = some p.left (on_disc m.disc p e).some
open_left m (Write p) e = some p.left (writes m p e).on.some
open_left m (ParameterList p) e = some p.left (lists m p e).some

-- without a disc nothing but an answer is open
pub data Discless (t : Transfer) : Type 0 where
  shut : t ≡ Closed → Discless t
  answers : (p : AnswerAt) → t ≡ Answer p → Discless t

pub discless : (m : Media) → m.disc ≡ 0 → (t : Transfer) → open_sound_b m t ≡ true → Discless t
unfolding open_sound_b
discless m none Closed e = shut refl
discless m none (Answer p) e = answers p refl
discless m none (Read p) e = absurd ((on_disc m.disc p e).is_in_lem none)
discless m none (Write p) e = absurd ((writes m p e).on.is_in_lem none)
discless m none (ParameterList p) e = absurd ((lists m p e).is_in_lem none)
