-- Data lent whole or cut anywhere are moved alike: any lending moves its first byte as a lending of that byte alone does.
-- Assumes nothing.
use Rattle.std.specs.Prelude.{◌≡◌, ◌∷◌, ◌++◌, ◌+◌, ◌-◌, ◌<◌}
use Rattle.ground.specs.Kit.{sym, ap, subst, ◌∙◌, List, [], flatten, append_assoc, append-nil, ℕ, min, zero-add, add_assoc, arith, ne_eqb}
use Rattle.state.specs.States.{closed_at_zero, moved_of}
use Rattle.state.specs.declared.Transfer.TheVariants.{Answer, Read, Write}
use Rattle.sound.specs.Soundness.{open_sound_b}
use Rattle.sound.proofs.Opened.{in_buffer_lem, on_disc, writes as sound-write}
use Rattle.house.specs.World.{World}
use Rattle.house.specs.Theorems.{Ready}
use Rattle.moves.proofs.Spans.{open_sound}
use Rattle.feeds.proofs.ByTransfer.{Feeding, idles, writes, lists, feeding, feeds as fed}
use Rattle.pulls.proofs.ByTransfer.{Pulling, idles as unpulled, answers, reads, pulling, pulls as pulled}
use Rattle.drive.specs.Calls.{Call, Feed, Pull}
use Rattle.demands.specs.Device.{Device}
use Rattle.demands.specs.Uncut.{Lent, lent, lend_all, CutAnywhere}
use Rattle.demands.proofs.CutLists.{FirstApart, list_nothing, list_first}
use Rattle.demands.proofs.Serving.{
  lend_one,
  join,
  Kind,
  moving,
  Serves,
  unmoved,
  lends,
  first_moves,
  Puts,
  Feeds,
  feed_served,
  Gives,
  Pulls,
  read_served,
  answer_served,
}

-- ---- what a lending finds

-- nothing that it serves, or an open transfer, which has at least one byte left; or a list, which is judged with its last
pub data Lending (d : Device) (way : List ℕ → Call) (w : World) : Type 0 where
  idle : ((x : List ℕ) → lend_one d way w x ≡ lent 0 x w) → Lending d way w
  busy : {k : Kind} → Serves d way k → (at left : ℕ) → 0 < left → w.state.transfer ≡ k.transfer at left → Lending d way w
  judging : lend_one d way w [] ≡ lent 0 [] w → FirstApart d way w → Lending d way w

module _ (w : World) (r : Ready w) where
  -- a feed serves a write
  feed_finds : {d : Device} {puts : Puts} → Feeds d puts → Feeding w.state.transfer → Lending d Feed w
  feed_finds f (idles _ same) = idle (λ x. f.unfed w x r (fed w x r ∙ same w x))
  feed_finds f (writes p e) =
      let o = sound-write w.state.media p (open_sound w r (Write p) e) in
      busy (feed_served f) p.at.0 p.left o.on.some e
  feed_finds f (lists p e) = judging (list_nothing f w r p e) (list_first f w r p e)

  -- a pull serves a read and an answer
  pull_finds : {d : Device} {reads answers : Gives} → Pulls d reads answers → Pulling w.state.transfer → Lending d Pull w
  unfolding open_sound_b
  pull_finds f (unpulled _ same) = idle (λ x. f.unpulled w x r (pulled w x r ∙ same w x))
  pull_finds f (answers p e) =
      let i = in_buffer_lem w.state.media p (open_sound w r (Answer p) e) in
      busy (answer_served f) p.at p.left i.some e
  pull_finds f (reads p e) =
      let o = on_disc w.state.media.disc p (open_sound w r (Read p) e) in
      busy (read_served f) p.at.0 p.left o.some e

-- ---- cut after the first byte

-- two lendings that are known, one after the other
then : (d : Device) (way : List ℕ → Call) (w : World) (x y : List ℕ) (one two : Lent) → lend_one d way w x ≡ one
    → lend_one d way one.world y ≡ two → join (lend_one d way w x) (lend_one d way (lend_one d way w x).world y) ≡ join one two
then d way w x y one two e f = ap (λ (l : Lent). join l (lend_one d way l.world y)) e ∙ ap (join one) f

module _ {d : Device} {way : List ℕ → Call} (w : World) (r : Ready w) where
  -- what is open has not closed
  stands : {k : Kind} → Serves d way k → (at left : ℕ) → 0 < left → w.state.transfer ≡ k.transfer at left
      → w.state.transfer ≡ closed_at_zero (k.transfer at left)
  stands s at left some e = e ∙ rw (s.left at left, ne_eqb left 0 (λ z. omega arith))

  -- to lend nothing changes nothing
  nothing : Lending d way w → lend_one d way w [] ≡ lent 0 [] w
  nothing (idle same) = same []
  nothing (judging none _) = none
  nothing (busy s at left some e) =
      let st = stands s at left some e in
      lends s w at left st [] r ∙ unmoved s w at left st [] (omega arith)

  -- the first byte and then the others
  first : Lending d way w → FirstApart d way w
  unfolding moved_of
  first (judging _ apart) x xs r₁ = apart x xs r₁
  first (idle same) x xs r₁ = same (x ∷ xs) ∙ sym (then d way w (x ∷ []) xs _ _ (same (x ∷ [])) (same xs))
  first (busy {k} s at left some e) x xs r₁ =
      let st = stands s at left some e in
      let one = lends s w at left st (x ∷ []) r in
      let n : min 1 left ≡ 1 = omega arith in
      let v = (moving k w at left (x ∷ [])).world in
      let two = lends s v (at + 1) (left - 1) (rw n (s.goes.stands w.state _ (at + 1) (left - 1))) xs (subst (λ (l : Lent). Ready l.world) one r₁) in
      lends s w at left st (x ∷ xs) r ∙ first_moves s w at left x xs some ∙ sym (then d way w (x ∷ []) xs _ _ one two)

-- ---- cut anywhere

-- a way of lending: a ready world stays ready, and is found idle or busy
pub record Way (d : Device) (way : List ℕ → Call) : Type 0 where
  pub ready : (w : World) (x : List ℕ) → Ready w → Ready (d.call w (way x)).world
  pub finds : (w : World) → Ready w → Lending d way w

module _ {d : Device} {way : List ℕ → Call} (y : Way d way) where
  -- pieces after a lending
  abbrev onward : Lent → List (List ℕ) → Lent
  onward l xs = join l (lend_all d way l.world xs)

  -- they may follow two lendings or the second of them
  onward_join : (one two : Lent) (xs : List (List ℕ)) → onward (join one two) xs ≡ join one (onward two xs)
  onward_join one two xs =
      let rest = lend_all d way two.world xs in
      rw (add_assoc one.count two.count rest.count, append_assoc one.out two.out rest.out)

  -- byte by byte a piece joins the pieces after it
  piece_joins : (w : World) (x : List ℕ) (xs : List (List ℕ))
      → ((v : World) → Ready v → lend_all d way v xs ≡ lend_one d way v (flatten xs)) → Ready w
      → lend_all d way w (x ∷ xs) ≡ lend_one d way w (x ++ flatten xs)
  piece_joins w [] xs rest r =
      ap (λ (l : Lent). onward l xs) (nothing w r (y.finds w r)) ∙ rw (zero-add (lend_all d way w xs).count) (rest w r)
  piece_joins w (x ∷ xs) ys rest r =
      let one = lend_one d way w (x ∷ []) in
      let r₁ = y.ready w (x ∷ []) r in
      let first_of = first w r (y.finds w r) x in
      ap (λ (l : Lent). onward l ys) (first_of xs r₁)
      ∙ onward_join one (lend_one d way one.world xs) ys
      ∙ ap (join one) (piece_joins one.world xs ys rest r₁)
      ∙ sym (first_of (xs ++ flatten ys) r₁)

  -- all pieces in one call
  pub lent_whole : (w : World) (pieces : List (List ℕ)) → Ready w → lend_all d way w pieces ≡ lend_one d way w (flatten pieces)
  unfolding flatten
  lent_whole w [] r = sym (nothing w r (y.finds w r))
  lent_whole w (x ∷ xs) r = piece_joins w x xs (λ v. lent_whole v xs) r

  -- which is how they are lent whole
  whole_once : (w : World) (x : List ℕ) → Ready w → lend_all d way w (x ∷ []) ≡ lend_one d way w x
  unfolding flatten
  whole_once w x r = rw (append-nil x) at (lent_whole w (x ∷ []) r)

  pub cut_anywhere : CutAnywhere d way
  cut_anywhere w pieces r = lent_whole w _ r ∙ sym (whole_once w _ r)

-- ---- a feed and a pull

pub feed_way : {d : Device} {puts : Puts} → Feeds d puts → Way d Feed
feed_way f = record { ready = f.ready; finds = λ w r. feed_finds w r f (feeding w.state.transfer) }

pub pull_way : {d : Device} {reads answers : Gives} → Pulls d reads answers → Way d Pull
pull_way f = record { ready = f.ready; finds = λ w r. pull_finds w r f (pulling w.state.transfer) }
