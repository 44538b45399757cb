-- A feed and a pull leave the ledger in agreement, and their counts and bytes are the ledger's. Assumes nothing.
use Rattle.std.specs.Prelude.{◌≡◌, ◌++◌, ◌+◌, ◌-◌, ◌≤◌}
use Rattle.ground.specs.Kit.{refl, sym, ap, subst, ◌∙◌, true, false, List, [], flatten, ℕ, min, sub-zero, arith, length, take, drop, length-drop, length-take-le, take-add, drop_at, take-take, drop-drop}
use Rattle.state.specs.declared.{Media.Media, Host.Host, AnswerAt.AnswerAt, DiscAt.DiscAt, ListAt.ListAt, Transfer.Transfer}
use Rattle.disc.specs.Formats.{block_bytes}
use Rattle.state.specs.declared.Transfer.TheVariants.{Closed, Answer, Read, Write, ParameterList}
use Rattle.state.specs.States.{left_of, moved_of, answer_after, disc_after}
use Rattle.sound.specs.Soundness.{open_sound_b}
use Rattle.sound.proofs.Opened.{lists}
use Rattle.house.specs.World.{World, Reply, reply, heard}
use Rattle.house.specs.Theorems.{Ready}
use Rattle.moves.specs.Replies.{idle}
use Rattle.moves.proofs.Spans.{open_sound, may_answer, may_read, may_write}
use Rattle.feeds.specs.Feeding.{Writing, writing, feed_bytes, written, takes, write_fed, list_fed}
use Rattle.feeds.proofs.Feeding.{feed_at}
use Rattle.feeds.proofs.ByTransfer.{by_feeding}
use Rattle.pulls.specs.Pulling.{answer_pulled, read_pulled, gives}
use Rattle.pulls.proofs.ByTransfer.{by_pulling}
use Rattle.drive.specs.Calls.{Call, Feed, Pull}
use Rattle.drive.proofs.Calling.{accepted_of}
use Rattle.demands.specs.Ledger.{Store, Listing, none, Ledger, listed_in, gather, fed_to, fed, noted}
use Rattle.demands.specs.Faithful.{foretells}
use Rattle.demands.proofs.BlockLists.{Even}
use Rattle.demands.proofs.Gathering.{Gathered, gathered}
use Rattle.demands.proofs.Agreeing.{Opened, closing, Agrees}
use Rattle.demands.proofs.Listed.{agrees_listed}

-- n bytes further on in what is to come from a source
further : (source : List ℕ) (at left n : ℕ) → n ≤ left → at + left ≤ length source
    → drop n (take left (drop at source)) ≡ take (left - n) (drop (at + n) source)
further source at left n h within =
    let rest = drop at source in
    let l = length-drop at source in
    let e : left ≡ n + (left - n) = omega arith in
    ap (λ (m : ℕ). drop n (take m rest)) e
    ∙ rw (take-add n (left - n) rest, drop_at (take n rest) (take (left - n) (drop n rest)) n (length-take-le n rest (omega arith)), drop-drop n at source)

module _ (w : World) (l : Ledger) (a : Agrees w l) (ready : Ready w) where
  abbrev b : ℕ
  b = block_bytes w.state.media.disc

  -- what a call leaves agrees with what is noted of it, and what is heard of it is foretold
  abbrev pub AccountsFor : Call → Reply → Type 0
  AccountsFor c r = Agrees r.world (noted l c r.heard) × (r.heard ≡ foretells l c)

  -- the same but for what is stored and what is open
  abbrev with : Store → ℕ → List ℕ → Listing → Ledger
  with stored left coming listing =
      record { media = l.media; host = l.host; stored = stored; left = left; coming = coming; listing = listing }

  by_moving : (t : Transfer) (v : Writing) (stored : Store) (left : ℕ) (coming : List ℕ) (listing : Listing)
      → ((w.state.media.disc ≡ 0 → ⊥) → Even b stored.blocks × (v.disc ≡ flatten stored.blocks))
      → (left_of t ≡ 0 → listing ≡ none) → Opened b v.buffer v.disc stored left coming listing t
      → Agrees (written w (moved_of w.state t) v) (with stored left coming listing)
  unfolding moved_of
  by_moving t v stored left coming listing held over o =
      record { media = a.media; host = a.host; disc = held; opened = closing b v.buffer v.disc stored left coming listing t over o }

  -- ---- a feed

  -- without a list bytes are gathered to blocks
  fed_blocks : (xs : List ℕ) → l.listing ≡ none → fed l xs ≡ with (gather b l.stored xs) (l.left - length xs) l.coming none
  fed_blocks xs e =
      ap (λ (k : Listing). fed_to k l xs) e
      ∙ ap (λ (m : Media). with (gather (block_bytes m.disc) l.stored xs) (l.left - length xs) l.coming none) a.media

  -- what agrees with the ledger afterwards is foretold
  takes_so : (piece : List ℕ) (n : ℕ) (u : World) → n ≡ min (length piece) l.left → Agrees u (fed l (take n piece))
      → AccountsFor (Feed piece) (reply 0 false n piece u)
  unfolding noted
  takes_so piece n u count agrees =
      (agrees, ap (λ (h : Host). heard 0 false h.sense n piece) (sym agrees.host) ∙ ap (λ (m : ℕ). heard 0 false (fed l (take m piece)).host.sense m piece) count)

  -- a transfer that takes nothing is no list
  unlisted : (t : Transfer) → open_sound_b w.state.media t ≡ true → takes t ≡ 0 → listed_in w.buffer t ≡ none
  unlisted Closed s z = refl
  unlisted (Answer p) s z = refl
  unlisted (Read p) s z = refl
  unlisted (Write p) s z = refl
  unlisted (ParameterList p) s z = absurd (omega (arith, (lists w.state.media p s).some, z))

  pub agrees_fed : (piece : List ℕ) → AccountsFor (Feed piece) (accepted_of w (Feed piece))
  agrees_fed piece = by_feeding w piece (AccountsFor (Feed piece)) idles writes (λ p e. list-fed p e)
    where
      writes : (p : DiscAt) → w.state.transfer ≡ Write p → AccountsFor (Feed piece) (write_fed p w piece)
      writes p e =
          let o = rw e at a.opened in
          let n = min (length piece) p.left in
          let xs = take n piece in
          let from = writing p.at w.buffer w.disc in
          let v = feed_bytes b from xs in
          let long : length xs ≡ n = length-take-le n piece (omega arith) in
          let place : v.at.0 ≡ p.at.0 + n = feed_at b from xs ∙ ap (λ (m : ℕ). p.at.0 + m) long in
          let g = gathered b xs l.stored from o.gathered (omega (arith, long, (may_write w ready p e).span.within)) in
          let still = subst (λ (at : ℕ). Gathered b (gather b l.stored xs) (writing (record { 0 = at }) v.buffer v.disc)) place g in
          takes_so piece n _ (rw o.taking)
          (rw (fed_blocks xs o.listed, long)
          (by_moving (Write (disc_after p n)) v (gather b l.stored xs) (l.left - n) l.coming none (λ _. (g.even, g.disc)) (λ _. refl)
          (record {
            taking = ap (λ (m : ℕ). m - n) o.taking;
            giving = o.giving;
            all = omega arith;
            gathered = still;
            listed = refl;
          })))

      idles : takes w.state.transfer ≡ 0 → AccountsFor (Feed piece) (idle w piece)
      idles z =
          let o = a.opened in
          let same = o.listed ∙ unlisted w.state.transfer (open_sound w ready w.state.transfer refl) z in
          takes_so piece 0 w (omega (arith, o.taking, z)) (rw (fed_blocks [] same, sub-zero l.left, ← same) a)

      list-fed : (p : ListAt) → w.state.transfer ≡ ParameterList p → AccountsFor (Feed piece) (list_fed p w piece)
      list-fed p e = let o = rw e at a.opened in takes_so piece _ _ (rw o.taking) (agrees_listed w l a ready p e piece)

  -- ---- a pull

  -- from a source, the block buffer or the disc: what is left of it, and what the caller's buffer then has
  record FromSource (source out : List ℕ) (at left : ℕ) : Type 0 where
    rest : drop (min (length out) left) l.coming ≡ take (left - min (length out) left) (drop (at + min (length out) left) source)
    long : length (take (left - min (length out) left) (drop (at + min (length out) left) source)) ≡ left - min (length out) left
    hears :
        let n = min (length out) left in
        heard 0 false w.state.host.sense n (take n (drop at source) ++ drop n out) ≡ foretells l (Pull out)

  from_source : (source out : List ℕ) (at left : ℕ) → at + left ≤ length source → l.coming ≡ take left (drop at source) → FromSource source out at left
  from_source source out at left within e =
      let n = min (length out) left in
      let whole : length l.coming ≡ left = rw e (length-take-le left (drop at source) (simp length-drop (omega arith))) in
      record {
        rest = rw e (further source at left n (omega arith) within);
        long = length-take-le (left - n) (drop (at + n) source) (simp length-drop (omega arith));
        hears = rw (whole, a.host, e, take-take n left (drop at source) (omega arith));
      }

  pub agrees_pulled : (out : List ℕ) → AccountsFor (Pull out) (accepted_of w (Pull out))
  unfolding noted moved_of
  agrees_pulled out = by_pulling w out (AccountsFor (Pull out)) idles answers reads
    where
      idles : gives w.buffer w.disc w.state.transfer ≡ [] → AccountsFor (Pull out) (idle w out)
      idles z =
          let empty : l.coming ≡ [] = a.opened.giving ∙ z in
          let none : min (length out) 0 ≡ 0 = omega arith in
          (a, rw (empty, none, a.host))

      answers : (p : AnswerAt) → w.state.transfer ≡ Answer p → AccountsFor (Pull out) (answer_pulled p w out)
      answers p e =
          let o = rw e at a.opened in
          let n = min (length out) p.left in
          let f = from_source w.buffer out p.at p.left (may_answer w ready p e).within o.giving in (
            by_moving (Answer (answer_after p n)) (writing (record { 0 = 0 }) w.buffer w.disc) l.stored l.left (drop n l.coming) l.listing a.disc (λ _. o.listed)
                (record { taking = o.taking; giving = f.rest; all = omega (arith, f.long); gathered = tt; listed = o.listed }),
            f.hears,
          )

      reads : (p : DiscAt) → w.state.transfer ≡ Read p → AccountsFor (Pull out) (read_pulled p w out)
      reads p e =
          let o = rw e at a.opened in
          let n = min (length out) p.left in
          let f = from_source w.disc out p.at.0 p.left (may_read w ready p e).within o.giving in (
            by_moving (Read (disc_after p n)) (writing (record { 0 = 0 }) w.buffer w.disc) l.stored l.left (drop n l.coming) l.listing a.disc (λ _. o.listed)
                (record { taking = o.taking; giving = f.rest; all = omega (arith, f.long); gathered = tt; listed = o.listed }),
            f.hears,
          )
