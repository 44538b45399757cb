-- Which lists are good, which blocks they mean, and what a feed makes of an open list. Assumes nothing.
use Rattle.std.specs.Prelude.{◌≡◌, ◌||◌, ◌+◌, ◌-◌, ◌*◌, ◌/◌, ◌%◌, ◌<◌}
use Rattle.ground.specs.Kit.{refl, ap, ◌∙◌, true, false, true≢false, not, List, ℕ, min, arith, eqb, leb, ltb, eq-eqb, ne_eqb, eqb-true, eqb-false, not-false, le-leb, lt-ltb, ltb-true, zero-add, length, take}
use Rattle.disc.specs.declared.{Format.Format}
use Rattle.state.specs.declared.{ListAt.ListAt}
use Rattle.ground.specs.Bytes.{byte_at, word, long as long4}
use Rattle.disc.specs.Formats.{format_of}
use Rattle.disc.proofs.Discs.{few_blocks, small_blocks, track_holds}
use Rattle.ground.proofs.Truth.{both, neither}
use Rattle.state.specs.States.{obeyed_of, moved_of}
use Rattle.state.specs.declared.Transfer.TheVariants.{ParameterList}
use Rattle.lists.specs.Lists.{immediate_b, other_format_b, bad_list_b, meant_of, among_b}
use Rattle.lists.proofs.Formatting.{judged_by_twelve, meant_by_twelve, by_meant, meant_within, among_side, formatted_block}
use Rattle.house.specs.World.{World, reply}
use Rattle.house.specs.Theorems.{Ready}
use Rattle.moves.proofs.Spans.{may_list}
use Rattle.feeds.specs.Feeding.{list_gathers, list_fed}
use Rattle.feeds.proofs.ByTransfer.{by_list, feeds_list}
use Rattle.drive.proofs.TwelveBytes.{twelve}
use Rattle.drive.specs.Formatting.{good_list, GoodLists, MeantOnDisc, MeantBlocks, FedList, FedLists}

pub meant_on_disc : MeantOnDisc
meant_on_disc number track list k on e =
    let m = meant_of (format_of number) track list in
    omega (arith, ltb-true k.0 (m.first.0 + m.count) (both (leb m.first.0 k.0) (ltb k.0 (m.first.0 + m.count)) e).1, meant_within number track list on)

pub meant_blocks : MeantBlocks
meant_blocks number track list k low high =
    let f = format_of number in
    let side = track * 2 + byte_at list 1 % 2 in (
      λ single.
          by_meant f track list (λ m. among_b m k ≡ eqb (k.0 / f.sectors) side) (λ _. among_side f.sectors side k.0 (track_holds number low high))
          (λ none. absurd (eqb-false (byte_at list 1 / 16 % 2) 1 none single)),
      λ whole on.
          by_meant f track list (λ m. among_b m k ≡ true)
          (λ single. absurd (omega (arith, eqb-true (byte_at list 1 / 16 % 2) 1 single, whole)))
          (λ _. rw (zero-add f.blocks, lt-ltb k.0 f.blocks on, le-leb 0 k.0 (omega arith))),
    )

-- ---- good lists

module _ (number : ℕ) (list : List ℕ) (long : length list ≡ 12) (bytes : (i : ℕ) → byte_at list i < 256) where
  abbrev f : Format
  f = format_of number

  abbrev good : List ℕ
  good = good_list number (byte_at list 0) (byte_at list 1) (byte_at list 8)

  -- byte by byte
  good_bytes : bad_list_b f list ≡ false → (list ≡ good) × (byte_at list 1 / 2 % 2 ≡ 0)
  unfolding bad_list_b
  good_bytes ok =
      let b : ℕ → ℕ = byte_at list in
      let defects = not (eqb (word (b 2) (b 3)) 8) in
      let blocks = long4 (b 4) (b 5) (b 6) (b 7) in
      let size = long4 0 (b 9) (b 10) (b 11) in
      let (di, other) = neither (defects || immediate_b list) (other_format_b f list) ok in
      let (d, i) = neither defects (immediate_b list) di in
      let (n, s) = neither (not (eqb blocks f.blocks)) (not (eqb size f.size)) other in
      let e₁ = eqb-true (word (b 2) (b 3)) 8 (not-false (eqb (word (b 2) (b 3)) 8) d) in
      let e₂ = eqb-true blocks f.blocks (not-false (eqb blocks f.blocks) n) in
      let e₃ = eqb-true size f.size (not-false (eqb size f.size) s) in (
        twelve list good long refl
            refl
            refl
            (omega (arith, e₁))
            (omega (arith, e₁))
            (omega (arith, e₂, bytes 4, bytes 5, bytes 6, bytes 7))
            (omega (arith, e₂, bytes 4, bytes 5, bytes 6, bytes 7))
            (omega (arith, e₂, bytes 4, bytes 5, bytes 6, bytes 7))
            (omega (arith, e₂, bytes 4, bytes 5, bytes 6, bytes 7))
            refl
            (omega (arith, e₃, bytes 9, bytes 10, bytes 11))
            (omega (arith, e₃, bytes 9, bytes 10, bytes 11))
            (omega (arith, e₃, bytes 9, bytes 10, bytes 11)),
        omega (arith, eqb-false (b 1 / 2 % 2) 1 i),
      )

  good_judged : list ≡ good → byte_at list 1 / 2 % 2 ≡ 0 → bad_list_b f list ≡ false
  unfolding bad_list_b
  good_judged e immediate =
      let b : ℕ → ℕ = byte_at list in
      let same : (i : ℕ) → b i ≡ byte_at good i = λ i. ap (λ (l : List ℕ). byte_at l i) e in
      rw (
        eq-eqb (word (b 2) (b 3)) 8 (omega (arith, same 2, same 3)),
        ne_eqb (b 1 / 2 % 2) 1 (λ z. omega (arith, immediate, z)),
        eq-eqb (long4 (b 4) (b 5) (b 6) (b 7)) f.blocks (omega (arith, same 4, same 5, same 6, same 7, few_blocks number)),
        eq-eqb (long4 0 (b 9) (b 10) (b 11)) f.size (omega (arith, same 9, same 10, same 11, small_blocks number)),
      )

pub good_lists : GoodLists
good_lists number list long bytes = (good_bytes number list long bytes, good_judged number list long bytes)

-- ---- a feed

module _ (w : World) (p : ListAt) (piece : List ℕ) (r : Ready w) (e : w.state.transfer ≡ ParameterList p) where
  fed : FedList w p piece (list_fed p w piece)
  unfolding obeyed_of moved_of
  fed =
      let n = min (length piece) p.left in
      let number = w.state.media.disc in
      let f = format_of number in
      let gathered = (list_gathers p w (take n piece)).buffer in
      let o = may_list w r p e in
      by_list p n (list_gathers p w (take n piece)) (λ v. FedList w p piece (reply 0 false n piece v))
      (λ part.
      let not-whole = ne_eqb n p.left part in
      record {
        count = refl;
        buffer = refl;
        state = rw (not-whole, ne_eqb (p.left - n) 0 (λ z. part (omega (arith, z))));
        blocks = λ k. rw not-whole;
        unchanged = λ _. refl;
      })
      (λ whole bad.
      let is_whole = eq-eqb n p.left whole in
      let judged = judged_by_twelve f gathered ∙ bad in
      record { count = refl; buffer = refl; state = rw (is_whole, judged); blocks = λ k. rw (is_whole, judged); unchanged = λ _. refl })
      (λ whole good.
      let is_whole = eq-eqb n p.left whole in
      let judged = judged_by_twelve f gathered ∙ good in
      let meant = meant_of f p.track gathered in
      record {
        count = refl;
        buffer = refl;
        state = rw (is_whole, judged);
        blocks = λ k.
            rw (is_whole, judged, meant_by_twelve f gathered p.track)
            (formatted_block number meant w.disc k r.disc (meant_within number p.track gathered o.track));
        unchanged = λ no. absurd (true≢false (rw (is_whole, judged) at no));
      })

pub fed_lists : FedLists
fed_lists w p piece r e = rw (← feeds_list w piece r p e) (fed w p piece r e)
