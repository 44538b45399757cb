-- A feed of an open parameter list leaves the ledger in agreement. Assumes nothing.
use Rattle.std.specs.Prelude.{◌≡◌, ◌++◌, ◌+◌, ◌-◌, ◌<◌, ◌≤◌}
use Rattle.ground.specs.Kit.{refl, sym, ap, ◌∙◌, true, false, cond, List, [], flatten, ℕ, min, add-zero, arith, eq-eqb, ne_eqb, eqb, leb-true, length, length-append, take, drop, length-take-le, take_at, sets, sets-eq, eq_of_mul-eq-mul_right}
use Rattle.state.specs.declared.{Media.Media, Host.Host, ListAt.ListAt}
use Rattle.disc.specs.Formats.{format_of, block_bytes, run_bytes, disc_bytes}
use Rattle.disc.proofs.Discs.{block_holds}
use Rattle.state.specs.declared.Transfer.TheVariants.{Closed, ParameterList}
use Rattle.state.specs.Senses.{bad_list}
use Rattle.state.specs.States.{host_of, list_bytes, obeyed_of, moved_of, list_after}
use Rattle.sound.proofs.Keeping.{parts}
use Rattle.sound.proofs.Opened.{Lists}
use Rattle.house.specs.World.{World, in_state, in_disc}
use Rattle.house.specs.Theorems.{Ready}
use Rattle.lists.specs.Lists.{bad_list_b, meant_of, formatted}
use Rattle.lists.proofs.Formatting.{judged_by_twelve, meant_by_twelve}
use Rattle.moves.proofs.Spans.{may_list}
use Rattle.feeds.specs.Feeding.{list_gathers, list_goes}
use Rattle.feeds.proofs.ByTransfer.{by_list}
use Rattle.demands.specs.Ledger.{Listing, list, Ledger, listed, judges_list, fed_to, fed}
use Rattle.demands.proofs.BlockLists.{Even, even_length}
use Rattle.demands.proofs.Reformatting.{reformat_even, formats}
use Rattle.demands.proofs.Agreeing.{shut, closing, Agrees}

module _ (w : World) (l : Ledger) (a : Agrees w l) (ready : Ready w) (p : ListAt) (e : w.state.transfer ≡ ParameterList p) (piece : List ℕ) where
  abbrev number : ℕ
  number = w.state.media.disc

  open_list : Lists w.state.media p
  open_list = may_list w ready p e

  low : 0 < number
  low = omega (arith, open_list.is_in_lem)

  high : number ≤ 4
  high = leb-true number 4 (parts w.state ready.sound).low

  abbrev at : ℕ
  at = list_bytes - p.left

  abbrev n : ℕ
  n = min (length piece) p.left

  abbrev xs : List ℕ
  xs = take n piece

  -- what the ledger then has of the list, and the block buffer
  abbrev all : List ℕ
  all = take at w.buffer ++ xs

  abbrev buffer : List ℕ
  buffer = sets w.buffer at xs

  long : length xs ≡ n
  long = length-take-le n piece (omega arith)

  all_long : length all ≡ at + n
  all_long =
      length-append (take at w.buffer) xs ∙ omega (arith, long, length-take-le at w.buffer (omega (arith, ready.buffer)))

  held : take (at + n) buffer ≡ all
  held =
      rw (sets-eq xs w.buffer at (omega (arith, long, ready.buffer, open_list.few))) (take_at all (drop (at + length xs) w.buffer) (at + n) all_long)

  -- the ledger's next entry
  abbrev next : Ledger
  next = cond (eqb (length all) 12) (judges_list l p.track all) (listed l.media l.host l.stored p.track all)

  noted_so : fed l xs ≡ next
  noted_so = ap (λ (k : Listing). fed_to k l xs) (rw e at a.opened).listed

  goes : (n ≡ p.left → ⊥) → Agrees (in_state (list_gathers p w xs) (moved_of w.state (ParameterList (list_after p n)))) next
  unfolding moved_of
  goes some =
      let place : list_bytes - (p.left - n) ≡ at + n = omega (arith, open_list.few) in
      rw (ne_eqb (length all) 12 (λ z. some (omega (arith, all_long, z, open_list.few))))
      (record {
        media = a.media;
        host = a.host;
        disc = a.disc;
        opened =
            closing (block_bytes number) buffer w.disc l.stored (12 - length all) [] (list p.track all) (ParameterList (list_after p n))
            (λ z. absurd (some (omega (arith, z))))
            (record {
              taking = omega (arith, all_long, open_list.few);
              giving = refl;
              all = add-zero (p.left - n);
              gathered = tt;
              listed = ap (list p.track) (sym held ∙ ap (λ (m : ℕ). take m buffer) (sym place));
            });
      })

  module _ (whole : n ≡ p.left) where
    twelve : at + n ≡ 12
    twelve = omega (arith, whole, open_list.few)

    is_whole : eqb (length all) 12 ≡ true
    is_whole = eq-eqb (length all) 12 (all_long ∙ twelve)

    -- the list is the block buffer's first 12 bytes
    first-twelve : take 12 buffer ≡ all
    first-twelve = ap (λ (m : ℕ). take m buffer) (sym twelve) ∙ held

    -- the ledger judges it alike
    same-list : bad_list_b (format_of l.media.disc) all ≡ bad_list_b (format_of number) buffer
    same-list =
        ap (λ (m : Media). bad_list_b (format_of m.disc) all) a.media ∙ rw (← first-twelve) (judged_by_twelve (format_of number) buffer)

    refused : bad_list_b (format_of number) buffer ≡ true → Agrees (in_state (list_gathers p w xs) (obeyed_of w.state bad_list w.state.motor Closed)) next
    unfolding obeyed_of
    refused bad =
        rw (is_whole, same-list ∙ bad)
        (record {
          media = a.media;
          host = ap (λ (h : Host). host_of h.power h.change bad_list) a.host;
          disc = a.disc;
          opened = shut _ _ _ _;
        })

    -- as many blocks as the disc has
    all_blocks : Even (block_bytes number) l.stored.blocks → w.disc ≡ flatten l.stored.blocks → length l.stored.blocks ≡ (format_of number).blocks
    unfolding disc_bytes run_bytes
    all_blocks even same =
        let size = block_bytes number in
        let blocks = l.stored.blocks in
        eq_of_mul-eq-mul_right size (block_holds number low high) (length blocks) (format_of number).blocks
        (sym (even_length size blocks even) ∙ sym (ap length same) ∙ ready.disc)

    obeyed : bad_list_b (format_of number) buffer ≡ false
        → Agrees (in_disc (in_state (list_gathers p w xs) (moved_of w.state Closed)) (formatted number (meant_of (format_of number) p.track buffer) w.disc)) next
    unfolding moved_of
    obeyed good =
        let (even, same) = a.disc open_list.is_in_lem in
        let blocks = l.stored.blocks in
        let is : l.media.disc ≡ number = ap (λ (m : Media). m.disc) a.media in
        let format = formats number p.track all blocks low high open_list.track even (all_blocks even same) in
        let meant : meant_of (format_of number) p.track all ≡ meant_of (format_of number) p.track buffer =
        rw (← first-twelve) (meant_by_twelve (format_of number) buffer p.track) in
        rw (is_whole, same-list ∙ good)
        (record {
          media = a.media;
          host = a.host;
          disc = λ _. rw (is, same, ← meant) (reformat_even (block_bytes number) _ 0 blocks even, sym format);
          opened = shut _ _ _ _;
        })

  pub agrees_listed : Agrees (list_goes p n (list_gathers p w xs)) (fed l xs)
  agrees_listed = rw noted_so (by_list p n (list_gathers p w xs) (λ u. Agrees u next) goes refused obeyed)
