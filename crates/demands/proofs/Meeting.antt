-- The ledger that is read off a ready world agrees with it. Assumes nothing.
use Rattle.std.specs.Prelude.{◌≡◌, ◌+◌, ◌≤◌, ◌%◌}
use Rattle.ground.specs.Kit.{refl, sym, List, flatten, ℕ, add-zero, arith, div-add-mod', mod-lt, length, take, drop, length-drop, length-take-le}
use Rattle.state.specs.declared.{Transfer.Transfer}
use Rattle.disc.specs.Formats.{format_of, block_bytes, run_bytes, disc_bytes}
use Rattle.disc.proofs.Discs.{block_fits, block_holds}
use Rattle.state.specs.declared.Transfer.TheVariants.{Closed, Answer, Read, Write, ParameterList}
use Rattle.state.specs.States.{left_of}
use Rattle.house.specs.World.{World}
use Rattle.house.specs.Theorems.{Ready}
use Rattle.moves.proofs.Spans.{may_answer, may_read, may_write}
use Rattle.feeds.specs.Feeding.{takes}
use Rattle.pulls.specs.Pulling.{gives}
use Rattle.demands.specs.Ledger.{disc_blocks, stored_in, ledger_of}
use Rattle.demands.proofs.BlockLists.{Even, cut_even, cut_joins}
use Rattle.demands.proofs.Agreeing.{GatheredIn, Agrees}

-- what is to come from a source is as long as what is left
source_long : (source : List ℕ) (at left : ℕ) → at + left ≤ length source → 0 + length (take left (drop at source)) ≡ left
source_long source at left h = omega (arith, length-take-le left (drop at source) (simp length-drop (omega arith)))

module _ (w : World) (r : Ready w) where
  abbrev number : ℕ
  number = w.state.media.disc

  abbrev size : ℕ
  size = block_bytes number

  abbrev blocks : List (List ℕ)
  blocks = disc_blocks number w.disc

  even : Even size blocks
  unfolding disc_bytes run_bytes
  even = cut_even size (format_of number).blocks w.disc r.disc

  joined : w.disc ≡ flatten blocks
  unfolding disc_bytes run_bytes
  joined = sym (cut_joins size (format_of number).blocks w.disc r.disc)

  -- what the block buffer holds of the block being written
  abbrev Met : Transfer → Type 0
  Met t = GatheredIn size w.buffer w.disc (stored_in size w.buffer blocks t) t

  gathered : (t : Transfer) → w.state.transfer ≡ t → Met t
  gathered Closed e = tt
  gathered (Answer p) e = tt
  gathered (Read p) e = tt
  gathered (ParameterList p) e = tt
  gathered (Write p) e =
      let whole = (may_write w r p e).span.whole in
      let short = mod-lt p.at.0 (block_holds number whole.low whole.high) in
      let held : size ≤ length w.buffer = omega (arith, block_fits number, r.buffer) in
      let long = length-take-le (p.at.0 % size) w.buffer (omega (arith, short, held)) in
      record {
        at = rw long (sym (div-add-mod' p.at.0 size));
        short = rw long short;
        got = rw long refl;
        held = held;
        even = even;
        disc = joined;
      }

  all_left : (t : Transfer) → w.state.transfer ≡ t → takes t + length (gives w.buffer w.disc t) ≡ left_of t
  all_left Closed e = refl
  all_left (Answer p) e = source_long w.buffer p.at p.left (may_answer w r p e).within
  all_left (Read p) e = source_long w.disc p.at.0 p.left (may_read w r p e).within
  all_left (Write p) e = add-zero p.left
  all_left (ParameterList p) e = add-zero p.left

  -- whatever is open, the blocks are the disc's
  same_blocks : (t : Transfer) → (stored_in size w.buffer blocks t).blocks ≡ blocks
  same_blocks Closed = refl
  same_blocks (Answer p) = refl
  same_blocks (Read p) = refl
  same_blocks (Write p) = refl
  same_blocks (ParameterList p) = refl

  pub agrees_met : Agrees w (ledger_of w)
  agrees_met =
      record {
        media = refl;
        host = refl;
        disc = λ _. rw (same_blocks w.state.transfer) (even, joined);
        opened = record {
          taking = refl;
          giving = refl;
          all = all_left w.state.transfer refl;
          gathered = gathered w.state.transfer refl;
          listed = refl;
        };
      }
