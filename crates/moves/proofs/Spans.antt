-- A ready world's open transfer is one that the functions that move bytes can serve. Assumes nothing.
use Rattle.std.specs.Prelude.{◌≡◌}
use Rattle.ground.specs.Kit.{sym, true, List, ℕ, arith, leb-true, length}
use Rattle.state.specs.declared.{AnswerAt.AnswerAt, DiscAt.DiscAt, ListAt.ListAt, State.State, Transfer.Transfer}
use Rattle.state.specs.declared.Transfer.TheVariants.{Answer, Read, Write, ParameterList}
use Rattle.sound.specs.Soundness.{open_sound_b}
use Rattle.sound.proofs.Keeping.{parts}
use Rattle.sound.proofs.Opened.{OnDisc, Lists, in_buffer_lem, on_disc, writes, lists}
use Rattle.disc.specs.Formats.{buffer_bytes}
use Rattle.house.specs.World.{World, in_state, in_lent, some_world}
use Rattle.house.specs.Refusals.{first_refusal, move_tests}
use Rattle.house.specs.Theorems.{Ready}
use Rattle.house.proofs.Houses.{in_ready}
use Rattle.moves.specs.Places.{AnswerSpan, ReadSpan, WriteSpan}

module _ (w : World) (r : Ready w) where
  abbrev number : ℕ
  number = w.state.media.disc

  -- the open transfer is sound
  pub open_sound : (t : Transfer) → w.state.transfer ≡ t → open_sound_b w.state.media t ≡ true
  open_sound t e = rw e at (parts w.state r.sound).opened

  pub may_answer : (p : AnswerAt) → w.state.transfer ≡ Answer p → AnswerSpan p w.buffer
  may_answer p e =
      let i = in_buffer_lem w.state.media p (open_sound (Answer p) e) in
      record { within = omega (arith, i, r.buffer) }

  span : (p : DiscAt) → OnDisc number p → ReadSpan number p w.disc
  span p on =
      let high = leb-true number 4 (parts w.state r.sound).low in
      record {
        whole = record { low = omega (arith, on.is_in_lem); high = high; long = r.disc };
        within = omega (arith, on.within, r.disc);
      }

  pub may_read : (p : DiscAt) → w.state.transfer ≡ Read p → ReadSpan number p w.disc
  unfolding open_sound_b
  may_read p e = span p (on_disc number p (open_sound (Read p) e))

  pub may_write : (p : DiscAt) → w.state.transfer ≡ Write p → WriteSpan number p w.disc
  may_write p e = let o = writes w.state.media p (open_sound (Write p) e) in record { span = span p o.on; ends = o.ends.whole }

  pub may_list : (p : ListAt) → w.state.transfer ≡ ParameterList p → Lists w.state.media p
  may_list p e = lists w.state.media p (open_sound (ParameterList p) e)

-- what the functions that move bytes ask, of what is lent for a call that its house tests let pass
module _ (s : State) (buffer disc : List ℕ) (none : 0 ≡ first_refusal (move_tests s (length buffer) (length disc))) where
  pub ready : (w : World) → Ready (in_state (in_lent w buffer disc) s)
  ready w = in_ready _ (sym none)

  pub whole_buffer : length buffer ≡ buffer_bytes
  whole_buffer = (ready some_world).buffer

  pub answer_span : (p : AnswerAt) → s.transfer ≡ Answer p → AnswerSpan p buffer
  answer_span p e = may_answer _ (ready some_world) p e

  pub read_span : (p : DiscAt) → s.transfer ≡ Read p → ReadSpan s.media.disc p disc
  read_span p e = may_read _ (ready some_world) p e

  pub write_span : (p : DiscAt) → s.transfer ≡ Write p → WriteSpan s.media.disc p disc
  write_span p e = may_write _ (ready some_world) p e

  pub list_left : (p : ListAt) → s.transfer ≡ ParameterList p → Lists s.media p
  list_left p e = may_list _ (ready some_world) p e
