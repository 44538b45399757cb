-- The marked cases at the edges, by computation but for the bytes that are fed. Assumes nothing.
use Rattle.std.specs.Prelude.{◌≡◌}
use Rattle.ground.specs.Kit.{◌∙◌, true, false, List, [], map, ℕ, arith, length, take, sets, length-sets, take_all}
use Rattle.state.specs.declared.{State.State}
use Rattle.disc.specs.Formats.{buffer_bytes, format_of, block_bytes, run_bytes, disc_bytes, place_of}
use Rattle.disc.specs.Masks.{masks, mask_row}
use Rattle.state.specs.declared.Transfer.TheVariants.{Write}
use Rattle.state.specs.Senses.{no_sense, named_b}
use Rattle.state.specs.States.{obeyed_of, moved_of}
use Rattle.sound.specs.Soundness.{on_disc_b, ends_on_block_b, open_sound_b, sound_b}
use Rattle.packet.specs.Fields.{address_of, length_of}
use Rattle.packet.specs.Rules.{rules, rule_of}
use Rattle.checks.specs.Verdicts.{in_mask_b, checks_of, verdict}
use Rattle.answer.specs.Answers.{sense_data, inquiry_data}
use Rattle.answer.specs.Giving.{answer_of, allocation_of, give_of}
use Rattle.house.specs.World.{World, in_state, in_buffer, Reply, reply}
use Rattle.house.specs.Refusals.{move_tests, command_tests}
use Rattle.commands.specs.Obeying.{span_of, performed_of, command_of}
use Rattle.feeds.specs.Feeding.{feed_of}
use Rattle.feeds.proofs.Feeding.{share_part}
use Rattle.drive.specs.Cases.{plain, but, length_at7, bytes2_and4, cases, outcome, expected, Starred}

-- the write of block 0, so far on
abbrev at : ℕ → ℕ → State
at place left = but plain no_sense (Write (record { at = record { 0 = place }; left = left }))

module _ (w : World) (b : length w.buffer ≡ buffer_bytes) (d : length w.disc ≡ 1474560) where
  abbrev passes : State → Reply
  passes s = reply 0 true 0 [] (in_state w s)

  -- the table, and the two commands of the last case
  record Answered : Type 0 where
    table : map (outcome w) cases ≡ map expected cases
    opens : command_of (in_state w plain) (length_at7 0x2a 0 1) ≡ passes (at 0 512)
    closes : command_of (in_state w (at 511 1)) (bytes2_and4 0x00 0 0) ≡ passes plain

  answered : Answered
  unfolding format_of block_bytes run_bytes disc_bytes place_of masks mask_row named_b obeyed_of on_disc_b ends_on_block_b open_sound_b sound_b address_of length_of rules rule_of in_mask_b checks_of verdict sense_data inquiry_data answer_of allocation_of give_of move_tests command_tests span_of performed_of command_of
  answered = record { table = rw (b, d); opens = rw (b, d); closes = rw (b, d) }

  -- 511 bytes complete no block
  takes : (piece : List ℕ) → length piece ≡ 511
      → feed_of (in_state w (at 0 512)) piece ≡ reply 0 false 511 piece (in_buffer (in_state w (at 511 1)) (sets w.buffer 0 piece))
  unfolding format_of block_bytes run_bytes disc_bytes named_b moved_of on_disc_b ends_on_block_b open_sound_b sound_b move_tests feed_of
  takes piece p =
      let all : take 511 piece ≡ piece = take_all 511 piece (omega arith) in
      rw (b, d, p, all, share_part 512 0 w.buffer w.disc piece (omega arith))

pub starred : Starred
starred w piece b d p =
    let start = answered w b d in
    let end = answered (in_buffer w (sets w.buffer 0 piece)) (length-sets w.buffer 0 piece ∙ b) d in
    (start.table, rw (start.opens, takes w b d piece p, end.closes))
