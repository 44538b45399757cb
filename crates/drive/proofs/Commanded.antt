-- What a command leaves: a sound state, what is lent as long as it was, and the flags but for the one that it reports. Assumes nothing.
use Rattle.std.specs.Prelude.{◌≡◌, ◌||◌, ◌+◌, ◌%◌, ◌≤◌, ◌<◌, Ok, Err}
use Rattle.ground.specs.Kit.{refl, sym, Bool, true, false, List, ℕ, lit≤, add-mul, mul-mod_left, mul-zero, arith, not-true, eqb, length}
use Rattle.disc.specs.declared.{BlockAddress.BlockAddress}
use Rattle.state.specs.declared.{AnswerAt.AnswerAt, ListAt.ListAt, Transfer.Transfer}
use Rattle.packet.specs.declared.{Rule.Rule, Routine.Routine}
use Rattle.ground.specs.Bytes.{byte_at}
use Rattle.ground.proofs.Truth.{neither}
use Rattle.disc.specs.Formats.{buffer_bytes, format_of, block_bytes, run_bytes, place_of}
use Rattle.disc.proofs.Discs.{run_within}
use Rattle.state.specs.Senses.{power_told, change_told, no_sense, same_b, named_b}
use Rattle.state.specs.States.{list_bytes, left_of, obeyed_of}
use Rattle.state.specs.declared.Transfer.TheVariants.{Closed, Answer as AnswerFrom, Read as ReadFrom, Write as WriteTo, ParameterList as ListFor}
use Rattle.sound.specs.Soundness.{open_sound_b, sound_b}
use Rattle.sound.proofs.Opened.{OnDisc, EndsOnBlock, on_disc_sound, writes_sound, lists_sound, answer_sound}
use Rattle.sound.proofs.Keeping.{obeyed_sound}
use Rattle.packet.specs.Fields.{address_of, length_of}
use Rattle.packet.specs.declared.Routine.TheVariants.{Nothing, Motor, Answer, Read, Write, ParameterList}
use Rattle.packet.proofs.BaseCommands.{opens_b, writes_b, lists_b}
use Rattle.checks.specs.Verdicts.{Verdict, verdict}
use Rattle.checks.proofs.Passing.{passed, gives_named, gives_told, disc_in, in_range, bare, list_in, on_track, list_bare}
use Rattle.answer.specs.Giving.{give_of}
use Rattle.answer.proofs.Given.{give_count, give_length}
use Rattle.house.specs.World.{World}
use Rattle.commands.specs.Obeying.{span_of, routine_of, performed_of, reply_to}
use Rattle.drive.specs.Calls.{Command}
use Rattle.drive.specs.Theorems.{PassedByTriple}
use Rattle.drive.proofs.Calling.{accepted}

-- ---- soundness

-- blocks that are on the disc
module _ (number : ℕ) (is_in_lem : number ≡ 0 → ⊥) (from : BlockAddress) (n : ℕ) (within : from.0 + n ≤ (format_of number).blocks)
    (some : (span_of number from n).left ≡ 0 → ⊥) where
  on_disc : OnDisc number (span_of number from n)
  unfolding span_of place_of
  on_disc = record { is_in_lem = is_in_lem; some = omega (arith, some); within = run_within number from.0 n within }

  on_block : EndsOnBlock number (span_of number from n)
  unfolding span_of place_of run_bytes
  on_block =
      let size = block_bytes number in
      record {
        blocks = λ e. some (rw e (mul-zero n));
        whole = rw (← add-mul from.0 n size) (mul-mod_left (from.0 + n) size);
      }

module _ (w : World) (p : List ℕ) (sound : sound_b w.state ≡ true) (room : length w.buffer ≤ buffer_bytes) where
  abbrev number : ℕ
  number = w.state.media.disc

  passing_sound : (motor : Bool) (t : Transfer) → ((left_of t ≡ 0 → ⊥) → open_sound_b w.state.media t ≡ true)
      → sound_b (obeyed_of w.state no_sense motor t) ≡ true
  unfolding named_b
  passing_sound motor t some = obeyed_sound w.state sound t some no_sense motor refl

  routine_sound : (n : ℕ) (r : Routine) → (opens_b r ≡ true → number ≡ 0 → ⊥) → (opens_b r ≡ true → (address_of p).0 + n ≤ (format_of number).blocks)
      → (writes_b r ≡ true → w.state.media.protected ≡ false)
      → (lists_b r ≡ true → (number ≡ 0 → ⊥) × (byte_at p 2 < (format_of number).cylinders) × (w.state.media.protected ≡ false)) → sound_b (routine_of r w p n).state ≡ true
  unfolding open_sound_b
  routine_sound n Nothing d g h l = passing_sound w.state.motor Closed (λ _. refl)
  routine_sound n Motor d g h l = passing_sound (eqb (byte_at p 4 % 2) 1) Closed (λ _. refl)
  routine_sound n (Answer a) d g h l =
      let few = give_count a w.state.media w.state.host.sense p n w.buffer in
      let from : AnswerAt = record { at = 0; left = (give_of a w.state.media w.state.host.sense p n w.buffer).count } in
      passing_sound w.state.motor (AnswerFrom from)
      (λ some. answer_sound w.state.media from (record { some = omega (arith, some); within = omega arith }))
  routine_sound n Read d g h l =
      passing_sound w.state.motor (ReadFrom _) (λ some. on_disc_sound number _ (on_disc number (d refl) (address_of p) n (g refl) some))
  routine_sound n Write d g h l =
      passing_sound w.state.motor (WriteTo _)
      (λ some.
      writes_sound w.state.media _
      (record {
        on = on_disc number (d refl) (address_of p) n (g refl) some;
        ends = on_block number (d refl) (address_of p) n (g refl) some;
        bare = rw (h refl);
      }))
  routine_sound n ParameterList d g h l =
      let list : ListAt = record { track = byte_at p 2; left = list_bytes } in
      passing_sound w.state.motor (ListFor list)
      (λ _.
      lists_sound w.state.media list
      (record { some = lit≤ tt; few = lit≤ tt; track = (l refl).1; bare = rw (l refl).2; is_in_lem = (l refl).0 }))

  pub replied_sound : (v : Verdict) → verdict w.state.media w.state.host p ≡ v → sound_b (reply_to v w p).world.state ≡ true
  unfolding performed_of open_sound_b
  replied_sound (Err sense) e =
      obeyed_sound w.state sound Closed (λ _. refl) sense w.state.motor (gives_named w.state.media w.state.host p sense e)
  replied_sound (Ok rule) e =
      let all = passed w.state.media w.state.host p rule e in
      routine_sound (length_of rule.length p) rule.routine (λ opens. disc_in all opens) (λ opens. in_range all opens) (λ writes. bare all writes)
      (λ lists. (list_in all lists, on_track all lists, list_bare all lists))

-- ---- what it keeps

-- the disc that is in, and the lengths of what is lent
pub record Keeps (w v : World) : Type 0 where
  pub media : v.state.media ≡ w.state.media
  pub buffer : length v.buffer ≡ length w.buffer
  pub disc : length v.disc ≡ length w.disc

-- the attentions that are pending
pub record Untold (w v : World) : Type 0 where
  pub power : v.state.host.power ≡ w.state.host.power
  pub change : v.state.host.change ≡ w.state.host.change

-- a triple that reports an attention
abbrev pub reports_b : Verdict → Bool
reports_b (Err sense) = same_b sense power_told || same_b sense change_told
reports_b (Ok rule) = false

module _ (w : World) (p : List ℕ) where
  routine_keeps : (n : ℕ) (r : Routine) → Keeps w (routine_of r w p n) × Untold w (routine_of r w p n)
  unfolding obeyed_of
  routine_keeps n Nothing = (record { media = refl; buffer = refl; disc = refl }, record { power = refl; change = refl })
  routine_keeps n Motor = (record { media = refl; buffer = refl; disc = refl }, record { power = refl; change = refl })
  routine_keeps n (Answer a) =
      let long = give_length a w.state.media w.state.host.sense p n w.buffer in
      (record { media = refl; buffer = long; disc = refl }, record { power = refl; change = refl })
  routine_keeps n Read = (record { media = refl; buffer = refl; disc = refl }, record { power = refl; change = refl })
  routine_keeps n Write = (record { media = refl; buffer = refl; disc = refl }, record { power = refl; change = refl })
  routine_keeps n ParameterList = (record { media = refl; buffer = refl; disc = refl }, record { power = refl; change = refl })

  -- "A command that passes sets the sense to 00 00 00"
  pub performed_sense : (rule : Rule) → (performed_of rule w p).state.host.sense ≡ no_sense
  unfolding performed_of obeyed_of
  performed_sense rule = here rule.routine
    where
      here : (r : Routine) → (routine_of r w p (length_of rule.length p)).state.host.sense ≡ no_sense
      here Nothing = refl
      here Motor = refl
      here (Answer a) = refl
      here Read = refl
      here Write = refl
      here ParameterList = refl

  pub replied_keeps : (v : Verdict) → Keeps w (reply_to v w p).world
  unfolding obeyed_of performed_of
  replied_keeps (Err sense) = record { media = refl; buffer = refl; disc = refl }
  replied_keeps (Ok rule) = (routine_keeps (length_of rule.length p) rule.routine).0

  pub replied_untold : (v : Verdict) → reports_b v ≡ false → Untold w (reply_to v w p).world
  unfolding obeyed_of performed_of
  replied_untold (Err sense) e =
      let (power, change) = neither (same_b sense power_told) (same_b sense change_told) e in
      record { power = rw power; change = rw change }
  replied_untold (Ok rule) e = (routine_keeps (length_of rule.length p) rule.routine).1

-- ---- whether it passed

told_passed : (w : World) (p : List ℕ) (v : Verdict) → verdict w.state.media w.state.host p ≡ v
    → (reply_to v w p).heard.passed ≡ same_b (reply_to v w p).world.state.host.sense no_sense
unfolding obeyed_of
told_passed w p (Err sense) e = sym (not-true (same_b sense no_sense) (gives_told w.state.media w.state.host p sense e))
told_passed w p (Ok rule) e = rw (performed_sense w p rule)

pub passed_by_triple : PassedByTriple
passed_by_triple w p none = rw (accepted w (Command p) none) (told_passed w p (verdict w.state.media w.state.host p) refl)
