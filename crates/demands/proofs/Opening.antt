-- What a command opens is what the ledger takes and gives from then on. Assumes nothing.
use Rattle.std.specs.Prelude.{◌≡◌, ◌+◌, ◌*◌, ◌/◌, ◌%◌, ◌≤◌, Ok, Err}
use Rattle.ground.specs.Kit.{refl, sym, ap, subst, ◌∙◌, Bool, true, false, cond, List, [], flatten, ℕ, min, add-zero, arith, leb-true, leb-false, eqb, leb, lit≤, length, take, drop, length-drop, length-take-le, set, take_all, take_at}
use Rattle.state.specs.declared.{Media.Media, ListAt.ListAt, Transfer.Transfer}
use Rattle.packet.specs.declared.{Rule.Rule, Answering.Answering, Routine.Routine}
use Rattle.ground.specs.Bytes.{byte_at}
use Rattle.disc.specs.Formats.{block_bytes, run_bytes, place_of, buffer_bytes}
use Rattle.disc.proofs.Discs.{block_fits, block_holds, run_within}
use Rattle.state.specs.declared.Sense as state
use Rattle.state.specs.declared.Transfer.TheVariants.{Closed, Answer as AnswerFrom, Read as ReadFrom, Write as WriteTo, ParameterList as ListFor}
use Rattle.state.specs.Senses.{no_sense}
use Rattle.state.specs.States.{list_bytes, left_of, told, obeyed_of}
use Rattle.sound.proofs.Keeping.{parts}
use Rattle.packet.specs.Fields.{address_of, length_of}
use Rattle.packet.specs.declared.Answering.TheVariants.{Sense, Inquiry, FormatCapacities, Capacity, Mode}
use Rattle.packet.specs.declared.Routine.TheVariants.{Nothing, Motor, Answer, Read, Write, ParameterList}
use Rattle.packet.proofs.BaseCommands.{opens_b}
use Rattle.checks.specs.Verdicts.{Verdict, verdict}
use Rattle.checks.proofs.Passing.{Passed, passed, disc_in, in_range}
use Rattle.answer.specs.Answers.{sense_data, inquiry_data, capacity_data, with_disc_data, without_disc_data, capacities_data, mode_data}
use Rattle.answer.specs.Giving.{answer_of, allocation_of, give_of}
use Rattle.answer.proofs.Given.{give_count, give_length}
use Rattle.house.specs.World.{World, in_buffer}
use Rattle.house.specs.Theorems.{Ready}
use Rattle.commands.specs.Obeying.{span_of, passing, routine_of, performed_of, reply_to}
use Rattle.feeds.specs.Feeding.{writing}
use Rattle.drive.specs.Calls.{Command}
use Rattle.drive.proofs.Calling.{accepted_of}
use Rattle.drive.proofs.Commanded.{performed_sense}
use Rattle.demands.specs.Ledger.{Store, store, Listing, none, list, Ledger, opened, noted}
use Rattle.demands.proofs.BlockLists.{drop_even, from_block, some_blocks}
use Rattle.demands.proofs.Gathering.{Gathered}
use Rattle.demands.proofs.Agreeing.{Opened, shut, closing, Agrees}

-- ---- answers

-- "the first min(allocation, full size) bytes"
first_bytes : (n m : ℕ) (xs : List ℕ) → length xs ≤ m → take (min (min n (length xs)) m) xs ≡ take n xs
first_bytes n m xs h = here (leb n (length xs)) refl
  where
    here : (t : Bool) → leb n (length xs) ≡ t → take (min (min n (length xs)) m) xs ≡ take n xs
    here true q =
        let low = leb-true n (length xs) q in
        let e : min (min n (length xs)) m ≡ n = omega arith in
        rw e
    here false q =
        let high = leb-false n (length xs) q in
        let e : min (min n (length xs)) m ≡ length xs = omega arith in
        rw (e, take_all n xs (omega arith), take_all (length xs) xs (omega arith))

-- either of two lists that fit the block buffer
either_fits : (b : Bool) (xs ys : List ℕ) → length xs ≤ buffer_bytes → length ys ≤ buffer_bytes → length (cond b xs ys) ≤ buffer_bytes
either_fits true xs ys first other = first
either_fits false xs ys first other = other

-- every answer fits it
answer_fits : (x : Answering) (m : Media) (sense : state.Sense) (p : List ℕ) → length (answer_of x m sense p) ≤ buffer_bytes
unfolding answer_of sense_data inquiry_data capacity_data with_disc_data without_disc_data capacities_data mode_data
answer_fits Sense m sense p = lit≤ tt
answer_fits Inquiry m sense p = either_fits (eqb (byte_at p 1 / 32) 0) inquiry_data (set inquiry_data 0 0x1f) (lit≤ tt) (lit≤ tt)
answer_fits FormatCapacities m sense p = either_fits (eqb m.disc 0) without_disc_data (with_disc_data m.disc) (lit≤ tt) (lit≤ tt)
answer_fits Capacity m sense p = lit≤ tt
answer_fits Mode m sense p = here (eqb (byte_at p 2 / 64) 1)
  where
    here : (b : Bool) → length (mode_data m.disc m.protected b) ≤ buffer_bytes
    here true = lit≤ tt
    here false = lit≤ tt

-- ---- a command that passes

module _ (w : World) (l : Ledger) (a : Agrees w l) where
  abbrev number : ℕ
  number = w.state.media.disc

  -- by what it opens
  by_passing : (motor : Bool) (t : Transfer) (buffer : List ℕ) (stored : Store) (left : ℕ) (coming : List ℕ) (listing : Listing)
      → stored.blocks ≡ l.stored.blocks → (left_of t ≡ 0 → listing ≡ none) → Opened (block_bytes number) buffer w.disc stored left coming listing t
      → Agrees (in_buffer (passing w motor t) buffer)
      (record { media = l.media; host = told l.host no_sense; stored = stored; left = left; coming = coming; listing = listing })
  unfolding obeyed_of
  by_passing motor t buffer stored left coming listing same over o =
      record {
        media = a.media;
        host = rw a.host;
        disc = rw same a.disc;
        opened = closing (block_bytes number) buffer w.disc stored left coming listing t over o;
      }

  module _ (ready : Ready w) (p : List ℕ) (n : ℕ) where
    -- "else those it came in with": the ledger's blocks are the disc's
    read-blocks : (number ≡ 0 → ⊥)
        → flatten (take n (drop (address_of p).0 l.stored.blocks))
        ≡ take (run_bytes number n) (drop (place_of number (address_of p)).0 w.disc)
    unfolding place_of run_bytes
    read-blocks is_in_lem =
        let (even, same) = a.disc is_in_lem in
        let from = (address_of p).0 in
        let b = block_bytes number in
        some_blocks b n (drop from l.stored.blocks) (drop_even b from l.stored.blocks even)
        ∙ ap (take (n * b)) (from_block b from l.stored.blocks even ∙ ap (drop (from * b)) (sym same))

    -- an answer's bytes
    answer-bytes : (x : Answering)
        → let f = give_of x w.state.media w.state.host.sense p n w.buffer in
        take (allocation_of x n) (answer_of x l.media l.host.sense p) ≡ take f.count f.bytes
    unfolding give_of
    answer-bytes x =
        let whole = answer_of x w.state.media w.state.host.sense p in
        let fits = answer_fits x w.state.media w.state.host.sense p in
        let count = min (min (allocation_of x n) (length whole)) (length w.buffer) in
        rw (a.media, a.host, take_at (take count whole) (drop count w.buffer) count (length-take-le count whole (omega arith)))
        (sym (first_bytes (allocation_of x n) (length w.buffer) whole (omega (arith, fits, ready.buffer))))

    -- nothing is gathered yet of the block at the address
    write-starts : (number ≡ 0 → ⊥)
        → Gathered (block_bytes number) (store l.stored.blocks (address_of p) []) (writing (place_of number (address_of p)) w.buffer w.disc)
    unfolding place_of run_bytes
    write-starts is_in_lem =
        let (even, same) = a.disc is_in_lem in
        let high = leb-true number 4 (parts w.state ready.sound).low in
        let holds = block_holds number (omega (arith, is_in_lem)) high in
        record {
          at = sym (add-zero ((address_of p).0 * block_bytes number));
          short = holds;
          got = refl;
          held = omega (arith, block_fits number, ready.buffer);
          even = even;
          disc = same;
        }

    -- and its blocks are on the disc
    pub agrees_routine : (r : Routine) → (opens_b r ≡ true → number ≡ 0 → ⊥)
        → (opens_b r ≡ true → (place_of number (address_of p)).0 + run_bytes number n ≤ length w.disc)
        → Agrees (routine_of r w p n) (opened r l (told l.host no_sense) p n)
    unfolding span_of
    agrees_routine Nothing is_in_lem within = by_passing w.state.motor Closed w.buffer l.stored 0 [] none refl (λ _. refl) (shut _ _ _ _)
    agrees_routine Motor is_in_lem within = by_passing (eqb (byte_at p 4 % 2) 1) Closed w.buffer l.stored 0 [] none refl (λ _. refl) (shut _ _ _ _)
    agrees_routine (Answer x) is_in_lem within =
        let m = w.state.media in
        let sense = w.state.host.sense in
        let f = give_of x m sense p n w.buffer in
        let few : f.count ≤ length f.bytes = rw (give_length x m sense p n w.buffer) (give_count x m sense p n w.buffer) in
        by_passing w.state.motor (AnswerFrom (record { at = 0; left = f.count })) f.bytes l.stored 0 _ none refl (λ _. refl)
        (record {
          taking = refl;
          giving = answer-bytes x;
          all = omega (arith, length-take-le f.count f.bytes few);
          gathered = tt;
          listed = refl;
        })
    agrees_routine Read is_in_lem within =
        let far = within refl in
        let rest = drop (place_of number (address_of p)).0 w.disc in
        by_passing w.state.motor (ReadFrom (span_of number (address_of p) n)) w.buffer l.stored 0 _ none refl (λ _. refl)
        (record {
          taking = refl;
          giving = read-blocks (is_in_lem refl);
          all = omega (arith, length-take-le (run_bytes number n) rest (simp length-drop (omega arith)));
          gathered = tt;
          listed = refl;
        })
    agrees_routine Write is_in_lem within =
        let span = span_of number (address_of p) n in
        by_passing w.state.motor (WriteTo span) w.buffer (store l.stored.blocks (address_of p) []) (run_bytes l.media.disc n) [] none refl (λ _. refl)
        (record {
          taking = rw a.media;
          giving = refl;
          all = add-zero (run_bytes number n);
          gathered = write-starts (is_in_lem refl);
          listed = refl;
        })
    agrees_routine ParameterList is_in_lem within =
        let from : ListAt = record { track = byte_at p 2; left = list_bytes } in
        by_passing w.state.motor (ListFor from) w.buffer l.stored 12 [] (list (byte_at p 2) []) refl (λ z. absurd (omega (arith, z)))
        (record { taking = refl; giving = refl; all = refl; gathered = tt; listed = refl })

-- ---- any command

module _ (w : World) (l : Ledger) (a : Agrees w l) (ready : Ready w) (p : List ℕ) where
  module _ (rule : Rule) (e : verdict w.state.media w.state.host p ≡ Ok rule) where
    all : Passed w.state.media w.state.host p rule
    all = passed w.state.media w.state.host p rule e

    abbrev noting : state.Sense → Ledger
    noting sense = opened rule.routine l (told l.host sense) p (length_of rule.length p)

    performs : Agrees (performed_of rule w p) (noting no_sense)
    unfolding performed_of place_of
    performs =
        agrees_routine w l a ready p (length_of rule.length p) rule.routine (disc_in all)
        (λ opens. rw ready.disc (run_within w.state.media.disc (address_of p).0 (length_of rule.length p) (in_range all opens)))

  by_verdict : (v : Verdict) → verdict w.state.media w.state.host p ≡ v → Agrees (reply_to v w p).world (noted l (Command p) (reply_to v w p).heard)
  unfolding noted obeyed_of
  by_verdict (Err sense) e = record { media = a.media; host = rw a.host; disc = a.disc; opened = shut _ _ _ _ }
  by_verdict (Ok rule) e =
      rw (all rule e).known (subst (λ (sense : state.Sense). Agrees (performed_of rule w p) (noting rule e sense)) (sym (performed_sense w p rule)) (performs rule e))

  pub agrees_commanded : Agrees (accepted_of w (Command p)).world (noted l (Command p) (accepted_of w (Command p)).heard)
  agrees_commanded = by_verdict (verdict w.state.media w.state.host p) refl
