-- A number is one refusal's; what the house tests say of a call that they let pass, and which call they let pass. Assumes nothing.
use Rattle.std.specs.Prelude.{◌≡◌, ◌∷◌, Result, Ok, Err, IsErrAnd}
use Rattle.std.proofs.lemmas.Result.{err_from_is_err_and}
use Rattle.ground.specs.Kit.{refl, sym, ◌∙◌, ap, Bool, true, false, cond, List, [], ℕ, arith, eq-eqb, ne_eqb, eqb-true, eqb-false, le-ltb, ltb-false, not-false, eqb, ltb, length, get_or}
use Rattle.state.specs.declared.{State.State}
use Rattle.house.specs.declared.{Refusal.Refusal}
use Rattle.disc.specs.Formats.{buffer_bytes, disc_bytes}
use Rattle.ground.proofs.Truth.{neither}
use Rattle.sound.specs.Soundness.{sound_b}
use Rattle.ground.proofs.First.{NoneFails, none_failed, barred_b}
use Rattle.house.specs.declared.Refusal.TheVariants.{PacketLength, Unsound, BufferLength, DiscLength, DiscIn, NoDiscIn, NoSuchDisc}
use Rattle.house.specs.World.{World, Reply, refusal, unless_refused}
use Rattle.house.specs.Refusals.{Test, refusal_number, number_of, replied, fails_b, refusing, first_refusal, insert_tests, eject_tests, move_tests, command_tests, move_house, command_house}
use Rattle.house.specs.Theorems.{OneHouse, Ready, Insertable, InsertAdmits, EjectAdmits, Admits, CommandAdmits}

-- the refusals by number
abbrev refusals : List Refusal
refusals = PacketLength ∷ PacketLength ∷ Unsound ∷ BufferLength ∷ DiscLength ∷ DiscIn ∷ NoDiscIn ∷ NoSuchDisc ∷ []

by_number : (r : Refusal) → get_or refusals (refusal_number r) PacketLength ≡ r
by_number PacketLength = refl
by_number Unsound = refl
by_number BufferLength = refl
by_number DiscLength = refl
by_number DiscIn = refl
by_number NoDiscIn = refl
by_number NoSuchDisc = refl

-- a number is that of one refusal
one_refusal : (r q : Refusal) → refusal_number r ≡ refusal_number q → r ≡ q
one_refusal r q e = sym (by_number r) ∙ ap (λ (n : ℕ). get_or refusals n PacketLength) e ∙ by_number q

pub is_refusal : (r : Refusal) → refusal_number r ≡ 0 → ⊥
is_refusal PacketLength e = cc
is_refusal Unsound e = cc
is_refusal BufferLength e = cc
is_refusal DiscLength e = cc
is_refusal DiscIn e = cc
is_refusal NoDiscIn e = cc
is_refusal NoSuchDisc e = cc

-- replies of one number are equal if what they hold is
pub one_reply : {T : Type 0} (r q : Result T Refusal) → number_of r ≡ number_of q → ((x y : T) → r ≡ Ok x → q ≡ Ok y → x ≡ y) → r ≡ q
one_reply (Ok x) (Ok y) e same = ap Ok (same x y refl refl)
one_reply (Ok x) (Err q) e same = absurd (is_refusal q (sym e))
one_reply (Err r) (Ok y) e same = absurd (is_refusal r e)
one_reply (Err r) (Err q) e same = ap Err (one_refusal r q e)

pub one_house : OneHouse
one_house h g e = one_reply h g e (λ _ _ _ _. refl)

abbrev pub none_b : ℕ → Bool
none_b house = eqb house 0

pub let_pass : (tests : List Test) → barred_b fails_b refusing none_b tests ≡ true → none_b (first_refusal tests) ≡ true
    → NoneFails fails_b refusing none_b tests
let_pass tests barred none = (none_failed fails_b refusing none_b tests 0 barred none).0

module _ (w : World) where
  abbrev tests : List Test
  tests = move_tests w.state (length w.buffer) (length w.disc)

  -- tests 2, 3 and 4 are passed exactly if the world is ready
  pub ready_in : Ready w → move_house w ≡ 0
  unfolding move_tests
  ready_in r = rw (r.sound, r.buffer, r.disc, eq-eqb (disc_bytes w.state.media.disc) (disc_bytes w.state.media.disc) refl)

  none_ready : NoneFails fails_b refusing none_b tests → Ready w
  unfolding move_tests
  none_ready test2 =
      let test3 = test2.1 in
      let test4 = test3.1 in
      record {
        sound = not-false (sound_b w.state) test2.0;
        buffer = eqb-true (length w.buffer) buffer_bytes (not-false (eqb (length w.buffer) buffer_bytes) test3.0);
        disc =
            eqb-true (length w.disc) (disc_bytes w.state.media.disc) (not-false (eqb (length w.disc) (disc_bytes w.state.media.disc)) test4.0);
      }

  pub in_ready : move_house w ≡ 0 → Ready w
  unfolding move_tests
  in_ready none = none_ready (let_pass tests refl (eq-eqb (move_house w) 0 none))

  module _ (p : List ℕ) where
    -- and a command's test 1 exactly if its packet has 12 bytes
    command-in : length p ≡ 12 → Ready w → command_house w p ≡ 0
    unfolding command_tests
    command-in long r = rw long (ready_in r)

    in-command : command_house w p ≡ 0 → (length p ≡ 12) × Ready w
    unfolding command_tests move_tests
    in-command none =
        let test1 =
        let_pass (command_tests w.state (length p) (length w.buffer) (length w.disc)) refl (eq-eqb (command_house w p) 0 none) in
        (eqb-true (length p) 12 (not-false (eqb (length p) 12) test1.0), none_ready test1.1)

module _ (s : State) (number : ℕ) (disc : List ℕ) where
  insertable : first_refusal (insert_tests s number (length disc)) ≡ 0 → Insertable s number disc
  unfolding insert_tests
  insertable none =
      let tests = insert_tests s number (length disc) in
      let test2 = let_pass tests refl (eq-eqb (first_refusal tests) 0 none) in
      let test5 = test2.1 in
      let test7 = test5.1 in
      let test4 = test7.1 in
      let (zero, above) = neither (eqb number 0) (ltb 4 number) test7.0 in
      let some = eqb-false number 0 zero in
      record {
        sound = not-false (sound_b s) test2.0;
        none = eqb-true s.media.disc 0 (not-false (eqb s.media.disc 0) test5.0);
        low = omega arith;
        high = ltb-false 4 number above;
        whole = eqb-true (length disc) (disc_bytes number) (not-false (eqb (length disc) (disc_bytes number)) test4.0);
      }

  inserts : Insertable s number disc → first_refusal (insert_tests s number (length disc)) ≡ 0
  unfolding insert_tests
  inserts i =
      let low = i.low in
      rw (
        i.sound,
        i.none,
        ne_eqb number 0 (λ z. omega arith),
        le-ltb 4 number i.high,
        i.whole,
        eq-eqb (disc_bytes number) (disc_bytes number) refl,
      )

pub insert_admits : InsertAdmits
insert_admits s number disc = (insertable s number disc, inserts s number disc)

pub eject_admits : EjectAdmits
unfolding eject_tests
eject_admits s = (
  λ none.
      let test2 = let_pass (eject_tests s) refl (eq-eqb (first_refusal (eject_tests s)) 0 none) in
      record { sound = not-false (sound_b s) test2.0; is_in_lem = eqb-false s.media.disc 0 test2.1.0 },
  λ e. rw (e.sound, ne_eqb s.media.disc 0 e.is_in_lem),
)

pub admits : Admits
admits w = (in_ready w, ready_in w)

pub command_admits : CommandAdmits
command_admits w p = (in-command w p, command-in w p)

-- ---- what holds of a refusal and of an accepted call's reply holds of the reply

pub by_house : (P : Reply → Type 0) (house : ℕ) (w : World) (out : List ℕ) (accepted : Reply)
    → ((house ≡ 0 → ⊥) → P (refusal house w out)) → (house ≡ 0 → P accepted) → P (unless_refused house w out accepted)
by_house P house w out accepted refused accepts = here (eqb house 0) refl
  where
    here : (b : Bool) → eqb house 0 ≡ b → P (cond b accepted (refusal house w out))
    here true q = accepts (eqb-true house 0 q)
    here false q = refused (eqb-false house 0 q)

-- ---- the exit of an entry at a refusal that a `?` passes on

pub turned_away : {T : Type 0} (house : ℕ) (w : World) (out : List ℕ) (accepted : Reply) (of : T → Reply) (answer : Result T Refusal) (r : Refusal)
    → IsErrAnd answer (λ q. q ≡ r) → refusal_number r ≡ house → replied of answer w out ≡ unless_refused house w out accepted
turned_away house w out accepted of answer r is e =
    let p = err_from_is_err_and answer is in
    rw (p.1, p.2, ← e, ne_eqb (refusal_number r) 0 (is_refusal r))
