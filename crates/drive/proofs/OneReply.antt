-- Two replies that an entry's promise allows are equal. Assumes nothing.
use Rattle.std.specs.Prelude.{◌≡◌, Result, Ok, Err}
use Rattle.ground.specs.Kit.{refl, sym, ◌∙◌, ap, List, ℕ}
use Rattle.state.specs.declared.{State.State}
use Rattle.house.specs.declared.{Refusal.Refusal}
use Rattle.house.specs.World.{World, Reply, in_lent}
use Rattle.house.specs.Refusals.{number_of}
use Rattle.house.proofs.Houses.{one_reply}
use Rattle.commands.specs.declared.{Obeyed.Obeyed}
use Rattle.commands.specs.Events.{Event, happened}
use Rattle.commands.specs.Obeying.{commanded}
use Rattle.moves.specs.declared.{Moved.Moved}
use Rattle.moves.specs.Replies.{moved}
use Rattle.drive.specs.Theorems.{OnePowerOn, OneEvent, OneCommand, OneMove}

pub one_power_on : OnePowerOn
one_power_on r q e f = e ∙ sym f

-- ---- a reply has its number, and what is lent with it

event_number : (s : State) (r : Result State Refusal) → (happened s r).house ≡ number_of r
event_number s (Ok next) = refl
event_number s (Err r) = refl

command_heard : (r : Result Obeyed Refusal) (w : World) → ((commanded r w).heard.house ≡ number_of r) × ((commanded r w).world.buffer ≡ w.buffer)
command_heard (Ok o) w = (refl, refl)
command_heard (Err r) w = (refl, refl)

move_heard : (r : Result Moved Refusal) (out : List ℕ) (w : World)
    → let a = moved r out w in
    (a.heard.house ≡ number_of r) × (a.heard.out ≡ out) × (a.world.buffer ≡ w.buffer) × (a.world.disc ≡ w.disc)
move_heard (Ok m) out w = (refl, refl, refl, refl)
move_heard (Err r) out w = (refl, refl, refl, refl)

-- ---- so that two of them are one

pub one_event : OneEvent
one_event e s r q f g =
    let same = f ∙ sym g in
    one_reply r q (sym (event_number s r) ∙ ap (λ (h : Event). h.house) same ∙ event_number s q)
    (λ x y i j. ap (λ (h : Event). h.state) (rw (i, j) at same))

pub one_command : OneCommand
one_command a w disc r q b c e f =
    let same = e ∙ sym f in
    let (house, buffer) = command_heard r (in_lent w b disc) in
    let (house', buffer') = command_heard q (in_lent w c disc) in (
      one_reply r q (sym house ∙ ap (λ (a : Reply). a.heard.house) same ∙ house')
          (λ x y i j.
          let both = rw (i, j) at same in
          let passed = ap (λ (a : Reply). a.heard.passed) both in
          let state = ap (λ (a : Reply). a.world.state) both in
          λ k. record { passed = passed k; state = state k }),
      sym buffer ∙ ap (λ (a : Reply). a.world.buffer) same ∙ buffer',
    )

pub one_move : OneMove
one_move a w r q x y b c d e f g =
    let same = f ∙ sym g in
    let (house, out, buffer, disc) = move_heard r x (in_lent w b d) in
    let (house', out', buffer', disc') = move_heard q y (in_lent w c e) in (
      one_reply r q (sym house ∙ ap (λ (a : Reply). a.heard.house) same ∙ house')
          (λ m n i j.
          let both = rw (i, j) at same in
          let count = ap (λ (a : Reply). a.heard.count) both in
          let state = ap (λ (a : Reply). a.world.state) both in
          λ k. record { count = count k; state = state k }),
      sym out ∙ ap (λ (a : Reply). a.heard.out) same ∙ out',
      sym buffer ∙ ap (λ (a : Reply). a.world.buffer) same ∙ buffer',
      sym disc ∙ ap (λ (a : Reply). a.world.disc) same ∙ disc',
    )
