-- What the house tests let pass, and that a number is one refusal's; proved in proofs/Houses.
use Rattle.std.specs.Prelude.{◌≡◌, ◌≤◌, Result}
use Rattle.ground.specs.Kit.{true, List, ℕ, length}
use Rattle.state.specs.declared.{State.State}
use Rattle.house.specs.declared.{Refusal.Refusal}
use Rattle.disc.specs.Formats.{buffer_bytes, disc_bytes}
use Rattle.sound.specs.Soundness.{sound_b}
use Rattle.house.specs.World.{World}
use Rattle.house.specs.Refusals.{number_of, first_refusal, insert_tests, eject_tests, move_house, command_house}

-- two answers that the promise of a house test allows have one number, so they are equal
abbrev pub OneHouse : Type 0
OneHouse = (h g : Result Unit Refusal) → number_of h ≡ number_of g → h ≡ g

-- ---- "It is given exactly then."

-- a sound state with the right buffers
pub record Ready (w : World) : Type 0 where
  pub sound : sound_b w.state ≡ true
  pub buffer : length w.buffer ≡ buffer_bytes
  pub disc : length w.disc ≡ disc_bytes w.state.media.disc

-- an insertion is admitted exactly with no disc in, a number from 1 to 4 and a disc of its length
pub record Insertable (s : State) (number : ℕ) (disc : List ℕ) : Type 0 where
  pub sound : sound_b s ≡ true
  pub none : s.media.disc ≡ 0
  pub low : 1 ≤ number
  pub high : number ≤ 4
  pub whole : length disc ≡ disc_bytes number

abbrev pub InsertAdmits : Type 0
InsertAdmits =
    (s : State) (number : ℕ) (disc : List ℕ)
    → let house = first_refusal (insert_tests s number (length disc)) in
    (house ≡ 0 → Insertable s number disc) × (Insertable s number disc → house ≡ 0)

-- an ejection exactly with a disc in
pub record Ejectable (s : State) : Type 0 where
  pub sound : sound_b s ≡ true
  pub is_in_lem : s.media.disc ≡ 0 → ⊥

abbrev pub EjectAdmits : Type 0
EjectAdmits =
    (s : State)
    → let house = first_refusal (eject_tests s) in
    (house ≡ 0 → Ejectable s) × (Ejectable s → house ≡ 0)

-- a feed or a pull exactly in a ready world
abbrev pub Admits : Type 0
Admits = (w : World) → (move_house w ≡ 0 → Ready w) × (Ready w → move_house w ≡ 0)

-- and a command exactly if its packet has 12 bytes too
abbrev pub CommandAdmits : Type 0
CommandAdmits =
    (w : World) (p : List ℕ) → (command_house w p ≡ 0 → (length p ≡ 12) × Ready w) × (length p ≡ 12 → Ready w → command_house w p ≡ 0)
