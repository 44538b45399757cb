-- Paper 01, "House refusals, in order of testing".
use Rattle.std.specs.Prelude.{◌||◌, ◌∷◌, Result, Ok, Err}
use Rattle.ground.specs.Kit.{Bool, not, List, [], ℕ, eqb, ltb, length}
use Rattle.state.specs.declared.{State.State}
use Rattle.house.specs.declared.{Refusal.Refusal}
use Rattle.disc.specs.Formats.{buffer_bytes, disc_bytes}
use Rattle.sound.specs.Soundness.{sound_b}
use Rattle.ground.specs.First.{first}
use Rattle.house.specs.World.{World, Reply, refusal}
use Rattle.house.specs.declared.Refusal.TheVariants.{
  PacketLength,
  Unsound,
  BufferLength,
  DiscLength,
  DiscIn,
  NoDiscIn,
  NoSuchDisc,
}

-- the column "No."
abbrev pub refusal_number : Refusal → ℕ
refusal_number PacketLength = 1
refusal_number Unsound = 2
refusal_number BufferLength = 3
refusal_number DiscLength = 4
refusal_number DiscIn = 5
refusal_number NoDiscIn = 6
refusal_number NoSuchDisc = 7

-- that of a reply, 0 for none
abbrev pub number_of : {T : Type 0} → Result T Refusal → ℕ
number_of (Ok x) = 0
number_of (Err r) = refusal_number r

-- what an entry replies: what it makes of an accepted call, or a refusal, which leaves the world and the caller's bytes
abbrev pub replied : {T : Type 0} → (T → Reply) → Result T Refusal → World → List ℕ → Reply
replied accepted (Ok x) w out = accepted x
replied accepted (Err r) w out = refusal (refusal_number r) w out

-- whether a test fails, and the refusal that it then gives
pub record Test : Type 0 where
  pub fails : Bool
  pub refusal : Refusal

infix 20 ◌gives◌
abbrev pub ◌gives◌ : Bool → Refusal → Test
fails gives refusal = record { fails = fails; refusal = refusal }

-- the first test to fail gives its number, 0 where none does: "It is given exactly then."
abbrev pub fails_b : Test → Bool
fails_b t = t.fails

abbrev pub refusing : Test → ℕ
refusing t = refusal_number t.refusal

abbrev pub first_refusal : List Test → ℕ
first_refusal tests = first fails_b refusing tests 0

-- "the packet isn't 12 bytes"
abbrev refusal1 : ℕ → Test
refusal1 packet = not (eqb packet 12) gives PacketLength

-- "the state isn't sound"
abbrev refusal2 : State → Test
refusal2 s = not (sound_b s) gives Unsound

-- "the block buffer isn't 1,024 bytes"
abbrev refusal3 : ℕ → Test
refusal3 buffer = not (eqb buffer buffer_bytes) gives BufferLength

-- "the lent disc isn't as long as its number says, 0 for none"
abbrev refusal4 : ℕ → ℕ → Test
refusal4 number disc = not (eqb disc (disc_bytes number)) gives DiscLength

-- "insertion with a disc in"
abbrev refusal5 : State → Test
refusal5 s = not (eqb s.media.disc 0) gives DiscIn

-- "ejection with none in"
abbrev refusal6 : State → Test
refusal6 s = eqb s.media.disc 0 gives NoDiscIn

-- "insertion of a number outside 1 to 4"
abbrev refusal7 : ℕ → Test
refusal7 number = eqb number 0 || ltb 4 number gives NoSuchDisc

-- what is lent counts by its length: "feed and pull 2, 3, 4"
unfoldable pub move_tests : State → ℕ → ℕ → List Test
move_tests s buffer disc = refusal2 s ∷ refusal3 buffer ∷ refusal4 s.media.disc disc ∷ []

-- a command 1, 2, 3, 4
unfoldable pub command_tests : State → ℕ → ℕ → ℕ → List Test
command_tests s packet buffer disc = refusal1 packet ∷ move_tests s buffer disc

-- "Insertion tests 2, 5, 7, 4; ejection 2, 6"
unfoldable pub insert_tests : State → ℕ → ℕ → List Test
insert_tests s number disc = refusal2 s ∷ refusal5 s ∷ refusal7 number ∷ refusal4 number disc ∷ []

unfoldable pub eject_tests : State → List Test
eject_tests s = refusal2 s ∷ refusal6 s ∷ []

-- the first of tests 2, 3, 4 to fail
abbrev pub move_house : World → ℕ
move_house w = first_refusal (move_tests w.state (length w.buffer) (length w.disc))

-- and of a command's 1, 2, 3, 4
abbrev pub command_house : World → List ℕ → ℕ
command_house w p = first_refusal (command_tests w.state (length p) (length w.buffer) (length w.disc))
