-- All that a call can change but the caller's buffer, and what a call answers and leaves.
use Rattle.ground.specs.Kit.{Bool, false, cond, List, [], ℕ, eqb}
use Rattle.state.specs.declared.{Sense.Sense, State.State}
use Rattle.state.specs.States.{power_on}

-- the state, and the bytes of block buffer and disc
pub record World : Type 0 where
  pub state : State
  pub buffer : List ℕ
  pub disc : List ℕ

abbrev pub world : State → List ℕ → List ℕ → World
world state buffer disc = record { state = state; buffer = buffer; disc = disc }

-- the same but for the state, the block buffer, the disc
abbrev pub in_state : World → State → World
in_state w state = record { state = state; buffer = w.buffer; disc = w.disc }

abbrev pub in_buffer : World → List ℕ → World
in_buffer w buffer = record { state = w.state; buffer = buffer; disc = w.disc }

abbrev pub in_disc : World → List ℕ → World
in_disc w disc = record { state = w.state; buffer = w.buffer; disc = disc }

-- and but for the block buffer and the disc that are lent for a call: the rest is not lent, so that the call leaves it
abbrev pub in_lent : World → List ℕ → List ℕ → World
in_lent w buffer disc = in_disc (in_buffer w buffer) disc

-- where any world will do
abbrev pub some_world : World
some_world = world power_on [] []

-- all that a caller hears: the house number, whether a command passed, the triple afterwards, the count, and the piece or the
-- caller's buffer afterwards
pub record Heard : Type 0 where
  pub house : ℕ
  pub passed : Bool
  pub sense : Sense
  pub count : ℕ
  pub out : List ℕ

abbrev pub heard : ℕ → Bool → Sense → ℕ → List ℕ → Heard
heard house passed sense count out = record { house = house; passed = passed; sense = sense; count = count; out = out }

pub record Reply : Type 0 where
  pub heard : Heard
  pub world : World

abbrev pub reply : ℕ → Bool → ℕ → List ℕ → World → Reply
reply house passed count out w = record { heard = heard house passed w.state.host.sense count out; world = w }

-- "Each returns its number and count 0, and leaves state, disc, block buffer and the caller's buffer as they were."
abbrev pub refusal : ℕ → World → List ℕ → Reply
refusal house w out = reply house false 0 out w

-- "It is given exactly then."
abbrev pub unless_refused : ℕ → World → List ℕ → Reply → Reply
unless_refused house w out accepted = cond (eqb house 0) accepted (refusal house w out)
