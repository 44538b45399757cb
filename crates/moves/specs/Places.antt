-- What the functions that move bytes ask of a place, of a block and of the bytes that are left. The entries' house tests see to it.
use Rattle.std.specs.Prelude.{◌≡◌, ◌+◌, ◌-◌, ◌<◌, ◌≤◌, ◌%◌}
use Rattle.ground.specs.Kit.{List, ℕ, length}
use Rattle.disc.specs.declared.{BytePlace.BytePlace}
use Rattle.state.specs.declared.{AnswerAt.AnswerAt, DiscAt.DiscAt}
use Rattle.disc.specs.Formats.{block_bytes, disc_bytes}

-- a disc is in, and these are all of its bytes
pub record Whole (number : ℕ) (disc : List ℕ) : Type 0 where
  pub low : 0 < number
  pub high : number ≤ 4
  pub long : length disc ≡ disc_bytes number

-- a place on the disc
pub record Place (number : ℕ) (place : BytePlace) (disc : List ℕ) : Type 0 where
  pub whole : Whole number disc
  pub within : place.0 < length disc

-- the bytes left of an answer: all in the block buffer
pub record AnswerSpan (from : AnswerAt) (buffer : List ℕ) : Type 0 where
  pub within : from.at + from.left ≤ length buffer

-- the bytes left of a read: all on the disc
pub record ReadSpan (number : ℕ) (from : DiscAt) (disc : List ℕ) : Type 0 where
  pub whole : Whole number disc
  pub within : from.at.0 + from.left ≤ length disc

-- the bytes left of a write: they end where a block ends, too
pub record WriteSpan (number : ℕ) (from : DiscAt) (disc : List ℕ) : Type 0 where
  pub span : ReadSpan number from disc
  pub ends : (from.at.0 + from.left) % block_bytes number ≡ 0

-- how many bytes there are from a place to the end of its block
abbrev pub rest_of : ℕ → BytePlace → ℕ
rest_of number place = block_bytes number - place.0 % block_bytes number
