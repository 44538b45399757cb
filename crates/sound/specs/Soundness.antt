-- Paper 01, "A state is sound when".
use Rattle.std.specs.Prelude.{◌&&◌, ◌||◌, ◌+◌, ◌%◌}
use Rattle.ground.specs.Kit.{Bool, true, not, ℕ, eqb, leb, ltb}
use Rattle.state.specs.declared.{Media.Media, State.State, DiscAt.DiscAt, ListAt.ListAt, Transfer.Transfer}
use Rattle.disc.specs.Formats.{format_of, buffer_bytes, block_bytes, disc_bytes}
use Rattle.state.specs.declared.Transfer.TheVariants.{Closed, Answer, Read, Write, ParameterList}
use Rattle.state.specs.Senses.{named_b}
use Rattle.state.specs.States.{list_bytes}

-- a disc is in, "at least one byte left", "ends within its disc"
unfoldable pub on_disc_b : ℕ → DiscAt → Bool
on_disc_b number p = not (eqb number 0) && ltb 0 p.left && leb (p.at.0 + p.left) (disc_bytes number)

-- "ends on a block boundary"; without a block length there is none
unfoldable pub ends_on_block_b : ℕ → DiscAt → Bool
ends_on_block_b number p = not (eqb (block_bytes number) 0) && eqb ((p.at.0 + p.left) % block_bytes number) 0

-- Req 03: "1 to 12 bytes left, track on the disc, unprotected disc in"
unfoldable pub list_sound_b : Media → ListAt → Bool
list_sound_b m p =
    ltb 0 p.left && leb p.left list_bytes
    && ltb p.track (format_of m.disc).cylinders
    && not m.protected
    && not (eqb m.disc 0)

-- "an open transfer has at least one byte left and ends within its disc (an answer: within the block buffer); a write ends on a
-- block boundary and its disc is not protected"
unfoldable pub open_sound_b : Media → Transfer → Bool
open_sound_b m Closed = true
open_sound_b m (Answer p) = ltb 0 p.left && leb (p.at + p.left) buffer_bytes
open_sound_b m (Read p) = on_disc_b m.disc p
open_sound_b m (Write p) = on_disc_b m.disc p && ends_on_block_b m.disc p && not m.protected
open_sound_b m (ParameterList p) = list_sound_b m p

-- "the disc number is 0 to 4; without a disc protection is off and no disc transfer is open; the triple is 00 00 00 or one of those
-- named below; an open transfer .."
unfoldable pub sound_b : State → Bool
sound_b s =
    leb s.media.disc 4
    && (not (eqb s.media.disc 0) || not s.media.protected)
    && named_b s.host.sense
    && open_sound_b s.media s.transfer
