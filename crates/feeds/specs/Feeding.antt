-- Paper 01, "Disc transfers": a feed, byte by byte; and Req 03, that of a parameter list.
use Rattle.std.specs.Prelude.{◌∷◌, ◌+◌, ◌-◌, ◌%◌}
use Rattle.ground.specs.Kit.{false, cond, List, [], ℕ, min, eqb, length, take, set, sets, paste}
use Rattle.disc.specs.declared.{BytePlace.BytePlace}
use Rattle.state.specs.declared.{State.State, DiscAt.DiscAt, ListAt.ListAt, Transfer.Transfer}
use Rattle.disc.specs.Formats.{block_bytes}
use Rattle.state.specs.States.{list_bytes, obeyed_of, moved_of, onward, disc_after, list_after}
use Rattle.state.specs.Senses.{bad_list}
use Rattle.state.specs.declared.Transfer.TheVariants.{Closed, Answer, Read, Write, ParameterList}
use Rattle.house.specs.World.{World, in_state, in_buffer, in_disc, in_lent, Reply, reply, unless_refused}
use Rattle.house.specs.Refusals.{move_house}
use Rattle.lists.specs.Lists.{Judged, list_judged}
use Rattle.moves.specs.Replies.{idle}

-- the place of the next byte, the block buffer and the disc
pub record Writing : Type 0 where
  pub at : BytePlace
  pub buffer : List ℕ
  pub disc : List ℕ

abbrev pub writing : BytePlace → List ℕ → List ℕ → Writing
writing at buffer disc = record { at = at; buffer = buffer; disc = disc }

-- by blocks of b bytes: "Each byte taken goes first to its place within the block in the block buffer; when a block is complete it is
-- copied to the disc. The buffer is never cleared."
unfoldable pub feed_byte : ℕ → Writing → ℕ → Writing
feed_byte b v x =
    let at = v.at.0 in
    let buffer = set v.buffer (at % b) x in
    writing (onward v.at 1) buffer (cond (eqb ((at + 1) % b) 0) (paste v.disc (at + 1 - b) buffer b) v.disc)

abbrev pub feed_bytes : ℕ → Writing → List ℕ → Writing
feed_bytes b v [] = v
feed_bytes b v (x ∷ xs) = feed_bytes b (feed_byte b v x) xs

-- a world with another state, and with the block buffer and the disc that were written
abbrev pub written : World → State → Writing → World
written w next v = in_lent (in_state w next) v.buffer v.disc

-- an open write: "A feed takes the first min(piece, left) bytes; the remainder of the piece is the caller's, reported by the count."
abbrev pub write_fed : DiscAt → World → List ℕ → Reply
write_fed p w piece =
    let n = min (length piece) p.left in
    let v = feed_bytes (block_bytes w.state.media.disc) (writing p.at w.buffer w.disc) (take n piece) in
    reply 0 false n piece (written w (moved_of w.state (Write (disc_after p n))) v)

-- a whole list: refused it "gives 05 26 00", else the sense stays as it was; "Refused or not, the list closes the transfer"
abbrev pub list_ends : World → Judged → World
list_ends w j =
    in_disc (in_state w (cond j.refused (obeyed_of w.state bad_list w.state.motor Closed) (moved_of w.state Closed))) j.disc

-- n bytes more of a list are in the block buffer: it is "judged when its twelfth byte is taken", before that nothing but the transfer changes
abbrev pub list_goes : ListAt → ℕ → World → World
list_goes p n w =
    cond (eqb n p.left) (list_ends w (list_judged w.state.media.disc p.track w.buffer w.disc))
    (in_state w (moved_of w.state (ParameterList (list_after p n))))

-- its bytes are "gathered in the block buffer's first 12 bytes"
abbrev pub list_gathers : ListAt → World → List ℕ → World
list_gathers p w xs = in_buffer w (sets w.buffer (list_bytes - p.left) xs)

-- an open list: "fed like a write"
abbrev pub list_fed : ListAt → World → List ℕ → Reply
list_fed p w piece =
    let count = min (length piece) p.left in
    reply 0 false count piece (list_goes p count (list_gathers p w (take count piece)))

-- how many bytes an open transfer still takes
abbrev pub takes : Transfer → ℕ
takes Closed = 0
takes (Answer p) = 0
takes (Read p) = 0
takes (Write p) = p.left
takes (ParameterList p) = p.left

-- "A feed without an open write .. gives count 0 and changes nothing.", but for a list
abbrev pub feed_by : Transfer → World → List ℕ → Reply
feed_by Closed w piece = idle w piece
feed_by (Answer p) w piece = idle w piece
feed_by (Read p) w piece = idle w piece
feed_by (Write p) w piece = write_fed p w piece
feed_by (ParameterList p) w piece = list_fed p w piece

unfoldable pub feed_of : World → List ℕ → Reply
feed_of w piece = unless_refused (move_house w) w piece (feed_by w.state.transfer w piece)
