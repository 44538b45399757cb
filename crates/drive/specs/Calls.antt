-- The calls of the box, each by the definition that its entry's promise cites.
use Rattle.ground.specs.Kit.{Bool, false, cond, List, [], ℕ, eqb, length}
use Rattle.house.specs.World.{World, in_state, in_disc, Reply, reply}
use Rattle.house.specs.Refusals.{first_refusal, insert_tests, eject_tests, move_house, command_house}
use Rattle.commands.specs.Events.{Event, insert_of, eject_of}
use Rattle.commands.specs.Obeying.{command_of}
use Rattle.feeds.specs.Feeding.{feed_of}
use Rattle.pulls.specs.Pulling.{pull_of}

-- a call with what is lent for it: a disc with its number and protection, a packet, a piece, the caller's buffer
pub data Call : Type 0 where
  Insert : ℕ → Bool → List ℕ → Call
  Eject : Call
  Command : List ℕ → Call
  Feed : List ℕ → Call
  Pull : List ℕ → Call

-- the piece or the caller's buffer, which the caller gets back
abbrev pub returned : Call → List ℕ
returned (Insert number prot disc) = []
returned Eject = []
returned (Command p) = []
returned (Feed piece) = piece
returned (Pull out) = out

-- the number of the first house test that a call fails, 0 for none
abbrev pub house_of : World → Call → ℕ
house_of w (Insert number prot disc) = first_refusal (insert_tests w.state number (length disc))
house_of w Eject = first_refusal (eject_tests w.state)
house_of w (Command p) = command_house w p
house_of w (Feed piece) = move_house w
house_of w (Pull out) = move_house w

-- an event touches the state alone; from then on the disc that it leaves in is lent
abbrev pub happens : World → List ℕ → Event → Reply
happens w disc e = reply e.house false 0 [] (in_disc (in_state w e.state) (cond (eqb e.house 0) disc w.disc))

-- the disc that was lent for an insertion is in afterwards; after an ejection none is: length "0 for none"
unfoldable pub call_of : World → Call → Reply
call_of w (Insert number prot disc) = happens w disc (insert_of w.state number prot (length disc))
call_of w Eject = happens w [] (eject_of w.state)
call_of w (Command p) = command_of w p
call_of w (Feed piece) = feed_of w piece
call_of w (Pull out) = pull_of w out
