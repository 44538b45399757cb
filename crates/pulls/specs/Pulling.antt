-- Paper 01, "Disc transfers": a pull.
use Rattle.ground.specs.Kit.{false, List, [], ℕ, min, length, take, drop}
use Rattle.state.specs.declared.{AnswerAt.AnswerAt, DiscAt.DiscAt, Transfer.Transfer}
use Rattle.ground.specs.Filling.{Filled, fill_of}
use Rattle.state.specs.States.{moved_of, answer_after, disc_after}
use Rattle.state.specs.declared.Transfer.TheVariants.{Closed, Answer, Read, Write, ParameterList}
use Rattle.house.specs.World.{World, in_state, Reply, reply, unless_refused}
use Rattle.house.specs.Refusals.{move_house}
use Rattle.moves.specs.Replies.{idle}

-- "A pull fills the first min(buffer, left) bytes of the lent buffer, leaves its tail .. and reports that count": the source from its
-- place on
abbrev pub served_of : List ℕ → ℕ → List ℕ → Filled
served_of source left out = fill_of (min (length out) left) source out

-- "leaves .. disc and block buffer": what is left of the transfer goes by the count
abbrev pub pulled_of : (ℕ → Transfer) → World → Filled → Reply
pulled_of rest w f = reply 0 false f.count f.bytes (in_state w (moved_of w.state (rest f.count)))

-- from an open answer, and from an open read
abbrev pub answer_pulled : AnswerAt → World → List ℕ → Reply
answer_pulled p w out = pulled_of (λ n. Answer (answer_after p n)) w (served_of (drop p.at w.buffer) p.left out)

abbrev pub read_pulled : DiscAt → World → List ℕ → Reply
read_pulled p w out = pulled_of (λ n. Read (disc_after p n)) w (served_of (drop p.at.0 w.disc) p.left out)

-- the bytes that an open transfer still gives, from the block buffer or the disc
abbrev pub gives : List ℕ → List ℕ → Transfer → List ℕ
gives buffer disc Closed = []
gives buffer disc (Answer p) = take p.left (drop p.at buffer)
gives buffer disc (Read p) = take p.left (drop p.at.0 disc)
gives buffer disc (Write p) = []
gives buffer disc (ParameterList p) = []

-- "a pull without an open read or answer, gives count 0 and changes nothing"
abbrev pub pull_by : Transfer → World → List ℕ → Reply
pull_by Closed w out = idle w out
pull_by (Answer p) w out = answer_pulled p w out
pull_by (Read p) w out = read_pulled p w out
pull_by (Write p) w out = idle w out
pull_by (ParameterList p) w out = idle w out

unfoldable pub pull_of : World → List ℕ → Reply
pull_of w out = unless_refused (move_house w) w out (pull_by w.state.transfer w out)
