-- What a feed and a pull have in common: what they reply.
use Rattle.std.specs.Prelude.{Result}
use Rattle.ground.specs.Kit.{false, List, ℕ}
use Rattle.moves.specs.declared.{Moved.Moved}
use Rattle.house.specs.declared.{Refusal.Refusal}
use Rattle.house.specs.World.{World, in_state, Reply, reply, refusal}
use Rattle.house.specs.Refusals.{replied}

-- an accepted one, with the piece or the caller's buffer, and what is lent afterwards
abbrev pub went : Moved → List ℕ → World → Reply
went m out w = reply 0 false m.count out (in_state w m.state)

-- a reply, where what is lent afterwards has the state before
abbrev pub moved : Result Moved Refusal → List ℕ → World → Reply
moved r out w = replied (λ m. went m out w) r w out

-- "gives count 0 and changes nothing"
abbrev pub idle : World → List ℕ → Reply
idle w out = refusal 0 w out
