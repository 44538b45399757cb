use Rattle.std.specs.Prelude.{◌≡◌}
use Rattle.text.specs.Ink.{inked}
use Rattle.listing.specs.Differing.{differing_from}
use Rattle.listing.specs.Turns.{listed, listed_of}
use Rattle.listing.proofs.put_blocks.Given as goal

abbrev pub invariant-loop-k : goal.invariant-loop-k
invariant-loop-k l =
    listed l.count (inked l.line) ≡ listed_of (differing_from l.number l.from l.k l.first l.second) (inked l.initial.line)
