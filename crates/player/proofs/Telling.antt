-- What is told of a command, a feed and a pull that were answered so. Assumes nothing.
use Rattle.std.specs.Prelude.{◌≡◌, ◌++◌, ◌≤◌, Result, Ok, Err}
use Rattle.std.specs.Result.{MatchResult, IsOkAnd}
use Rattle.ground.specs.Kit.{ap, false, true, List, ℕ, length, take, drop, take-append-le}
use Rattle.house.specs.declared.{Refusal.Refusal}
use Rattle.house.specs.World.{World, world, Reply}
use Rattle.commands.specs.declared.{Obeyed.Obeyed}
use Rattle.commands.specs.Obeying.{commanded, command_of}
use Rattle.moves.specs.declared.{Moved.Moved}
use Rattle.moves.specs.Replies.{moved}
use Rattle.feeds.specs.Feeding.{feed_of}
use Rattle.pulls.specs.Pulling.{pull_of}
use Rattle.drive.specs.Calls.{Command, Feed, call_of}
use Rattle.player.specs.Playing.{seen_of, outcome_of, played_by, called_of, pull_said}
use Rattle.player.proofs.Lending.{seen_there, whole, count_within}

module _ (w : World) (n : ℕ) (seen : n ≡ seen_of w.state.media.disc (length w.disc)) where
  -- what is lent of the bench's world
  abbrev pub lent : World
  lent = world w.state w.buffer (take n w.disc)

  pub command_says : (p out after : List ℕ) (q : Result Obeyed Refusal) (r : Result Moved Refusal)
      → MatchResult q (λ o. IsOkAnd r (λ m. m ≡ record { count = 0; state = o.state })) (λ e. r ≡ Err e)
      → commanded q (world w.state after (take n w.disc)) ≡ command_of lent p
      → played_by (outcome_of w.state r false) out after w.disc ≡ called_of w (Command p)
  unfolding called_of call_of
  command_says p out after (Ok o) (Ok m) came says = rw (came, ← seen, ← says, whole)
  command_says p out after (Ok o) (Err e) came says = absurd came
  command_says p out after (Err e) r came says = rw (came, ← seen, ← says, whole)

  pub feed_says : (piece out after disc : List ℕ) (r : Result Moved Refusal) → length disc ≡ length (take n w.disc)
      → moved r piece (world w.state after disc) ≡ feed_of lent piece
      → played_by (outcome_of w.state r false) out after (disc ++ drop n w.disc) ≡ called_of w (Feed piece)
  unfolding called_of call_of
  feed_says piece out after disc (Ok m) same says = rw (← seen, ← says, same, ← seen_there _ _ _ seen)
  feed_says piece out after disc (Err e) same says = rw (← seen, ← says, same, ← seen_there _ _ _ seen)

  pub pull_says : (zeros out rest : List ℕ) (r : Result Moved Refusal) → length out ≡ length zeros
      → moved r out lent ≡ pull_of lent zeros
      → played_by (outcome_of w.state r true) (out ++ rest) w.buffer w.disc ≡ pull_said w zeros
  unfolding pull_said call_of
  pull_says zeros out rest (Ok m) same says =
      let few : m.count ≤ length out = rw (same, ap (λ (r : Reply). r.heard.count) says) (count_within lent zeros) in
      rw (take-append-le _ _ _ few, ← seen, ← says, whole)
  pull_says zeros out rest (Err e) same says = rw (← seen, ← says, whole)
