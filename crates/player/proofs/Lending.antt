-- What the drive sees of the disc, and what comes back. Assumes nothing.
use Rattle.std.specs.Prelude.{◌≡◌, ◌++◌, ◌+◌, ◌≤◌, Some}
use Rattle.ground.specs.Kit.{sym, List, ℕ, arith, length, take, drop, take-append-drop, length-take, length-take-le}
use Rattle.std.proofs.lemmas.Bool.Decides.{nat_tests}
use Rattle.std.proofs.lemmas.List.{drop_min}
use Rattle.house.specs.World.{World}
use Rattle.pulls.proofs.ByTransfer.{by_pulling}
use Rattle.drive.specs.Calls.{Pull, call_of}
use Rattle.drive.proofs.Calling.{by_call}
use Rattle.record.specs.Records.{record_of}
use Rattle.record.specs.declared.Record.TheVariants as told
use Rattle.record.proofs.Holding.{all_hold}
use Rattle.player.specs.Playing.{seen_of}

-- a part of the disc is seen
module _ (number : ℕ) (disc : List ℕ) (n : ℕ) (e : n ≡ seen_of number (length disc)) where
  pub seen_within : n ≤ length disc
  unfolding seen_of
  seen_within = grind (arith, nat_tests)

  pub seen_there : n ≡ length (take n disc)
  seen_there = sym (length-take-le n disc seen_within)

-- the first bytes of the disc and those behind them
pub whole : (n : ℕ) (disc : List ℕ) → take n disc ++ drop (length (take n disc)) disc ≡ disc
whole n disc = rw (length-take n disc, drop_min n disc) (take-append-drop n disc)

-- no more bytes come than fit
pub count_within : (w : World) (out : List ℕ) → (call_of w (Pull out)).heard.count ≤ length out
count_within w out =
    by_call w (Pull out) (λ r. r.heard.count ≤ length out) (λ _. omega arith)
    (λ _. by_pulling w out (λ r. r.heard.count ≤ length out) (λ _. omega arith) (λ p e. omega arith) (λ p e. omega arith))

-- a record that was told holds its bytes
pub command_there : (script : List ℕ) → record_of script ≡ Some told.Command → 16 ≤ length script
command_there script e = let h = rw e at (all_hold script) in omega (arith, h.0.1, h.1)

pub feed_there : (n : ℕ) (script : List ℕ) → record_of script ≡ Some (told.Feed n) → 4 + n ≤ length script
feed_there n script e = let h = rw e at (all_hold script) in omega (arith, h.0.1, h.1)

pub pull_few : (n : ℕ) (script : List ℕ) → record_of script ≡ Some (told.Pull n) → n ≤ 512
pull_few n script e = let h = rw e at (all_hold script) in h.1
