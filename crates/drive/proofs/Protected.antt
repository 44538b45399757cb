-- A protected disc stays as it is. Assumes nothing.
use Rattle.std.specs.Prelude.{◌≡◌, Ok, Err}
use Rattle.ground.specs.Kit.{refl, sym, ◌∙◌, true, not, false≢true, List, ℕ, ap, Bool}
use Rattle.packet.specs.declared.{Routine.Routine}
use Rattle.state.specs.declared.Transfer.TheVariants.{Write}
use Rattle.packet.specs.declared.Routine.TheVariants.{Nothing, Motor, Answer, Read, Write as WriteBlocks, ParameterList as TakeList}
use Rattle.packet.specs.Fields.{length_of}
use Rattle.checks.specs.Verdicts.{Verdict, verdict}
use Rattle.sound.proofs.Opened.{writes}
use Rattle.house.specs.World.{World}
use Rattle.house.proofs.Houses.{admits}
use Rattle.commands.specs.Obeying.{routine_of, performed_of, reply_to}
use Rattle.moves.proofs.Spans.{open_sound, may_list}
use Rattle.feeds.proofs.ByTransfer.{by_feeding}
use Rattle.pulls.proofs.ByTransfer.{by_pulling}
use Rattle.drive.specs.Calls.{Command, Feed, Pull}
use Rattle.drive.specs.Theorems.{ProtectedStays}
use Rattle.drive.proofs.Calling.{by_call}

-- no command changes a disc
routine_leaves : (w : World) (p : List ℕ) (n : ℕ) (r : Routine) → (routine_of r w p n).disc ≡ w.disc
routine_leaves w p n Nothing = refl
routine_leaves w p n Motor = refl
routine_leaves w p n (Answer a) = refl
routine_leaves w p n Read = refl
routine_leaves w p n WriteBlocks = refl
routine_leaves w p n TakeList = refl

replied_leaves : (w : World) (p : List ℕ) (v : Verdict) → (reply_to v w p).world.disc ≡ w.disc
unfolding performed_of
replied_leaves w p (Err sense) = refl
replied_leaves w p (Ok rule) = routine_leaves w p (length_of rule.length p) rule.routine

-- what is open to be fed is open on an unprotected disc
bare_only : (b : Bool) → b ≡ true → not b ≡ true → ⊥
bare_only b prot bare = false≢true (sym (ap not prot) ∙ bare)

pub protected_stays : ProtectedStays
protected_stays w sound prot = (
  λ p.
      by_call w (Command p) (λ a. a.world.disc ≡ w.disc) (λ _. refl)
      (λ _. replied_leaves w p (verdict w.state.media w.state.host p)),
  λ piece.
      by_call w (Feed piece) (λ a. a.world.disc ≡ w.disc) (λ _. refl)
      (λ none.
      let r = (admits w).0 none in
      by_feeding w piece (λ a. a.world.disc ≡ w.disc) (λ _. refl)
      (λ p e. absurd (bare_only w.state.media.protected prot (writes w.state.media p (open_sound w r (Write p) e)).bare))
      (λ p e. absurd (bare_only w.state.media.protected prot (may_list w r p e).bare))),
  λ out.
      by_call w (Pull out) (λ a. a.world.disc ≡ w.disc) (λ _. refl)
      (λ _. by_pulling w out (λ a. a.world.disc ≡ w.disc) (λ _. refl) (λ p e. refl) (λ p e. refl)),
)
