-- A pull by the open transfer: what a proof has to show of it. Assumes nothing.
use Rattle.std.specs.Prelude.{◌≡◌, Result, IsErrAnd}
use Rattle.ground.specs.Kit.{refl, sym, ◌∙◌, List, [], ℕ}
use Rattle.state.specs.declared.{AnswerAt.AnswerAt, DiscAt.DiscAt, Transfer.Transfer}
use Rattle.state.specs.declared.Transfer.TheVariants.{Closed, Answer, Read, Write, ParameterList}
use Rattle.state.specs.States.{moved_of}
use Rattle.house.specs.declared.{Refusal.Refusal}
use Rattle.house.specs.World.{World, Reply, unless_refused}
use Rattle.house.specs.Refusals.{refusal_number}
use Rattle.house.specs.Theorems.{Ready}
use Rattle.house.proofs.Houses.{ready_in, turned_away}
use Rattle.moves.specs.declared.{Moved.Moved}
use Rattle.moves.specs.Replies.{idle, moved}
use Rattle.moves.proofs.Leaving.{Leaves}
use Rattle.pulls.specs.Pulling.{answer_pulled, read_pulled, gives, pull_by, pull_of}

-- a transfer that gives nothing, and each that gives bytes
pub data Pulling (t : Transfer) : Type 0 where
  idles : ((buffer disc : List ℕ) → gives buffer disc t ≡ []) → ((w : World) (out : List ℕ) → pull_by t w out ≡ idle w out) → Pulling t
  answers : (p : AnswerAt) → t ≡ Answer p → Pulling t
  reads : (p : DiscAt) → t ≡ Read p → Pulling t

pub pulling : (t : Transfer) → Pulling t
pulling Closed = idles (λ buffer disc. refl) (λ w out. refl)
pulling (Answer p) = answers p refl
pulling (Read p) = reads p refl
pulling (Write p) = idles (λ buffer disc. refl) (λ w out. refl)
pulling (ParameterList p) = idles (λ buffer disc. refl) (λ w out. refl)

module _ (w : World) (out : List ℕ) where
  -- past the house tests the open transfer decides
  pub pulls : Ready w → pull_of w out ≡ pull_by w.state.transfer w out
  unfolding pull_of
  pulls r = rw (ready_in w r)

  pub pulls_answer : Ready w → (p : AnswerAt) → w.state.transfer ≡ Answer p → answer_pulled p w out ≡ pull_of w out
  pulls_answer r p e = rw (pulls r, e)

  pub pulls_read : Ready w → (p : DiscAt) → w.state.transfer ≡ Read p → read_pulled p w out ≡ pull_of w out
  pulls_read r p e = rw (pulls r, e)

  -- what a proof has to show of an accepted pull
  pub by_pulling : (P : Reply → Type 0) → (gives w.buffer w.disc w.state.transfer ≡ [] → P (idle w out))
      → ((p : AnswerAt) → w.state.transfer ≡ Answer p → P (answer_pulled p w out))
      → ((p : DiscAt) → w.state.transfer ≡ Read p → P (read_pulled p w out)) → P (pull_by w.state.transfer w out)
  by_pulling P idle-case answer-case read-case = here w.state.transfer refl (pulling w.state.transfer)
    where
      here : (t : Transfer) → w.state.transfer ≡ t → Pulling t → P (pull_by t w out)
      here t e (idles none same) = rw (same w out) (idle-case (rw e (none w.buffer w.disc)))
      here t e (answers p f) = rw f (answer-case p (e ∙ f))
      here t e (reads p f) = rw f (read-case p (e ∙ f))

  -- whatever it gives
  pub pulled_leaves : Leaves w (pull_by w.state.transfer w out)
  unfolding moved_of
  pulled_leaves =
      by_pulling (Leaves w) (λ _. record { house = refl; media = refl; power = refl; change = refl })
      (λ p e. record { house = refl; media = refl; power = refl; change = refl })
      (λ p e. record { house = refl; media = refl; power = refl; change = refl })

-- what the default of a `match` on the transfer is given, that it is neither of the others, is enough
pub unpulled : (w : World) (out : List ℕ) (t : Transfer) → ((p : AnswerAt) → t ≡ Answer p → ⊥) → ((p : DiscAt) → t ≡ Read p → ⊥)
    → idle w out ≡ pull_by t w out
unpulled w out t no_answer no_read = here (pulling t)
  where
    here : Pulling t → idle w out ≡ pull_by t w out
    here (idles none same) = sym (same w out)
    here (answers p e) = absurd (no_answer p e)
    here (reads p e) = absurd (no_read p e)

-- the exit of a refused pull
pub pull_refused : (w : World) (out : List ℕ) (house : ℕ) (accepted : Reply) (answer : Result Moved Refusal) (r : Refusal) → IsErrAnd answer (λ q. q ≡ r)
    → refusal_number r ≡ house → moved answer out w ≡ unless_refused house w out accepted
pull_refused w out house accepted answer r is e = turned_away house w out accepted _ answer r is e
