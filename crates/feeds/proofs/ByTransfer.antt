-- A feed by the open transfer: what a proof has to show of it. Assumes nothing.
use Rattle.std.specs.Prelude.{◌≡◌, Result, IsErrAnd}
use Rattle.ground.specs.Kit.{refl, sym, ◌∙◌, Bool, true, false, List, ℕ, min, length, take, eqb, eqb-true, eqb-false}
use Rattle.state.specs.declared.{DiscAt.DiscAt, ListAt.ListAt, Transfer.Transfer}
use Rattle.state.specs.declared.Transfer.TheVariants.{Closed, Answer, Read, Write, ParameterList}
use Rattle.disc.specs.Formats.{format_of}
use Rattle.state.specs.Senses.{bad_list}
use Rattle.state.specs.States.{obeyed_of, moved_of, list_after}
use Rattle.house.specs.declared.{Refusal.Refusal}
use Rattle.house.specs.World.{World, in_state, in_disc, Reply, reply, unless_refused}
use Rattle.house.specs.Refusals.{refusal_number}
use Rattle.house.specs.Theorems.{Ready}
use Rattle.house.proofs.Houses.{ready_in, turned_away}
use Rattle.lists.specs.Lists.{bad_list_b, meant_of, formatted, list_judged}
use Rattle.moves.specs.declared.{Moved.Moved}
use Rattle.moves.specs.Replies.{idle, moved}
use Rattle.moves.proofs.Leaving.{Leaves}
use Rattle.feeds.specs.Feeding.{write_fed, list_gathers, list_goes, list_fed, takes, feed_by, feed_of}

-- a transfer that takes nothing, and each that takes bytes
pub data Feeding (t : Transfer) : Type 0 where
  idles : takes t ≡ 0 → ((w : World) (piece : List ℕ) → feed_by t w piece ≡ idle w piece) → Feeding t
  writes : (p : DiscAt) → t ≡ Write p → Feeding t
  lists : (p : ListAt) → t ≡ ParameterList p → Feeding t

pub feeding : (t : Transfer) → Feeding t
feeding Closed = idles refl (λ w piece. refl)
feeding (Answer p) = idles refl (λ w piece. refl)
feeding (Read p) = idles refl (λ w piece. refl)
feeding (Write p) = writes p refl
feeding (ParameterList p) = lists p refl

-- what n bytes more of a list leave: it goes on, it is refused, or it is obeyed
pub by_list : (p : ListAt) (n : ℕ) (w : World) (P : World → Type 0)
    → let number = w.state.media.disc in
    ((n ≡ p.left → ⊥) → P (in_state w (moved_of w.state (ParameterList (list_after p n)))))
    → (n ≡ p.left → bad_list_b (format_of number) w.buffer ≡ true → P (in_state w (obeyed_of w.state bad_list w.state.motor Closed)))
    → (n ≡ p.left → bad_list_b (format_of number) w.buffer ≡ false
    → P (in_disc (in_state w (moved_of w.state Closed)) (formatted number (meant_of (format_of number) p.track w.buffer) w.disc)))
    → P (list_goes p n w)
unfolding list_judged
by_list p n w P goes refused obeyed = here (eqb n p.left) refl (bad_list_b (format_of w.state.media.disc) w.buffer) refl
  where
    here : (b : Bool) → eqb n p.left ≡ b → (c : Bool) → bad_list_b (format_of w.state.media.disc) w.buffer ≡ c → P (list_goes p n w)
    here false q c f = rw q (goes (eqb-false n p.left q))
    here true q true f = rw (q, f) (refused (eqb-true n p.left q) f)
    here true q false f = rw (q, f) (obeyed (eqb-true n p.left q) f)

module _ (w : World) (piece : List ℕ) where
  -- past the house tests the open transfer decides
  pub feeds : Ready w → feed_of w piece ≡ feed_by w.state.transfer w piece
  unfolding feed_of
  feeds r = rw (ready_in w r)

  pub feeds_write : Ready w → (p : DiscAt) → w.state.transfer ≡ Write p → write_fed p w piece ≡ feed_of w piece
  feeds_write r p e = rw (feeds r, e)

  pub feeds_list : Ready w → (p : ListAt) → w.state.transfer ≡ ParameterList p → list_fed p w piece ≡ feed_of w piece
  feeds_list r p e = rw (feeds r, e)

  -- what a proof has to show of an accepted feed
  pub by_feeding : (P : Reply → Type 0) → (takes w.state.transfer ≡ 0 → P (idle w piece))
      → ((p : DiscAt) → w.state.transfer ≡ Write p → P (write_fed p w piece))
      → ((p : ListAt) → w.state.transfer ≡ ParameterList p → P (list_fed p w piece)) → P (feed_by w.state.transfer w piece)
  by_feeding P idle-case write-case list-case = here w.state.transfer refl (feeding w.state.transfer)
    where
      here : (t : Transfer) → w.state.transfer ≡ t → Feeding t → P (feed_by t w piece)
      here t e (idles none same) = rw (same w piece) (idle-case (rw e none))
      here t e (writes p f) = rw f (write-case p (e ∙ f))
      here t e (lists p f) = rw f (list-case p (e ∙ f))

  -- whatever it takes
  pub fed_leaves : Leaves w (feed_by w.state.transfer w piece)
  unfolding moved_of obeyed_of
  fed_leaves =
      by_feeding (Leaves w) (λ _. record { house = refl; media = refl; power = refl; change = refl })
      (λ p e. record { house = refl; media = refl; power = refl; change = refl })
      (λ p e.
      let n = min (length piece) p.left in
      by_list p n (list_gathers p w (take n piece)) (λ v. Leaves w (reply 0 false n piece v)) (λ _. record { house = refl; media = refl; power = refl; change = refl })
      (λ _ _. record { house = refl; media = refl; power = refl; change = refl })
      (λ _ _. record { house = refl; media = refl; power = refl; change = refl }))

-- what the default of a `match` on the transfer is given, that it is neither of the others, is enough
pub unfed : (w : World) (piece : List ℕ) (t : Transfer) → ((p : DiscAt) → t ≡ Write p → ⊥) → ((p : ListAt) → t ≡ ParameterList p → ⊥)
    → idle w piece ≡ feed_by t w piece
unfed w piece t no_write no_list = here (feeding t)
  where
    here : Feeding t → idle w piece ≡ feed_by t w piece
    here (idles none same) = sym (same w piece)
    here (writes p e) = absurd (no_write p e)
    here (lists p e) = absurd (no_list p e)

-- the exit of a refused feed
pub feed_refused : (w : World) (piece : List ℕ) (house : ℕ) (accepted : Reply) (answer : Result Moved Refusal) (r : Refusal) → IsErrAnd answer (λ q. q ≡ r)
    → refusal_number r ≡ house → moved answer piece w ≡ unless_refused house w piece accepted
feed_refused w piece house accepted answer r is e = turned_away house w piece accepted _ answer r is e
