-- Every step that the state takes keeps it sound. Assumes nothing.
use Rattle.std.specs.Prelude.{◌≡◌, ◌&&◌, ◌||◌, ◌≤◌}
use Rattle.ground.specs.Kit.{refl, Bool, true, false, cond, not, ℕ, le-leb, ne_eqb, eqb, leb}
use Rattle.state.specs.declared.{Sense.Sense, Media.Media, State.State, Transfer.Transfer}
use Rattle.ground.proofs.Truth.{both}
use Rattle.state.specs.Senses.{no_disc, named_b}
use Rattle.state.specs.States.{left_of, is_open_b, closed_at_zero, inserted_of, ejected_of, obeyed_of, moved_of}
use Rattle.state.proofs.Closing.{by_left}
use Rattle.sound.specs.Soundness.{open_sound_b, sound_b}
use Rattle.sound.proofs.Opened.{Discless, shut, answers, discless}

-- the clauses of soundness
pub record Parts (s : State) : Type 0 where
  pub low : leb s.media.disc 4 ≡ true
  pub bare : (not (eqb s.media.disc 0) || not s.media.protected) ≡ true
  pub named : named_b s.host.sense ≡ true
  pub opened : open_sound_b s.media s.transfer ≡ true

pub parts : (s : State) → sound_b s ≡ true → Parts s
unfolding sound_b
parts s e =
    let a = leb s.media.disc 4 in
    let b = not (eqb s.media.disc 0) || not s.media.protected in
    let n = named_b s.host.sense in
    let (abn, o) = both (a && b && n) (open_sound_b s.media s.transfer) e in
    let (ab, n') = both (a && b) n abn in
    let (a', b') = both a b ab in
    record { low = a'; bare = b'; named = n'; opened = o }

-- what is left of a transfer is open
left_sound : (m : Media) (t : Transfer) → ((left_of t ≡ 0 → ⊥) → open_sound_b m t ≡ true) → open_sound_b m (closed_at_zero t) ≡ true
unfolding open_sound_b
left_sound m t some = by_left (λ t. open_sound_b m t ≡ true) t (λ _. refl) some

module _ (s : State) (e : sound_b s ≡ true) (t : Transfer) (some : (left_of t ≡ 0 → ⊥) → open_sound_b s.media t ≡ true) where
  pub obeyed_sound : (sense : Sense) (motor : Bool) → named_b sense ≡ true → sound_b (obeyed_of s sense motor t) ≡ true
  unfolding sound_b obeyed_of
  obeyed_sound sense motor n = let p = parts s e in rw (p.low, p.bare, n, left_sound s.media t some)

  pub moved_sound : sound_b (moved_of s t) ≡ true
  unfolding sound_b moved_of
  moved_sound = let p = parts s e in rw (p.low, p.bare, p.named, left_sound s.media t some)

-- a transfer that is open without a disc stays sound with one
with_disc : (m n : Media) → m.disc ≡ 0 → (t : Transfer) → open_sound_b m t ≡ true → open_sound_b n t ≡ true
unfolding open_sound_b
with_disc m n none t e = here (discless m none t e)
  where
    here : Discless t → open_sound_b n t ≡ true
    here (shut q) = rw q
    here (answers p q) = rw q (rw q at e)

pub inserted_sound : (s : State) (number : ℕ) (prot : Bool) → s.media.disc ≡ 0 → (number ≡ 0 → ⊥) → number ≤ 4 → sound_b s ≡ true
    → sound_b (inserted_of s number prot) ≡ true
unfolding sound_b inserted_of
inserted_sound s number prot none is_in_lem h e =
    let p = parts s e in
    rw (le-leb number 4 h, ne_eqb number 0 is_in_lem, p.named, with_disc s.media _ none s.transfer p.opened)

named_after : (sense : Sense) (b : Bool) → named_b sense ≡ true → named_b (cond b no_disc sense) ≡ true
unfolding named_b
named_after sense true n = refl
named_after sense false n = n

pub ejected_sound : (s : State) → sound_b s ≡ true → sound_b (ejected_of s) ≡ true
unfolding sound_b ejected_of open_sound_b
ejected_sound s e = rw (named_after s.host.sense (is_open_b s.transfer) (parts s e).named)
