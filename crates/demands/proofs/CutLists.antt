-- A parameter list that is cut after its first byte is taken and judged as it is whole. Assumes nothing.
use Rattle.std.specs.Prelude.{◌≡◌, ◌∷◌, ◌+◌, ◌-◌}
use Rattle.ground.specs.Kit.{refl, sym, ap, subst, ◌∙◌, Bool, true, false, List, [], ℕ, suc, min, sub-zero, arith, eqb, eqb-true, eqb-false, eq-eqb, ne_eqb, length, take, sets}
use Rattle.state.specs.declared.{State.State, ListAt.ListAt}
use Rattle.state.specs.declared.Transfer.TheVariants.{Closed, ParameterList}
use Rattle.state.specs.States.{list_bytes, obeyed_of, moved_of, list_after}
use Rattle.house.specs.World.{World, in_state, in_buffer}
use Rattle.house.specs.Theorems.{Ready}
use Rattle.sound.proofs.Opened.{Lists}
use Rattle.moves.proofs.Spans.{may_list}
use Rattle.feeds.specs.Feeding.{list_gathers, list_goes}
use Rattle.feeds.proofs.ByTransfer.{by_list, feeds, feeds_list}
use Rattle.drive.specs.Calls.{Call, Feed, call_of}
use Rattle.demands.specs.Device.{Device}
use Rattle.demands.specs.Uncut.{Lent, lent}
use Rattle.demands.proofs.Serving.{lend_one, join, Puts, Feeds}

-- the first byte may be lent before the others
abbrev pub FirstApart : Device → (List ℕ → Call) → World → Type 0
FirstApart d way w =
    (x : ℕ) (xs : List ℕ)
    → let one = lend_one d way w (x ∷ []) in
    Ready one.world → lend_one d way w (x ∷ xs) ≡ join one (lend_one d way one.world xs)

module _ {d : Device} {puts : Puts} (f : Feeds d puts) where
  -- what a feed of an open list leaves
  abbrev listing : ListAt → World → List ℕ → Lent
  listing p w x = let n = min (length x) p.left in lent n x (list_goes p n (list_gathers p w (take n x)))

  fed : (w : World) → Ready w → (p : ListAt) → w.state.transfer ≡ ParameterList p → (x : List ℕ) → lend_one d Feed w x ≡ listing p w x
  unfolding call_of
  fed w r p e x = rw (f.lists w p x r e, ← feeds_list w x r p e)

  -- nothing is open
  unfed : (w : World) → Ready w → w.state.transfer ≡ Closed → (x : List ℕ) → lend_one d Feed w x ≡ lent 0 x w
  unfed w r e x = f.unfed w x r (feeds w x r ∙ rw e)

  module _ (w : World) (r : Ready w) (p : ListAt) (e : w.state.transfer ≡ ParameterList p) where
    is_open : Lists w.state.media p
    is_open = may_list w r p e

    -- where no byte comes nothing changes
    still : moved_of w.state (ParameterList (list_after p 0)) ≡ w.state
    unfolding moved_of
    still = rw (sub-zero p.left, ne_eqb p.left 0 (λ z. omega (arith, is_open.some, z)), ← e)

    pub list_nothing : lend_one d Feed w [] ≡ lent 0 [] w
    list_nothing =
        let none : min 0 p.left ≡ 0 = omega arith in
        fed w r p e []
        ∙ rw (none, ne_eqb 0 p.left (λ z. omega (arith, is_open.some, z))) (ap (λ (s : State). lent 0 [] (in_state w s)) still)

    -- a whole list has closed
    closed : (n : ℕ) (u : World) → n ≡ p.left → (list_goes p n u).state.transfer ≡ Closed
    unfolding obeyed_of moved_of
    closed n u whole = by_list p n u (λ v. v.state.transfer ≡ Closed) (λ part. absurd (part whole)) (λ _ _. refl) (λ _ _. refl)

    -- the last byte is the first of the piece
    last-first : p.left ≡ 1 → FirstApart d Feed w
    last-first one x xs r₁ =
        let first = fed w r p e (x ∷ []) in
        let few : min 1 p.left ≡ 1 = omega arith in
        let same : min (suc (length xs)) p.left ≡ 1 = omega arith in
        let v = list_goes p 1 (list_gathers p w (x ∷ [])) in
        let whole : lend_one d Feed w (x ∷ []) ≡ lent 1 (x ∷ []) v = first ∙ rw few in
        let rest = unfed v (subst (λ (l : Lent). Ready l.world) whole r₁) (closed 1 (list_gathers p w (x ∷ [])) (sym one)) xs in
        let all : lend_one d Feed w (x ∷ xs) ≡ lent 1 (x ∷ xs) v = fed w r p e (x ∷ xs) ∙ rw same in
        all ∙ sym (ap (λ (l : Lent). join l (lend_one d Feed l.world xs)) whole ∙ ap (join (lent 1 (x ∷ []) v)) rest)

    module _ (more : p.left ≡ 1 → ⊥) (x : ℕ) where
      -- what is left of it, and the world, after the first byte
      abbrev p₁ : ListAt
      p₁ = list_after p 1

      abbrev w₁ : World
      w₁ = in_state (list_gathers p w (x ∷ [])) (moved_of w.state (ParameterList p₁))

      open₁ : w₁.state.transfer ≡ ParameterList p₁
      unfolding moved_of
      open₁ = rw (ne_eqb (p.left - 1) 0 (λ z. more (omega (arith, is_open.some, z))))

      taken : lend_one d Feed w (x ∷ []) ≡ lent 1 (x ∷ []) w₁
      taken =
          let few : min 1 p.left ≡ 1 = omega (arith, is_open.some) in
          fed w r p e (x ∷ []) ∙ rw (few, ne_eqb 1 p.left (λ z. more (sym z)))

      -- the others then do what they would do behind it
      onward : (m : ℕ) (buffer : List ℕ) → list_goes p (suc m) (in_buffer w buffer) ≡ list_goes p₁ m (in_buffer w₁ buffer)
      unfolding obeyed_of moved_of
      onward m buffer = here (eqb m (p.left - 1)) refl
        where
          here : (b : Bool) → eqb m (p.left - 1) ≡ b → list_goes p (suc m) (in_buffer w buffer) ≡ list_goes p₁ m (in_buffer w₁ buffer)
          here true q = rw (q, eq-eqb (suc m) p.left (omega (arith, eqb-true m (p.left - 1) q, is_open.some)))
          here false q =
              let no = eqb-false m (p.left - 1) q in
              let left : p.left - suc m ≡ p.left - 1 - m = omega arith in
              rw (q, ne_eqb (suc m) p.left (λ z. no (omega (arith, z))), left)

      not-last-first : (xs : List ℕ) → Ready (lend_one d Feed w (x ∷ [])).world
          → lend_one d Feed w (x ∷ xs) ≡ join (lend_one d Feed w (x ∷ [])) (lend_one d Feed (lend_one d Feed w (x ∷ [])).world xs)
      not-last-first xs r₁ =
          let m : ℕ = min (length xs) (p.left - 1) in
          let count : min (suc (length xs)) p.left ≡ suc m = omega (arith, is_open.some) in
          let count' : 1 + m ≡ suc m = omega arith in
          let place : list_bytes - (p.left - 1) ≡ suc (list_bytes - p.left) = omega (arith, is_open.some, is_open.few) in
          let rest = fed w₁ (subst (λ (l : Lent). Ready l.world) taken r₁) p₁ open₁ xs in
          let buffer = sets w.buffer (list_bytes - p.left) (x ∷ take m xs) in
          let whole : listing p w (x ∷ xs) ≡ lent (suc m) (x ∷ xs) (list_goes p₁ m (in_buffer w₁ buffer)) =
          rw count (ap (lent (suc m) (x ∷ xs)) (onward m buffer)) in
          let behind : join (lent 1 (x ∷ []) w₁) (listing p₁ w₁ xs) ≡ lent (suc m) (x ∷ xs) (list_goes p₁ m (in_buffer w₁ buffer)) =
          rw (place, count') in
          fed w r p e (x ∷ xs) ∙ whole ∙ sym behind
          ∙ sym (ap (λ (l : Lent). join l (lend_one d Feed l.world xs)) taken ∙ ap (join (lent 1 (x ∷ []) w₁)) rest)

    pub list_first : FirstApart d Feed w
    list_first x xs r₁ = here (eqb p.left 1) refl
      where
        here : (b : Bool) → eqb p.left 1 ≡ b → lend_one d Feed w (x ∷ xs) ≡ join (lend_one d Feed w (x ∷ [])) (lend_one d Feed (lend_one d Feed w (x ∷ [])).world xs)
        here true q = last-first (eqb-true p.left 1 q) x xs r₁
        here false q = not-last-first (eqb-false p.left 1 q) x xs r₁
