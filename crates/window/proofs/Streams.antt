-- In whatever parts the bytes come, the same is said of them. Assumes nothing.
use Rattle.std.specs.Prelude.{◌≡◌, ◌∷◌, ◌++◌, ◌+◌, ◌-◌, ◌<◌, ◌≤◌}
use Rattle.ground.specs.Kit.{refl, sym, ap, ◌∙◌, Bool, true, false, cond, not, false≢true, true≢false, List, [], append-nil, append_assoc, ℕ, zero, suc, min, arith, eqb-true, eqb-false, eqb, length, take, drop, get_or, length-append, length-take, length-drop, take-append-drop, drop-append-le}
use Rattle.std.proofs.lemmas.List.{drop_min, nil_from_length}
use Rattle.window.specs.Streams.{Turn, Machine, Closing, says_from, brings, reading, Steady, AnyParts}

-- the first bytes of an input and those behind them
whole : (n : ℕ) (bytes : List ℕ) → take n bytes ++ drop (length (take n bytes)) bytes ≡ bytes
whole n bytes = rw (length-take n bytes, drop_min n bytes) (take-append-drop n bytes)

-- the bytes behind the unread ones
abbrev rest : Bool → List ℕ → List ℕ
rest ended coming = cond ended [] coming

-- there are turns for the bytes, the reads and the end, and the bytes keep to the bound
record Enough (n k : ℕ) (unread : List ℕ) (ended : Bool) (coming : List ℕ) : Type 0 where
  turns : length unread + length (rest ended coming) + length (rest ended coming) + cond ended 0 1 < n
  bound : length unread + length (rest ended coming) ≤ k

module _ {S : Type 0} (step : Machine S) (closes : Closing S) (room : ℕ) (steady : Steady step room) where
  -- so many turns say what the definition says, where the next waits or not
  abbrev Says : ℕ → Bool → Type 0
  Says n waits = (k : ℕ) (s : S) (unread : List ℕ) (ended : Bool) (coming parts : List ℕ) → Enough n k unread ended coming
      → (step s unread ended).waits ≡ waits
      → reading step closes room n s unread ended coming parts ≡ says_from step closes k s (unread ++ rest ended coming)

  none : (k : ℕ) (s : S) → closes false s ≡ says_from step closes k s []
  none zero s = refl
  none (suc k) s = rw (steady.none s true)

  -- the turn of the whole input is that of the bytes that have come
  told : (s : S) (unread : List ℕ) (ended : Bool) (coming : List ℕ) → (step s unread ended).waits ≡ false
      → step s (unread ++ rest ended coming) true ≡ step s unread ended
  told s unread true coming e = rw (append-nil unread)
  told s unread false coming e = steady.same s unread coming true e

  some : (s : S) (unread : List ℕ) (ended : Bool) → (step s unread ended).waits ≡ false → 0 < length unread
  some s [] ended e = absurd (true≢false (sym (steady.none s ended) ∙ e))
  some s (x ∷ xs) ended e = omega arith

  module _ (n : ℕ) (after : (waits : Bool) → Says n waits) where
    -- one read more, or the end
    first-waits : Says (suc n) true
    first-waits k s unread ended coming parts h e = rw e (on unread ended h e)
      where
        on : (unread : List ℕ) (ended : Bool) → Enough (suc n) k unread ended coming → (step s unread ended).waits ≡ true
            → let more = brings (room - length unread) (get_or parts 0 0) coming in
            cond (not ended) (reading step closes room n s (unread ++ more) (eqb (length more) 0) (drop (length more) coming) (drop 1 parts)) (closes false s)
            ≡ says_from step closes k s (unread ++ rest ended coming)
        on [] true h e = none k s
        on (x ∷ xs) true h e = absurd (false≢true (sym (steady.tells s (x ∷ xs) (omega arith)) ∙ e))
        on unread false h e = reads (eqb (length more) 0) refl
          where
            m : ℕ
            m = min (suc (get_or parts 0 0)) (room - length unread)

            more : List ℕ
            more = take m coming

            reads : (b : Bool) → eqb (length more) 0 ≡ b
                → reading step closes room n s (unread ++ more) b (drop (length more) coming) (drop 1 parts) ≡ says_from step closes k s (unread ++ coming)
            reads true z =
                let few = steady.few s unread false e in
                let long = length-take m coming in
                let front = length-append unread more in
                let zero = eqb-true (length more) 0 z in
                let ends : unread ++ more ++ [] ≡ unread ++ coming =
                rw (nil_from_length more zero, nil_from_length coming (omega (arith, few, long, zero)), append-nil (unread ++ [])) in
                after _ k s (unread ++ more) true (drop (length more) coming) (drop 1 parts)
                (record { turns = omega (arith, few, long, front, zero, h.turns); bound = omega (arith, few, long, front, zero, h.bound) }) refl
                ∙ ap (says_from step closes k s) ends
            reads false z =
                let front = length-append unread more in
                let back = length-drop (length more) coming in
                let long = length-take m coming in
                let some = eqb-false (length more) 0 z in
                after _ k s (unread ++ more) false (drop (length more) coming) (drop 1 parts)
                (record { turns = omega (arith, front, back, long, some, h.turns); bound = omega (arith, front, back, long, h.bound) }) refl
                ∙ ap (says_from step closes k s) (append_assoc unread more (drop (length more) coming) ∙ ap (λ (l : List ℕ). unread ++ l) (whole m coming))

    -- a record, and then what follows
    first-takes : Says (suc n) false
    first-takes zero s unread ended coming parts h e = absurd (omega (arith, some s unread ended e, h.bound))
    first-takes (suc k) s unread ended coming parts h e =
        rw (told s unread ended coming e, e) (ap (λ (more : List ℕ). t.says ++ more) (on t.stops refl))
      where
        t : Turn S
        t = step s unread ended

        on : (b : Bool) → t.stops ≡ b
            → cond b (closes true t.next) (reading step closes room n t.next (drop t.used unread) ended coming parts)
            ≡ cond b (closes true t.next) (says_from step closes k t.next (drop t.used (unread ++ rest ended coming)))
        on true _ = refl
        on false goes =
            let (some, there) = steady.uses s unread ended e goes in
            let left = length-drop t.used unread in
            rw (drop-append-le t.used unread (rest ended coming) there)
            (after _ k t.next (drop t.used unread) ended coming parts
            (record { turns = omega (arith, left, some, there, h.turns); bound = omega (arith, left, some, there, h.bound) })
            refl)

  says : (n : ℕ) (waits : Bool) → Says n waits
  says zero _ = λ _ _ _ _ _ _ h _. absurd (omega (arith, h.turns))
  says (suc n) true = first-waits n (says n)
  says (suc n) false = first-takes n (says n)

pub any_parts : {S : Type 0} (step : Machine S) (closes : Closing S) (room : ℕ) → AnyParts step closes room
any_parts step closes room steady s input parts n h =
    says step closes room steady n _ (length input) s [] false input parts (record { turns = omega (arith, h); bound = omega arith }) refl
