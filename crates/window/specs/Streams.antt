-- Bytes that come in parts, read by any machine that takes records off their front.
use Rattle.std.specs.Prelude.{◌≡◌, ◌++◌, ◌+◌, ◌-◌, ◌<◌, ◌≤◌}
use Rattle.ground.specs.Kit.{Bool, true, false, cond, not, List, [], ℕ, zero, suc, min, eqb, length, take, drop, get_or}

-- what a machine does with the bytes that have come: it waits for more, or takes a record, which may stop it, says something, and remembers
pub record Turn (S : Type 0) : Type 0 where
  pub waits : Bool
  pub stops : Bool
  pub used : ℕ
  pub says : List ℕ
  pub next : S

-- the unread bytes, and whether the input has ended
abbrev pub Machine : Type 0 → Type 0
Machine S = S → List ℕ → Bool → Turn S

-- of the bytes that are still to come, those that a read brings: one, and as many more as the part says, as far as there is space for them
abbrev pub brings : ℕ → ℕ → List ℕ → List ℕ
brings space part coming = take (min (suc part) space) coming

module _ {S : Type 0} (step : Machine S) (room : ℕ) where
  -- a machine that tells each record from bytes that there is room for, whatever follows them
  pub record Steady : Type 0 where
    -- a record that can be told is the same whatever follows, and whether or not the input has ended
    pub same : (s : S) (bytes more : List ℕ) (ended : Bool) → (step s bytes false).waits ≡ false → step s (bytes ++ more) ended ≡ step s bytes false
    -- one after which it goes on has a byte at the least, and is there whole
    pub uses : (s : S) (bytes : List ℕ) (ended : Bool) → (step s bytes ended).waits ≡ false → (step s bytes ended).stops ≡ false
        → (0 < (step s bytes ended).used) × ((step s bytes ended).used ≤ length bytes)
    -- there is none where there are no bytes
    pub none : (s : S) (ended : Bool) → (step s [] ended).waits ≡ true
    -- where no more come, whatever is there is told
    pub tells : (s : S) (bytes : List ℕ) → 0 < length bytes → (step s bytes true).waits ≡ false
    -- while it waits there is room for more
    pub few : (s : S) (bytes : List ℕ) (ended : Bool) → (step s bytes ended).waits ≡ true → length bytes < room

-- what it says at its end, by whether a record has stopped it and by what it remembers: a sum, a verdict, an exit status
abbrev pub Closing : Type 0 → Type 0
Closing S = Bool → S → List ℕ

-- a turn, with what is said from then on: after a read, if it waits and more may come, or after its record
abbrev pub saying : {S : Type 0} → Closing S → S → Turn S → Bool → List ℕ → List ℕ → List ℕ
saying closes s t more read on = cond t.waits (cond more read (closes false s)) (t.says ++ cond t.stops (closes true t.next) on)

module _ {S : Type 0} (step : Machine S) (closes : Closing S) where
  -- all that is said of an input that is there whole; n bounds the number of records
  abbrev pub says_from : ℕ → S → List ℕ → List ℕ
  says_from zero s input = closes false s
  says_from (suc n) s input = let t = step s input true in saying closes s t false [] (says_from n t.next (drop t.used input))

  -- a record that goes on has a byte at the least
  abbrev pub says_of : S → List ℕ → List ℕ
  says_of s input = says_from (length input) s input

  module _ (room : ℕ) where
    -- so many turns of a machine that reads, with the bytes that are still to come and the parts in which they do; a read that brings none is the last
    abbrev pub reading : ℕ → S → List ℕ → Bool → List ℕ → List ℕ → List ℕ
    reading zero s unread ended coming parts = []
    reading (suc n) s unread ended coming parts =
        let t = step s unread ended in
        let more = brings (room - length unread) (get_or parts 0 0) coming in
        saying closes s t (not ended)
        (reading n s (unread ++ more) (eqb (length more) 0) (drop (length more) coming) (drop 1 parts))
        (reading n t.next (drop t.used unread) ended coming parts)

    -- in whatever parts the input comes, the same is said, and it comes to its end with the same remembered
    abbrev pub AnyParts : Type 0
    AnyParts = Steady step room → (s : S) (input parts : List ℕ) (n : ℕ) → length input + length input + 2 ≤ n → reading n s [] false input parts ≡ says_of s input
