-- What comes behind a record that can be told changes no word. Assumes nothing.
use Rattle.std.specs.Prelude.{◌≡◌, ◌∷◌, ◌++◌, Option, Some, None}
use Rattle.ground.specs.Kit.{refl, ap, List, [], ℕ, arith}
use Rattle.state.specs.declared.{Sense.Sense}
use Rattle.record.specs.declared.{Record.Record}
use Rattle.ground.specs.Bytes.{text}
use Rattle.record.specs.Records.{record_of}
use Rattle.record.specs.Holding.{Holds}
use Rattle.record.proofs.Holding.{all_hold}
use Rattle.record.proofs.Waiting.{enough_tells, behind_header}
use Rattle.explain.specs.Explaining.{command_text, meaning_of, explained_text, SameWords}
use Rattle.record.specs.declared.Record.TheVariants.{Insert, Eject, Command, Feed, Pull}

-- of the bytes only a packet is told
same_meaning : (bytes more : List ℕ) (house : ℕ) (sense : Sense) (count : ℕ) (r : Option Record) → Holds r bytes
    → meaning_of (bytes ++ more) house sense count r ≡ meaning_of bytes house sense count r
same_meaning bytes more house sense count (Some (Insert number prot)) h = refl
same_meaning bytes more house sense count (Some Eject) h = refl
same_meaning bytes more house sense count (Some Command) h =
    ap (λ (p : List ℕ). command_text p house sense) (behind_header bytes more 12 (omega (arith, h.0.1, h.1)))
same_meaning bytes more house sense count (Some (Feed n)) h = refl
same_meaning bytes more house sense count (Some (Pull n)) h = refl
same_meaning bytes more house sense count None h = refl

pub same_words : SameWords
unfolding explained_text
same_words bytes more house sense count e =
    rw ((enough_tells bytes e).same more)
    (ap (λ (words : List ℕ). text ": " ++ words ++ (10 ∷ [])) (same_meaning bytes more house sense count (record_of bytes) (all_hold bytes)))
