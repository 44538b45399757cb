-- What is printed of a record: whole, and the same whatever comes behind the record. Assumes nothing.
use Rattle.std.specs.Prelude.{◌≡◌, ◌++◌, ◌+◌, ◌-◌, ◌<◌, ◌≤◌}
use Rattle.ground.specs.Kit.{sym, ap, ◌∙◌, Bool, true, false, cond, or-false, true≢false, List, append_assoc, ℕ, arith, length, take, drop, length-append, length-take-le, length-drop, take-append-le, drop-append-add, drop-drop}
use Rattle.state.specs.declared.{Sense.Sense}
use Rattle.house.specs.World.{World}
use Rattle.record.specs.Records.{record_of}
use Rattle.record.specs.Waiting.{enough_b}
use Rattle.text.specs.Ink.{Ink, ink, put_all}
use Rattle.text.proofs.Putting.{fits_whole, fits_first}
use Rattle.explain.specs.Explaining.{explained_text}
use Rattle.explain.proofs.Short.{short_text}
use Rattle.explain.proofs.Same.{same_words}
use Rattle.player.specs.Playing.{Said, said_of}
use Rattle.player.specs.Lines.{line_of}
use Rattle.player.specs.Steps.{Stepped, played_of, step_of}
use Rattle.player.proofs.Lengths.{fits_line}
use Rattle.player.proofs.Theorems.{by_ready, whatever_follows}
use Rattle.turns.specs.Turns.{worded_line, in_line, worded}
use Rattle.runs.specs.WholeRuns.{printed_line, WholePrinted}

some_words : (bytes : List ℕ) (house : ℕ) (sense : Sense) (count : ℕ) → 0 < length (explained_text bytes house sense count)
unfolding explained_text
some_words bytes house sense count = omega arith

-- words put in the place of the last byte of a text that stands at the start of a line
put_behind : (text words line : List ℕ) → 0 < length words → length text + length words ≤ length line
    → let all = take (length text - 1) text ++ words in
    put_all (ink (length text - 1) (text ++ drop (length text) line)) words ≡ ink (length all) (all ++ drop (length all) line)
put_behind text words line some fits =
    let first = length text - 1 in
    let whole = text ++ drop (length text) line in
    let long : length whole ≡ length line = omega (arith, length-append text (drop (length text) line), length-drop (length text) line) in
    let cut : length (take first text) ≡ first = length-take-le first text (omega arith) in
    let end : length (take first text ++ words) ≡ first + length words = omega (arith, length-append (take first text) words) in
    let past = first + length words - length text in
    let same : first + length words ≡ length text + past = omega arith in
    let rest : drop (first + length words) whole ≡ drop (first + length words) line =
    rw (same, drop-append-add text (drop (length text) line) past, drop-drop past (length text) line) in
    rw (fits_whole first whole words (omega arith), end, take-append-le first text (drop (length text) line) (omega arith), rest, append_assoc (take first text) words (drop (first + length words) line))

pub whole_printed : WholePrinted
unfolding played_of worded_line printed_line
whole_printed explain w number script ended line wide =
    by_ready w number script ended line
    (λ s. s.waits ≡ false
    → let all = printed_line explain number script said in worded_line explain script s ≡ ink (length all) (all ++ drop (length all) line))
    (λ _ _. here explain)
    (λ _ e. absurd (true≢false e))
  where
    said : Said
    said = said_of w script (record_of script)

    text : List ℕ
    text = line_of number said

    words : List ℕ
    words = explained_text script said.house said.world.state.host.sense said.count

    stands : put_all (ink 0 line) text ≡ ink (length text) (text ++ drop (length text) line)
    stands = fits_first line text (omega (arith, wide, fits_line w number script))

    short : length text + length words ≤ length line
    short = omega (arith, wide, fits_line w number script, short_text script said.house said.world.state.host.sense said.count)

    here : (b : Bool)
        → let i = put_all (ink 0 line) text in
        let all = cond b (take (length text - 1) text ++ words) text in
        cond b (put_all (ink (i.at - 1) i.line) words) i ≡ ink (length all) (all ++ drop (length all) line)
    here true =
        ap (λ (i : Ink). put_all (ink (i.at - 1) i.line) words) stands
        ∙ put_behind text words line (some_words script said.house said.world.state.host.sense said.count) short
    here false = stands

-- the same words are put
same_line : (explain : Bool) (bytes more : List ℕ) (s : Stepped) → enough_b bytes ≡ true → worded_line explain (bytes ++ more) s ≡ worded_line explain bytes s
unfolding worded_line
same_line explain bytes more s e = rw (same_words bytes more s.house s.world.state.host.sense s.count e)

pub whatever_is_behind : (explain : Bool) (w : World) (number : ℕ) (bytes more : List ℕ) (ended : Bool) (line : List ℕ)
    → (step_of w number bytes false line).waits ≡ false
    → worded explain (bytes ++ more) (step_of w number (bytes ++ more) ended line) ≡ worded explain bytes (step_of w number bytes false line)
unfolding played_of
whatever_is_behind explain w number bytes more ended line e =
    ap (worded explain (bytes ++ more)) (whatever_follows w number bytes more ended line e)
    ∙ by_ready w number bytes false line (λ s. s.waits ≡ false → worded explain (bytes ++ more) s ≡ worded explain bytes s)
    (λ ready _.
    let s = played_of number bytes line (said_of w bytes (record_of bytes)) in
    ap (in_line s) (same_line explain bytes more s (sym (or-false (enough_b bytes)) ∙ ready)))
    (λ _ f. absurd (true≢false f))
    e
