-- Putting goes on byte by byte. Assumes nothing.
use Rattle.std.specs.Prelude.{◌≡◌, ◌∷◌, ◌++◌, ◌+◌, ◌<◌, ◌≤◌}
use Rattle.ground.specs.Kit.{refl, sym, ap, ◌∙◌, Bool, true, false, cond, List, [], ℕ, suc, arith, add-zero, zero-add, add-one, lt-ltb, ltb-true, ltb, length, drop, get_or, set, length-set, drop-cons, sets, sets-eq}
use Rattle.text.specs.Ink.{Ink, Inked, ink, put_byte, put_all, put_on, FitsWhole, StaysInLine, OneText, OneLine}

pub put_append : (i : Ink) (xs ys : List ℕ) → put_all i (xs ++ ys) ≡ put_all (put_all i xs) ys
unfolding put_all
put_append i [] ys = refl
put_append i (x ∷ xs) ys = put_append (put_byte i x) xs ys

-- two puts as one, so that `grind` goes from put to put
pub put_behind : (i : Ink) (xs ys : List ℕ) → put_all (put_all i xs) ys ≡ put_all i (xs ++ ys)
put_behind i xs ys = sym (put_append i xs ys)

-- and in the line at hand
pub put_on_append : (i : Inked) (xs ys : List ℕ) → put_on i (xs ++ ys) ≡ put_on (put_on i xs) ys
put_on_append i xs ys = ap (λ (k : Ink). record { buffer = i.buffer; ink = k }) (put_append i.ink xs ys)

-- of what is said byte after byte, the first j bytes are put: what is left brings the whole
abbrev pub PutSoFar : (List ℕ → List ℕ) → List ℕ → Inked → ℕ → Inked → Type 0
PutSoFar say bytes start j i = put_on i (say (drop j bytes)) ≡ put_on start (say bytes)

pub one_more : (say : List ℕ → List ℕ) (one : ℕ → List ℕ) → ((b : ℕ) (bs : List ℕ) → say (b ∷ bs) ≡ one b ++ say bs)
    → (bytes : List ℕ) (start : Inked) (j : ℕ) (i k : Inked) → PutSoFar say bytes start j i → j < length bytes → k ≡ put_on i (one (get_or bytes j 0))
    → PutSoFar say bytes start (j + 1) k
one_more say one each bytes start j i k so_far h puts =
    let b = get_or bytes j 0 in
    let rest = say (drop (suc j) bytes) in
    let all = rw (drop-cons bytes j 0 h, each b (drop (suc j) bytes)) at so_far in
    rw (puts, add-one j) (sym (put_on_append i (one b) rest) ∙ all)

-- and in the line at hand
pub put_on_then : (i : Inked) (xs ys : List ℕ) (j k : Inked) → j ≡ put_on i xs → k ≡ put_on j ys → k ≡ put_on i (xs ++ ys)
put_on_then i xs ys j k e f = f ∙ ap (λ (m : Inked). put_on m ys) e ∙ sym (put_on_append i xs ys)

-- where there is room, each byte is stored
puts : (text : List ℕ) (at : ℕ) (line : List ℕ) → at + length text ≤ length line
    → put_all (ink at line) text ≡ ink (at + length text) (sets line at text)
unfolding put_all
puts [] at line h = rw (add-zero at)
puts (x ∷ xs) at line h =
    let next : at + suc (length xs) ≡ suc at + length xs = omega arith in
    rw (lt-ltb at (length line) (omega arith), add-one at, next) (puts xs (suc at) (set line at x) (rw (length-set line at x) (omega arith)))

pub fits_whole : FitsWhole
fits_whole at line text h = rw (puts text at line h, sets-eq text line at h)

-- at the start of the line
pub fits_first : (line text : List ℕ) → length text ≤ length line → put_all (ink 0 line) text ≡ ink (length text) (text ++ drop (length text) line)
fits_first line text h = rw (fits_whole 0 line text (omega arith), zero-add (length text))

one_stays : (i : Ink) (b : ℕ) → i.at ≤ length i.line
    → ((put_byte i b).at ≤ length i.line) × (length (put_byte i b).line ≡ length i.line)
one_stays i b h = here (ltb i.at (length i.line)) refl
  where
    here : (t : Bool) → ltb i.at (length i.line) ≡ t
        → ((cond t (ink (i.at + 1) (set i.line i.at b)) i).at ≤ length i.line)
        × (length (cond t (ink (i.at + 1) (set i.line i.at b)) i).line ≡ length i.line)
    here true e = (omega (arith, ltb-true i.at (length i.line) e), length-set i.line i.at b)
    here false e = (h, refl)

pub stays_in_line : StaysInLine
unfolding put_all
stays_in_line i [] h = (h, refl)
stays_in_line i (b ∷ bs) h =
    let (at, same) = one_stays i b h in
    let (end, all) = stays_in_line (put_byte i b) bs (rw same at) in
    (rw (← same) end, all ∙ same)

pub one_text : OneText
one_text i text r q l m e f = let same = e ∙ sym f in (ap (λ (j : Ink). j.at) same, ap (λ (j : Ink). j.line) same)

pub one_line : OneLine
one_line i text l m e f =
    let same = e ∙ sym f in
    (ap (λ (k : Inked). k.ink.at) same, ap (λ (k : Inked). k.ink.line) same, ap (λ (k : Inked). k.buffer) same)
