-- The text of a part has room for its lines. Assumes nothing.
use Rattle.std.specs.Prelude.{◌≡◌, ◌∷◌, ◌*◌, ◌≤◌}
use Rattle.ground.specs.Kit.{Bool, true, false, List, [], flatten, ℕ, arith, length, take, drop, length-append, take-append_seam}
use Rattle.listing.specs.declared.{Difference.Difference}
use Rattle.text.specs.Ink.{ink, put_all}
use Rattle.text.proofs.Putting.{fits_first, stays_in_line}
use Rattle.text.proofs.Reading.{few_digits}
use Rattle.listing.specs.Listing.{line_of, lines_of, total_line}
use Rattle.listing.specs.Turns.{end_of}

line_short : (d : Difference) → length (line_of d) ≤ 63
unfolding line_of
line_short d = simp length-append (omega (arith, few_digits d.block.0, few_digits d.count, few_digits d.first.0))

pub lines_short : (ds : List Difference) → length (lines_of ds) ≤ 63 * length ds
unfolding lines_of flatten
lines_short [] = omega arith
lines_short (d ∷ ds) = rw (length-append (line_of d) (lines_of ds)) (omega (arith, line_short d, lines_short ds))

pub end_short : (over : Bool) (total : ℕ) → length (end_of over total) ≤ 27
unfolding total_line
end_short true total = simp length-append (omega (arith, few_digits total))
end_short false total = omega arith

-- all that is put for a part is put_whole
pub put_whole : (text said : List ℕ) → length said ≤ length text → let i = put_all (ink 0 text) said in take i.at i.line ≡ said
put_whole text said h = rw (fits_first text said h) (take-append_seam said (drop (length said) text))

pub kept : (text said : List ℕ) → length (put_all (ink 0 text) said).line ≡ length text
kept text said = (stays_in_line (ink 0 text) said (omega arith)).1
