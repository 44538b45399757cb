-- How long an explanation can be. Assumes nothing.
use Rattle.std.specs.Prelude.{◌≤◌, Option, Some, None}
use Rattle.std.proofs.lemmas.Bool.Decides.{nat_tests}
use Rattle.ground.specs.Kit.{Bool, List, ℕ, arith, length, length-append}
use Rattle.disc.specs.declared.{BlockAddress.BlockAddress}
use Rattle.packet.specs.declared.{Rule.Rule}
use Rattle.record.specs.declared.{Record.Record}
use Rattle.state.specs.declared.{Sense.Sense}
use Rattle.text.specs.Numbers.{hex_of}
use Rattle.text.proofs.Reading.{few_digits}
use Rattle.explain.specs.Words.{names, name_text, whys, sense_text, why_text, reasons, reason_text}
use Rattle.explain.specs.Explaining.{refused_text, insertion_text, ejection_text, range_text, base_text, called_by, called_text, ended_text, command_text, move_text, fed_text, bad_text, meaning_of, explained_text, ShortText}
use Rattle.record.specs.declared.Record.TheVariants.{Insert, Eject, Command, Feed, Pull}

ruleset lengths = (arith, nat_tests, length-append, few_digits)

name_short : (code : ℕ) → length (name_text code) ≤ 22
unfolding name_text names
name_short code = grind lengths

why_short : (s : Sense) → length (why_text s) ≤ 34
unfolding why_text whys sense_text hex_of
why_short s = grind lengths

reason_short : (house : ℕ) → length (reason_text house) ≤ 36
unfolding reason_text reasons
reason_short house = grind lengths

refused_short : (house : ℕ) → length (refused_text house) ≤ 46
refused_short house = grind (lengths, reason_short)

insertion_short : (house number : ℕ) (prot : Bool) → length (insertion_text house number prot) ≤ 71
unfolding insertion_text
insertion_short house number prot = grind (lengths, refused_short)

ejection_short : (house : ℕ) → length (ejection_text house) ≤ 54
unfolding ejection_text
ejection_short house = grind (lengths, refused_short)

range_short : (from : BlockAddress) (count : ℕ) → length (range_text from count) ≤ 57
unfolding range_text
range_short from count = grind lengths

called_short : (k : Option Rule) (p : List ℕ) → length (called_by k p) ≤ 79
unfolding hex_of base_text
called_short None p = grind lengths
called_short (Some rule) p = grind (lengths, name_short, range_short)

ended_short : (house : ℕ) (s : Sense) → length (ended_text house s) ≤ 46
unfolding ended_text
ended_short house s = grind (lengths, why_short, refused_short)

command_short : (p : List ℕ) (house : ℕ) (s : Sense) → length (command_text p house s) ≤ 125
unfolding command_text called_text
command_short p house s = grind (lengths, called_short, ended_short)

move_short : (called moved : List ℕ) (house count bytes : ℕ) → length called ≤ 4 → length moved ≤ 12
    → length (move_text called moved house count bytes) ≤ 56
unfolding move_text
move_short called moved house count bytes h k = grind (lengths, refused_short)

fed_short : (house : ℕ) (s : Sense) (count bytes : ℕ) → length (fed_text house s count bytes) ≤ 125
unfolding fed_text
fed_short house s count bytes = grind (lengths, move_short, why_short)

meaning_short : (bytes : List ℕ) (house : ℕ) (s : Sense) (count : ℕ) (r : Option Record) → length (meaning_of bytes house s count r) ≤ 125
unfolding bad_text
meaning_short bytes house s count (Some (Insert number prot)) = grind (lengths, insertion_short)
meaning_short bytes house s count (Some Eject) = grind (lengths, ejection_short)
meaning_short bytes house s count (Some Command) = command_short _ house s
meaning_short bytes house s count (Some (Feed n)) = fed_short house s count n
meaning_short bytes house s count (Some (Pull n)) = grind (lengths, move_short)
meaning_short bytes house s count None = grind lengths

pub short_text : ShortText
unfolding explained_text
short_text bytes house s count = grind (lengths, meaning_short)
