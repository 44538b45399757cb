-- The sense triples that paper 01 names.
use Rattle.std.specs.Prelude.{◌&&◌, ◌||◌, ◌∷◌}
use Rattle.ground.specs.Kit.{Bool, List, [], ℕ, eqb}
use Rattle.state.specs.declared.{Sense.Sense}

-- key, additional code, qualifier
abbrev pub triple : ℕ → ℕ → ℕ → Sense
triple key code qualifier = record { 0 = key; 1 = code; 2 = qualifier }

abbrev pub no_sense : Sense
no_sense = triple 0x00 0x00 0x00

-- those of the checks A to H, and of an ejection that breaks a transfer off
abbrev pub unknown_code : Sense
unknown_code = triple 0x05 0x20 0x00

abbrev pub other_unit : Sense
other_unit = triple 0x05 0x25 0x00

abbrev pub power_told : Sense
power_told = triple 0x06 0x29 0x00

abbrev pub change_told : Sense
change_told = triple 0x06 0x28 0x00

abbrev pub no_disc : Sense
no_disc = triple 0x02 0x3a 0x00

abbrev pub bad_field : Sense
bad_field = triple 0x05 0x24 0x00

abbrev pub not_saved : Sense
not_saved = triple 0x05 0x39 0x00

abbrev pub out_of_range : Sense
out_of_range = triple 0x05 0x21 0x00

abbrev pub is_protected : Sense
is_protected = triple 0x07 0x27 0x00

-- that of a parameter list that is refused
abbrev pub bad_list : Sense
bad_list = triple 0x05 0x26 0x00

abbrev pub same_b : Sense → Sense → Bool
same_b a b = eqb a.0 b.0 && eqb a.1 b.1 && eqb a.2 b.2

abbrev pub one_of_b : Bool → Sense → List Sense → Bool
one_of_b found s [] = found
one_of_b found s (x ∷ xs) = one_of_b (found || same_b s x) s xs

-- "the triple is 00 00 00 or one of those named below"
unfoldable pub named_b : Sense → Bool
named_b s =
    one_of_b (same_b s no_sense) s
    (unknown_code
    ∷ other_unit
    ∷ power_told
    ∷ change_told
    ∷ no_disc
    ∷ bad_field
    ∷ not_saved
    ∷ out_of_range
    ∷ is_protected
    ∷ bad_list
    ∷ [])
