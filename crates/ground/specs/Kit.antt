-- What is used of the kit's library, passed on under one name: each symbol means what the library says.
pub use Rattle.std.specs.Prelude.{◌%◌, ◌*◌, ◌+◌, ◌-◌, ◌/◌, ◌<◌, ◌^◌, ◌≤◌, min, suc, zero, ℕ, eqb, leb, ltb, drop, get_or, length, replicate, set, take, ◌&&◌, ◌||◌, Bool, cond, false, not, true, [], ◌++◌, ◌∷◌, List, map, ◌⊎◌, ◌≡◌, refl}
pub use Rattle.std.proofs.Common.{rules, eq-eqb, eqb-true, le-leb, le-ltb, leb-false, leb-true, lt-ltb, ltb-false, ltb-true, ne_eqb, lit≤, drop_of_length-le, length-append, length-drop, length-set, length-take, take-append-drop, drop_at, drop-cons, drop-drop, drop-set-lt, ext_get_or, get_or-set_same, get_or-take, length-take-le, take-add, take_all, take_at, take-suc-set, take-take, true≢false, append_assoc, append-nil, inl, inr, ⊎_elim, ◌∙◌, ap, subst, sym, add_assoc, add_comm, add-mul, add-zero, div-add-mod', div-lt_iff_lt-mul, eq-or-lt_of_le, le-div_iff_mul-le, le_of_suc-le-suc, le_refl, lt_of_mul-lt-mul_right, mod-eq_of_lt, mod-lt, mul-le-mul, mul-le-mul_right, mul-zero, not-suc-le-zero, one-mul, suc-add, suc-mul, zero-add, zero-mul, add-one, sub-one}
pub use Rattle.std.proofs.lemmas.Bool.{eqb-false, lt-leb, not-false, not-true, false≢true}
pub use denote.Enum.Declared.{tag_of}
pub use Rattle.std.proofs.Math.Arith.{digits_mod}
pub use Rattle.std.proofs.lemmas.Nat.{and_mask}
pub use Rattle.std.specs.Int.Bits.{bit_and}
pub use Rattle.std.proofs.Math.Dec.{eqb-suc-zero}
pub use Rattle.std.proofs.lemmas.List.{length-map, length-replicate, replicate-append-replicate, drop-append-le, take-append-le, take-set-le, map-append}
pub use Rattle.std.proofs.Math.ListN.{get_or-append, get_or-eq_default}
pub use Rattle.std.proofs.Math.Seq.{append_snoc, drop-append-add, drop-append_seam, drop-length, drop-nil, length-sets, paste, paste-suc, paste-zero, set_out, take-append-add, take-append_seam, take-length, take-nil}
pub use Rattle.std.proofs.lemmas.List.Edits.{drop-paste, length-paste, sets, sets-eq}
pub use Rattle.std.proofs.Math.Bool.{and-eq-true_iff, and-false, and-true, or-false, or-true}
pub use Rattle.std.specs.Bool.{beq}
unfoldable pub use mathlib.Core.List.{flatten}
pub use Rattle.std.proofs.Math.Path.{fun_ext}
pub use mir.Val.{bool_byte}
pub use Rattle.std.proofs.Math.Nat.{add-mod, eq_of_mul-eq-mul_right, min_comm, mod-le, mul-mod_left, sub-zero}
pub use native.Mathlib.Omega.{arith, pow_step}
pub use types.Run.{miss, OneOf}
