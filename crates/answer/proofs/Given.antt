-- What giving an answer leaves: a buffer as long as it was, and one answer. Assumes nothing.
use Rattle.std.specs.Prelude.{◌≡◌, ◌≤◌}
use Rattle.ground.specs.Kit.{sym, ◌∙◌, ap, List, ℕ, arith, length, length-append, length-take, length-drop}
use Rattle.state.specs.declared.{Media.Media, Sense.Sense}
use Rattle.packet.specs.declared.{Answering.Answering}
use Rattle.ground.specs.Filling.{Filled}
use Rattle.answer.specs.Giving.{give_of}
use Rattle.answer.specs.Theorems.{OneGiving}

module _ (a : Answering) (m : Media) (sense : Sense) (p : List ℕ) (allocation : ℕ) (buffer : List ℕ) where
  pub give_count : (give_of a m sense p allocation buffer).count ≤ length buffer
  unfolding give_of
  give_count = omega arith

  pub give_length : length (give_of a m sense p allocation buffer).bytes ≡ length buffer
  unfolding give_of
  give_length = simp (length-append, length-take, length-drop) (omega arith)

pub one_giving : OneGiving
one_giving f r q b c e g =
    let same = e ∙ sym g in
    (ap (λ (x : Filled). x.count) same, ap (λ (x : Filled). x.bytes) same)
