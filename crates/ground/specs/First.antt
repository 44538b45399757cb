-- Tests in order: "the first .. to fail gives ..".
use Rattle.std.specs.Prelude.{◌∷◌}
use Rattle.ground.specs.Kit.{Bool, cond, List, []}

module _ {A B : Type 0} (fails : A → Bool) (gives : A → B) where
  abbrev pub first : List A → B → B
  first [] other = other
  first (x ∷ xs) other = cond (fails x) (gives x) (first xs other)
