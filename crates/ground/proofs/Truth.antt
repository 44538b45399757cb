-- Laws of tests that are true or false. Assumes nothing.
use Rattle.std.specs.Prelude.{◌≡◌, ◌&&◌, ◌||◌}
use Rattle.ground.specs.Kit.{refl, Bool, true, false, not, true≢false, false≢true}

pub both : (a b : Bool) → (a && b) ≡ true → (a ≡ true) × (b ≡ true)
both true b e = (refl, e)
both false b e = absurd (false≢true e)

pub neither : (a b : Bool) → (a || b) ≡ false → (a ≡ false) × (b ≡ false)
neither false b e = (refl, e)
neither true b e = absurd (true≢false e)

-- where a follows from b, so does a failure of both from one of a
pub implies : (b a x : Bool) → (not b || a) ≡ true → (a && x) ≡ false → (b && x) ≡ false
implies false a x e f = refl
implies true true x e f = f
implies true false x e f = absurd (false≢true e)
