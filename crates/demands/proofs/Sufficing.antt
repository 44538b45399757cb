-- With demand 1 the account says all that demand 2 does. Assumes nothing.
use Rattle.std.specs.Prelude.{◌≡◌, ◌||◌, ◌∷◌}
use Rattle.ground.specs.Kit.{refl, sym, ap, ◌∙◌, Bool, List, [], get_or, drop}
use Rattle.house.specs.World.{World, Heard}
use Rattle.drive.specs.Calls.{Call, Insert, Command}
use Rattle.demands.specs.Device.{Device, after, drive}
use Rattle.demands.specs.Faithful.{answers_b, some_answers_b}
use Rattle.demands.specs.Together.{heard_in, AccountSuffices}
use Rattle.demands.proofs.Answered.{answered}
use Rattle.demands.proofs.Faithful.{faithful}
use Rattle.demands.proofs.AnyWorld.{heard_alike}

-- two worlds from which two devices are heard alike
module _ (d e : Device) where
  abbrev Alike : World → World → Type 0
  Alike w v = (cs : List Call) → heard_in d w cs ≡ heard_in e v cs

  hears : (w v : World) → Alike w v → (c : Call) → (d.call w c).heard ≡ (e.call v c).heard
  hears w v same c = ap (λ (hs : List Heard). get_or hs 0 (d.call w c).heard) (same (c ∷ []))

  alike_then : (w v : World) → Alike w v → (c : Call) → Alike (d.call w c).world (e.call v c).world
  alike_then w v same c cs = ap (λ (hs : List Heard). drop 1 hs) (same (c ∷ cs))

  alike_after : (cs : List Call) (w v : World) → Alike w v → Alike (after d w cs) (after e v cs)
  alike_after [] w v same = same
  alike_after (c ∷ cs) w v same = alike_after cs (d.call w c).world (e.call v c).world (alike_then w v same c)

  alike_answers : (cs : List Call) (w v : World) → Alike w v → some_answers_b d w cs ≡ some_answers_b e v cs
  alike_answers [] w v same = refl
  alike_answers (c ∷ cs) w v same =
      let rest = alike_answers cs (d.call w c).world (e.call v c).world (alike_then w v same c) in
      ap (λ (h : Heard). answers_b c h || some_answers_b d (d.call w c).world cs) (hears w v same c)
      ∙ ap (λ (b : Bool). answers_b c (e.call v c).heard || b) rest

pub account_suffices : AccountSuffices
account_suffices d a f =
    record {
      judged = λ w p none.
          let same = hears d drive w w (alike w) (Command p) in
          rw same (faithful.judged w p (rw same at none));
      accounted = f;
      announced = λ w number prot disc cs p none silent passes.
          let c = Insert number prot disc in
          let w₁ = (d.call w c).world in
          let v₁ = (drive.call w c).world in
          let same₁ = alike_then d drive w w (alike w) c in
          let last = hears d drive (after d w₁ cs) (after drive v₁ cs) (alike_after d drive cs w₁ v₁ same₁) (Command p) in
          faithful.announced w number prot disc cs p (rw (hears d drive w w (alike w) c) at none) (sym (alike_answers d drive cs w₁ v₁ same₁) ∙ silent)
          (ap (λ (h : Heard). h.passed) (sym last) ∙ passes);
    }
  where
    alike : (w : World) (cs : List Call) → heard_in d w cs ≡ heard_in drive w cs
    alike w cs = (heard_alike d drive a f answered faithful.accounted w cs).0
