-- What is heard of a device that meets the demands is the ledger's alone. Assumes nothing.
use Rattle.std.specs.Prelude.{◌≡◌, ◌∷◌}
use Rattle.ground.specs.Kit.{refl, sym, ap, ◌∙◌, List, [], length}
use Rattle.disc.specs.Formats.{disc_bytes}
use Rattle.house.specs.World.{World, in_state, Heard}
use Rattle.house.specs.Theorems.{Ready}
use Rattle.house.proofs.Houses.{admits}
use Rattle.drive.specs.Calls.{Call, Feed}
use Rattle.drive.proofs.Calling.{same_house}
use Rattle.demands.specs.Device.{Device}
use Rattle.demands.specs.Answered.{Answered}
use Rattle.demands.specs.Ledger.{Ledger, known, noted}
use Rattle.demands.specs.Faithful.{Run, step, run, met, Accounted, Accounts, foretold}
use Rattle.demands.proofs.Foretelling.{foretold_house}
use Rattle.demands.specs.Together.{heard_in, HeardByLedger}

-- a run of a device so far: the world is ready, and whatever follows is accounted for
pub record Going (d : Device) (r : Run) : Type 0 where
  pub ready : Ready r.world
  pub accounted : (cs : List Call) → Accounted d (run d r cs)

pub goes_on : (d : Device) → Answered d → (r : Run) → Going d r → (c : Call) → Going d (step d r c)
goes_on d a r g c = record { ready = a.stays r.world c g.ready; accounted = λ cs. g.accounted (c ∷ cs) }

-- the lengths that are lent are those that the ledger knows of
pub knows_lengths : (d : Device) → Answered d → (r : Run) → Going d r → Ready (in_state r.world (known r.ledger))
knows_lengths d a r g =
    let w = r.world in
    let heard = ap (λ (h : Heard). h.house) ((g.accounted []).hears (Feed [])) in
    (admits (in_state w (known r.ledger))).0
    (sym (heard ∙ foretold_house r.ledger w (Feed [])) ∙ a.numbered w (Feed []) ∙ (admits w).1 g.ready)

-- and no more of them is asked
same_foretold : (l : Ledger) (w v : World) → length w.buffer ≡ length v.buffer → length w.disc ≡ length v.disc → (c : Call)
    → foretold l w c ≡ foretold l v c
unfolding foretold
same_foretold l w v b d c =
    rw (same_house (in_state w (known l)) (in_state v (known l)) refl refl b d c)

-- what is heard of the next call in two runs with the same ledger
pub heard_here : (d e : Device) → Answered d → Answered e → (r q : Run) → Going d r → Going e q → r.ledger ≡ q.ledger → (c : Call)
    → (d.call r.world c).heard ≡ (e.call q.world c).heard
heard_here d e a b r q g h same c =
    let w = r.world in
    let v = q.world in
    let k = knows_lengths d a r g in
    let m = knows_lengths e b q h in
    let number = ap (λ (l : Ledger). disc_bytes l.media.disc) same in
    (g.accounted []).hears c
    ∙ ap (λ (l : Ledger). foretold l w c) same
    ∙ same_foretold q.ledger w v (k.buffer ∙ sym m.buffer) (k.disc ∙ number ∙ sym m.disc) c
    ∙ sym ((h.accounted []).hears c)

-- and the ledgers after it
pub noted_here : (d e : Device) (r q : Run) → r.ledger ≡ q.ledger → (c : Call) → (d.call r.world c).heard ≡ (e.call q.world c).heard
    → (step d r c).ledger ≡ (step e q c).ledger
noted_here d e r q same c heard = ap (λ (l : Ledger). noted l c (d.call r.world c).heard) same ∙ ap (noted q.ledger c) heard

-- one call and then others
pub heard_then : {x y : Heard} {xs ys : List Heard} → x ≡ y → xs ≡ ys → x ∷ xs ≡ y ∷ ys
heard_then {y = y} {xs = xs} one more = ap (λ (z : Heard). z ∷ xs) one ∙ ap (λ (zs : List Heard). y ∷ zs) more

module _ (d e : Device) (a : Answered d) (b : Answered e) where
  -- from runs with the same ledger on
  same_from : (cs : List Call) (r q : Run) → Going d r → Going e q → r.ledger ≡ q.ledger → heard_in d r.world cs ≡ heard_in e q.world cs
  same_from [] r q g h same = refl
  same_from (c ∷ cs) r q g h same =
      let heard = heard_here d e a b r q g h same c in
      let more = same_from cs (step d r c) (step e q c) (goes_on d a r g c) (goes_on e b q h c) (noted_here d e r q same c heard) in
      heard_then heard more

-- a run from a ready world
pub going_from : (d : Device) → Accounts d → (w : World) → Ready w → Going d (met w)
going_from d f w r = record { ready = r; accounted = λ cs. f.ready w cs r }

pub heard_by_ledger : HeardByLedger
heard_by_ledger d e a f b g w v cs r q same = same_from d e a b cs (met w) (met v) (going_from d f w r) (going_from e g v q) same
