-- Demand 2 of our drive, and of any device that is heard as ours. Assumes nothing.
use Rattle.std.specs.Prelude.{◌≡◌, ◌∷◌}
use Rattle.ground.specs.Kit.{refl, ap, ◌∙◌, true, List, [], ne_eqb}
use Rattle.state.specs.declared.{Media.Media}
use Rattle.sound.specs.Soundness.{sound_b}
use Rattle.checks.specs.Verdicts.{verdict}
use Rattle.house.specs.World.{World, in_state, Reply}
use Rattle.house.proofs.Houses.{admits, command_admits}
use Rattle.drive.specs.Calls.{Call, Insert, Eject, Command, Feed, Pull, house_of, call_of}
use Rattle.drive.proofs.Calling.{accepted_of, by_call}
use Rattle.drive.proofs.Staying.{power_on_sound, keeps}
use Rattle.demands.specs.Device.{Device, drive}
use Rattle.demands.specs.Ledger.{Ledger, blank, ledger_of, noted}
use Rattle.demands.specs.Faithful.{run, Accounted, Judges, Accounts, Faithful}
use Rattle.demands.proofs.Answered.{judged_by}
use Rattle.demands.proofs.Announced.{announced}
use Rattle.demands.proofs.Agreeing.{Agrees, shut, agrees_inserted, agrees_ejected}
use Rattle.demands.proofs.AsOurs.{AsOurs, ours}
use Rattle.demands.proofs.Meeting.{agrees_met}
use Rattle.demands.proofs.Opening.{agrees_commanded}
use Rattle.demands.proofs.Foretelling.{by_verdict, hears_foretold}
use Rattle.demands.proofs.Moving.{agrees_fed, agrees_pulled}

-- ---- the ledger

module _ (w : World) (sound : sound_b w.state ≡ true) (l : Ledger) (a : Agrees w l) where
  agrees_accepted : (c : Call) → house_of w c ≡ 0 → Agrees (accepted_of w c).world (noted l c (accepted_of w c).heard)
  agrees_accepted (Insert number prot disc) none = agrees_inserted w sound l a number prot disc none
  agrees_accepted Eject none = agrees_ejected w sound l a
  agrees_accepted (Command p) none = agrees_commanded w l a ((command_admits w p).0 none).1 p
  agrees_accepted (Feed piece) none = (agrees_fed w l a ((admits w).0 none) piece).0
  agrees_accepted (Pull out) none = (agrees_pulled w l a ((admits w).0 none) out).0

  agrees_next : (c : Call) → Agrees (call_of w c).world (noted l c (call_of w c).heard)
  unfolding noted
  agrees_next c =
      by_call w c (λ (x : Reply). Agrees x.world (noted l c x.heard)) (λ some. rw (ne_eqb (house_of w c) 0 some) a) (agrees_accepted c)

module _ {d : Device} (o : AsOurs d) where
  accounted : (cs : List Call) (w : World) (l : Ledger) → sound_b w.state ≡ true → Agrees w l → Accounted d (run d (record { world = w; ledger = l }) cs)
  accounted [] w l sound a =
      record {
        hears = λ c. o.heard w c ∙ hears_foretold w sound l a c;
        holds = λ some. (a.disc (λ z. some (ap (λ (m : Media). m.disc) a.media ∙ z))).1;
      }
  accounted (c ∷ cs) w l sound a =
      let next = agrees_next w sound l a c in
      accounted cs (d.call w c).world (noted l c (d.call w c).heard) (rw (o.state w c sound) (keeps w c sound))
      (o.agrees w c sound _ (rw (o.heard w c) next))

  accounts : Accounts d
  accounts =
      record {
        ready = λ w cs r. accounted cs w (ledger_of w) r.sound (agrees_met w r);
        powered = λ w cs.
            accounted cs (in_state w d.start) blank (rw o.start power_on_sound)
            (rw o.start (record { media = refl; host = refl; disc = λ some. absurd (some refl); opened = shut _ _ _ _ }));
      }

  -- ---- the verdict

  judged : Judges d
  judged w p none =
      let said = rw (o.heard w (Command p)) at none in
      rw (o.heard w (Command p), judged_by w p said, by_verdict w p (verdict w.state.media w.state.host p))

  pub faithful_as : Faithful d
  faithful_as = record { judged = judged; accounted = accounts; announced = announced o }

pub faithful : Faithful drive
faithful = faithful_as ours
