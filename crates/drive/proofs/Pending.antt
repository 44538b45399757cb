-- While a change is pending, the second command that C is asked of reports it at the latest. Assumes nothing.
use Rattle.std.specs.Prelude.{◌≡◌, ◌&&◌, ◌∷◌, ◌≤◌, Option, Some, None, Err, is_some}
use Rattle.ground.specs.Kit.{refl, sym, ◌∙◌, Bool, true, false, cond, not, or-true, and-true, true≢false, false≢true, List, [], ℕ, suc, arith, eqb-true, not-true, eqb, lit≤, length}
use Rattle.state.specs.declared.{Sense.Sense, Media.Media, Host.Host}
use Rattle.packet.specs.declared.{Rule.Rule}
use Rattle.ground.proofs.Truth.{both, neither}
use Rattle.state.specs.Senses.{power_told, change_told}
use Rattle.state.specs.States.{inserted_of, ejected_of, obeyed_of}
use Rattle.packet.specs.Rules.{code_of, rule_of}
use Rattle.packet.proofs.BaseCommands.{free_b, attended, unit_asked}
use Rattle.checks.specs.Verdicts.{other_unit_b, Check, first_of, checks_of, verdict}
use Rattle.house.specs.World.{World}
use Rattle.house.specs.Theorems.{Ready}
use Rattle.house.proofs.Houses.{command_admits}
use Rattle.commands.specs.Obeying.{reply_to}
use Rattle.feeds.proofs.ByTransfer.{fed_leaves}
use Rattle.pulls.proofs.ByTransfer.{pulled_leaves}
use Rattle.drive.specs.Calls.{Call, Insert, Eject, Command, Feed, Pull, house_of, call_of}
use Rattle.drive.specs.Theorems.{attended_b, attends_b, attended_count, answers_change_b, some_reports_b, SecondAtLatest}
use Rattle.drive.proofs.Calling.{accepted_of, accepted, by_call}
use Rattle.drive.proofs.Commanded.{Untold, reports_b, replied_untold}
use Rattle.drive.proofs.Staying.{stays}

-- ---- which verdicts report an attention

-- no check that fails does
abbrev calm_b : List Check → Bool
calm_b [] = true
calm_b (c ∷ cs) = not (reports_b (Err c.sense) && c.fails) && calm_b cs

calm : (cs : List Check) (rule : Rule) → calm_b cs ≡ true → reports_b (first_of cs rule) ≡ false
calm [] rule e = refl
calm (c ∷ cs) rule e =
    let (one, more) = both (not (reports_b (Err c.sense) && c.fails)) (calm_b cs) e in
    here c.fails one (calm cs rule more)
  where
    here : (f : Bool) → not (reports_b (Err c.sense) && f) ≡ true → reports_b (first_of cs rule) ≡ false
        → reports_b (cond f (Err c.sense) (first_of cs rule)) ≡ false
    here false one more = more
    here true one more = sym (and-true (reports_b (Err c.sense))) ∙ not-true (reports_b (Err c.sense) && true) one

module _ (m : Media) (h : Host) (p : List ℕ) (rule : Rule) (known : rule_of p ≡ Some rule) where
  -- B is asked of what C is asked of
  unit_too : free_b (code_of p) ≡ false → rule.asked.unit ≡ true
  unit_too free = unit_asked p rule known ∙ rw (neither (eqb (code_of p) 0x03) (eqb (code_of p) 0x12) free).1

  other_unit_lem : free_b (code_of p) ≡ false → other_unit_b p ≡ true → reports_b (verdict m h p) ≡ false
  unfolding verdict checks_of
  other_unit_lem free e = rw (known, unit_too free, e)

  unasked : free_b (code_of p) ≡ true → reports_b (verdict m h p) ≡ false
  unfolding verdict checks_of
  unasked free = rw known (calm (checks_of m h rule p) rule (rw (attended p rule known, free)))

  module _ (unit : other_unit_b p ≡ false) (free : free_b (code_of p) ≡ false) where
    power-first : h.power ≡ true → verdict m h p ≡ Err power_told
    unfolding verdict checks_of
    power-first on = rw (known, unit_too free, unit, attended p rule known, free, on)

    change-first : h.power ≡ false → h.change ≡ true → verdict m h p ≡ Err change_told
    unfolding verdict checks_of
    change-first off on = rw (known, unit_too free, unit, attended p rule known, free, off, on)

-- ---- the run

-- a packet that C is asked of
record Asked (p : List ℕ) : Type 0 where
  long : length p ≡ 12
  rule : Rule
  known : rule_of p ≡ Some rule
  unit : other_unit_b p ≡ false
  free : free_b (code_of p) ≡ false

asked : (p : List ℕ) → attended_b p ≡ true → Asked p
asked p e =
    let long = eqb (length p) 12 in
    let base = is_some (rule_of p) in
    let (lbu, free) = both (long && base && not (other_unit_b p)) (not (free_b (code_of p))) e in
    let (lb, unit) = both (long && base) (not (other_unit_b p)) lbu in
    let (l, b) = both long base lb in
    here (rule_of p) refl b (eqb-true (length p) 12 l) (not-true (other_unit_b p) unit) (not-true (free_b (code_of p)) free)
  where
    here : (k : Option Rule) → rule_of p ≡ k → is_some k ≡ true → length p ≡ 12 → other_unit_b p ≡ false → free_b (code_of p) ≡ false → Asked p
    here None q b l u f = absurd (false≢true b)
    here (Some rule) q b l u f = record { long = l; rule = rule; known = q; unit = u; free = f }

-- any other packet reports no attention
other : (m : Media) (h : Host) (p : List ℕ) → length p ≡ 12 → attended_b p ≡ false → reports_b (verdict m h p) ≡ false
unfolding verdict
other m h p long e = here (rule_of p) refl (other_unit_b p) refl (free_b (code_of p)) refl
  where
    here : (k : Option Rule) → rule_of p ≡ k → (u : Bool) → other_unit_b p ≡ u → (f : Bool) → free_b (code_of p) ≡ f → reports_b (verdict m h p) ≡ false
    here None q u v f g = rw q
    here (Some rule) q u v true g = unasked m h p rule q g
    here (Some rule) q true v false g = other_unit_lem m h p rule q g v
    here (Some rule) q false v false g = absurd (true≢false (sym (rw (long, q, v, g) refl) ∙ e))

-- a call that isn't such a command leaves the power-on flag as it is, and the change pending
record Pending (w v : World) : Type 0 where
  power : v.state.host.power ≡ w.state.host.power
  change : w.state.host.change ≡ true → v.state.host.change ≡ true

untold : {w v : World} → Untold w v → Pending w v
untold u = record { power = u.power; change = λ on. u.change ∙ on }

pending_accepted : (w : World) (c : Call) → attends_b c ≡ false → house_of w c ≡ 0 → Pending w (accepted_of w c).world
unfolding inserted_of ejected_of
pending_accepted w (Insert number prot disc) e none = record { power = refl; change = λ _. refl }
pending_accepted w Eject e none = record { power = refl; change = λ on. on }
pending_accepted w (Command p) e none =
    let s = w.state in
    untold (replied_untold w p (verdict s.media s.host p) (other s.media s.host p ((command_admits w p).0 none).0 e))
pending_accepted w (Feed piece) e none = let l = fed_leaves w piece in record { power = l.power; change = λ on. l.change ∙ on }
pending_accepted w (Pull out) e none = let l = pulled_leaves w out in record { power = l.power; change = λ on. l.change ∙ on }

still_pending : (w : World) (c : Call) → attends_b c ≡ false → Pending w (call_of w c).world
still_pending w c e = by_call w c (λ a. Pending w a.world) (λ _. record { power = refl; change = λ on. on }) (pending_accepted w c e)

-- how many commands that C is asked of it takes at the most
abbrev needed : World → ℕ
needed w = cond w.state.host.power 2 1

one_or_two : (b : Bool) → (1 ≤ cond b 2 1) × (cond b 2 1 ≤ 2)
one_or_two true = (lit≤ tt, lit≤ tt)
one_or_two false = (lit≤ tt, lit≤ tt)

module _ (cs : List Call) (more : (v : World) → Ready v → v.state.host.change ≡ true → needed v ≤ attended_count cs → some_reports_b v cs ≡ true)
    (w : World) (r : Ready w) (on : w.state.host.change ≡ true) where
  -- the rest of the run reports it
  later : (c : Call) → (call_of w c).world.state.host.change ≡ true → needed (call_of w c).world ≤ attended_count cs → some_reports_b w (c ∷ cs) ≡ true
  later c change few = rw (more (call_of w c).world (stays w c r) change few) (or-true (attends_b c && answers_change_b (call_of w c).heard))

  at_asked : (p : List ℕ) → attended_b p ≡ true → Asked p → needed w ≤ suc (attended_count cs) → some_reports_b w (Command p ∷ cs) ≡ true
  unfolding obeyed_of
  at_asked p e a h = here w.state.host.power refl
    where
      answers : (sense : Sense) → verdict w.state.media w.state.host p ≡ Err sense → call_of w (Command p) ≡ reply_to (Err sense) w p
      answers sense f = accepted w (Command p) ((command_admits w p).1 a.long r) ∙ rw f

      here : (b : Bool) → w.state.host.power ≡ b → some_reports_b w (Command p ∷ cs) ≡ true
      here true q =
          let power = answers power_told (power-first w.state.media w.state.host p a.rule a.known a.unit a.free q) in
          let two = rw q at h in
          later (Command p) (rw power on) (rw power (omega arith))
      here false q = rw (e, answers change_told (change-first w.state.media w.state.host p a.rule a.known a.unit a.free q on))

  at_other : (c : Call) → attends_b c ≡ false → needed w ≤ attended_count cs → some_reports_b w (c ∷ cs) ≡ true
  at_other c e h = let p = still_pending w c e in later c (p.change on) (rw p.power h)

  at_call : (c : Call) → needed w ≤ attended_count (c ∷ cs) → some_reports_b w (c ∷ cs) ≡ true
  at_call (Command p) h = here (attended_b p) refl
    where
      here : (b : Bool) → attended_b p ≡ b → some_reports_b w (Command p ∷ cs) ≡ true
      here true q = at_asked p q (asked p q) (rw q at h)
      here false q = at_other (Command p) q (rw q at h)
  at_call (Insert number prot disc) h = at_other (Insert number prot disc) refl h
  at_call Eject h = at_other Eject refl h
  at_call (Feed x) h = at_other (Feed x) refl h
  at_call (Pull x) h = at_other (Pull x) refl h

at_latest : (cs : List Call) (w : World) → Ready w → w.state.host.change ≡ true → needed w ≤ attended_count cs → some_reports_b w cs ≡ true
at_latest [] w r on h = absurd (omega (arith, (one_or_two w.state.host.power).0))
at_latest (c ∷ cs) w r on h = at_call cs (λ v s o n. at_latest cs v s o n) w r on c h

pub second_at_latest : SecondAtLatest
second_at_latest w cs r on h = at_latest cs w r on (omega (arith, (one_or_two w.state.host.power).1))
