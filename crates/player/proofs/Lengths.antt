-- How long a line can be. Assumes nothing.
use Rattle.std.specs.Prelude.{◌≡◌, ◌∷◌, ◌+◌, ◌*◌, ◌≤◌, Option, Some, None}
use Rattle.ground.specs.Kit.{refl, Bool, true, false, cond, List, [], ℕ, arith, ltb, length, length-append, length-take, length-replicate}
use Rattle.record.specs.declared.{Record.Record}
use Rattle.state.specs.declared.{Sense.Sense}
use Rattle.ground.specs.Bytes.{zeros}
use Rattle.house.specs.World.{World}
use Rattle.drive.specs.Calls.{call_of}
use Rattle.drive.specs.Calls as call
use Rattle.text.specs.Numbers.{hex_of, hexes_of}
use Rattle.text.proofs.Reading.{few_digits}
use Rattle.record.specs.declared.Record.TheVariants.{Insert, Eject, Command, Feed, Pull}
use Rattle.record.specs.Records.{record_of}
use Rattle.record.specs.Holding.{Holds}
use Rattle.record.proofs.Holding.{all_hold}
use Rattle.player.specs.Playing.{Said, lending, called_of, pull_said, said_of}
use Rattle.player.specs.Lines.{digits_text, sense_text, shown_text, played_line, bad_line, line_of}
use Rattle.player.proofs.Lending.{count_within}

-- two digits for each byte
hexes_long : (bytes : List ℕ) → length (hexes_of bytes) ≡ 2 * length bytes
unfolding hex_of
hexes_long [] = refl
hexes_long (b ∷ bs) = omega (arith, hexes_long bs)

shown_long : (bytes : List ℕ) → length (shown_text bytes) ≤ 1 + 2 * length bytes
unfolding shown_text
shown_long bytes = here (ltb 0 (length bytes))
  where
    here : (b : Bool) → length (cond b (32 ∷ hexes_of bytes) []) ≤ 1 + 2 * length bytes
    here true = omega (arith, hexes_long bytes)
    here false = omega arith

sense_long : (s : Sense) → length (sense_text s) ≡ 9
unfolding sense_text digits_text hex_of
sense_long s = refl

bad_long : (number : ℕ) → length (bad_line number) ≤ 25
unfolding bad_line
bad_long number = simp length-append (omega (arith, few_digits number))

played_long : (number : ℕ) (s : Said) → length s.shown ≤ 512 → length (played_line number s) ≤ 1097
unfolding played_line
played_long number s h =
    simp length-append
    (omega (arith, few_digits number, few_digits s.house, sense_long s.world.state.host.sense, few_digits s.count, shown_long s.shown))

line_long : (number : ℕ) (s : Said) → length s.shown ≤ 512 → length (line_of number s) ≤ 1100
line_long number s h = here s.bad
  where
    here : (b : Bool) → length (cond b (bad_line number) (played_line number s)) ≤ 1100
    here true = omega (arith, bad_long number)
    here false = omega (arith, played_long number s h)

-- a pull shows no more than it asked for, and no other record shows anything
shown_few : (w : World) (script : List ℕ) (r : Option Record) → Holds r script → length (said_of w script r).shown ≤ 512
unfolding called_of pull_said
shown_few w script (Some (Insert number prot)) h = omega arith
shown_few w script (Some Eject) h = omega arith
shown_few w script (Some Command) h = omega arith
shown_few w script (Some (Feed n)) h = omega arith
shown_few w script (Some (Pull n)) h =
    let r = (call_of (lending w) (call.Pull (zeros n))).heard in
    rw (length-take r.count r.out) (omega (arith, count_within (lending w) (zeros n), h.1, length-replicate {A = ℕ} n 0))
shown_few w script None h = omega arith

pub fits_line : (w : World) (number : ℕ) (script : List ℕ) → length (line_of number (said_of w script (record_of script))) ≤ 1100
fits_line w number script = line_long number (said_of w script (record_of script)) (shown_few w script (record_of script) (all_hold script))
