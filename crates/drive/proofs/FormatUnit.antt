-- FORMAT UNIT passes with the packet of a track that is on the disc, and with no other. Assumes nothing.
use Rattle.std.specs.Prelude.{◌≡◌, ◌||◌, ◌/◌, ◌%◌, ◌<◌, Some, Ok, Err}
use Rattle.ground.specs.Kit.{refl, sym, ap, ◌∙◌, Bool, true, false, cond, false≢true, not, List, ℕ, arith, bit_and, and_mask, lit≤, lt-ltb, lt-leb, leb-false, eq-eqb, ne_eqb, eqb-true, eqb-false, not-false, eqb, leb, length}
use Rattle.state.specs.declared.{Media.Media, Host.Host}
use Rattle.packet.specs.declared.{Rule.Rule}
use Rattle.ground.specs.Bytes.{byte_at, word}
use Rattle.ground.proofs.Truth.{neither}
use Rattle.disc.specs.Formats.{format_of}
use Rattle.disc.specs.Masks.{masks, mask_row}
use Rattle.disc.proofs.Discs.{few_cylinders}
use Rattle.state.specs.declared.Transfer.TheVariants.{ParameterList as ListFor}
use Rattle.state.specs.Senses.{no_sense, bad_field, is_protected}
use Rattle.state.specs.States.{host_of, state_of, list_bytes, obeyed_of}
use Rattle.packet.specs.Fields.{length_of}
use Rattle.packet.specs.Rules.{asking_of, rules, code_of, rule_of}
use Rattle.packet.specs.declared.Values.TheVariants.{FormatUnit}
use Rattle.packet.specs.declared.Field.TheVariants.{Bytes7To8}
use Rattle.packet.specs.declared.Routine.TheVariants.{ParameterList}
use Rattle.checks.specs.Verdicts.{bits_b, in_mask_b, bad_format_b, checks_of, Verdict, verdict}
use Rattle.checks.proofs.Below.{below_at}
use Rattle.checks.proofs.Passing.{Passed, passed}
use Rattle.house.specs.World.{World, in_state, Reply}
use Rattle.house.proofs.Houses.{command_admits}
use Rattle.commands.specs.Obeying.{performed_of, reply_to}
use Rattle.drive.specs.Calls.{Command}
use Rattle.drive.specs.Formatting.{format_packet, Formattable, FormatPasses, FormatFails, FormatOpens}
use Rattle.drive.proofs.Calling.{accepted, by_call}
use Rattle.drive.proofs.TwelveBytes.{twelve}

-- the rule of 04
abbrev format : Rule
format = record { row = 16; asked = asking_of true true true false true; values = FormatUnit; length = Bytes7To8; routine = ParameterList }

known : (p : List ℕ) → code_of p ≡ 0x04 → rule_of p ≡ Some format
unfolding rules rule_of
known p code = rw code

-- a byte of which no bit may be set
masked : (p : List ℕ) → in_mask_b p 16 ≡ true → (i : ℕ) → i < 12 → byte_at (mask_row 16) i ≡ 0 → byte_at p i ≡ 0
unfolding in_mask_b
masked p held i h zero =
    let x = byte_at p i in
    let e = eqb-true (bit_and x (byte_at (mask_row 16) i)) x (below_at (bits_b p (mask_row 16)) 12 i (lt-ltb i 12 h) held) in
    omega (arith, sym (rw zero at e) ∙ and_mask x 0)

module _ (w : World) (p : List ℕ) where
  abbrev m : Media
  m = w.state.media

  abbrev h : Host
  h = w.state.host

  abbrev track : ℕ
  track = byte_at p 2

  -- a packet that passes B, E and F
  exact : code_of p ≡ 0x04 → length p ≡ 12 → byte_at p 1 / 32 ≡ 0 → in_mask_b p 16 ≡ true → bad_format_b m.disc p ≡ false
      → (p ≡ format_packet track) × (track < (format_of m.disc).cylinders)
  unfolding masks mask_row length_of
  exact code long unit mask value =
      let b : ℕ → ℕ = byte_at p in
      let kind = not (eqb (b 1 % 32) 0x17) in
      let list = not (eqb (word (b 7) (b 8)) list_bytes) in
      let (kl, on) = neither (kind || list) (leb (format_of m.disc).cylinders track) value in
      let (k, l) = neither kind list kl in
      let low = eqb-true (b 1 % 32) 0x17 (not-false (eqb (b 1 % 32) 0x17) k) in
      let twelve-long = eqb-true (word (b 7) (b 8)) list_bytes (not-false (eqb (word (b 7) (b 8)) list_bytes) l) in
      let none : (i : ℕ) → i < 12 → byte_at (mask_row 16) i ≡ 0 → b i ≡ 0 = masked p mask in (
        twelve p (format_packet track) long refl
            code
            (omega (arith, unit, low))
            refl
            (none 3 (lit≤ tt) refl)
            (none 4 (lit≤ tt) refl)
            (none 5 (lit≤ tt) refl)
            (none 6 (lit≤ tt) refl)
            (omega (arith, twelve-long))
            (omega (arith, twelve-long))
            (none 9 (lit≤ tt) refl)
            (none 10 (lit≤ tt) refl)
            (none 11 (lit≤ tt) refl),
        leb-false (format_of m.disc).cylinders track on,
      )

  -- what has passed
  has_passed : code_of p ≡ 0x04 → length p ≡ 12 → Passed m h p format → (p ≡ format_packet track) × Formattable w.state track
  has_passed code long c =
      let unit = byte_at p 1 / 32 in
      let (same, on) = exact code long (eqb-true unit 0 (not-false (eqb unit 0) c.unit)) c.mask c.value in
      (same, record { power = c.power; change = c.change; is_in_lem = eqb-false m.disc 0 c.disc; bare = c.unprotected; on = on })

  -- nothing is pending, and a disc is in
  module _ (power : h.power ≡ false) (change : h.change ≡ false) (is_in_lem : m.disc ≡ 0 → ⊥) where
    -- the packet of a track passes or fails by check H
    by-protection : (t : ℕ) → t < (format_of m.disc).cylinders → verdict m h (format_packet t) ≡ cond m.protected (Err is_protected) (Ok format)
    unfolding verdict rules rule_of checks_of length_of in_mask_b masks mask_row
    by-protection t on =
        rw (
          power,
          change,
          ne_eqb m.disc 0 is_in_lem,
          eq-eqb (bit_and t 0xff) t (and_mask t 8 ∙ omega (arith, on, few_cylinders m.disc)),
          lt-leb (format_of m.disc).cylinders t on,
        )

    -- any other fails at E or F
    other-fails : code_of p ≡ 0x04 → length p ≡ 12 → byte_at p 1 / 32 ≡ 0 → ((p ≡ format_packet track) × (track < (format_of m.disc).cylinders) → ⊥)
        → verdict m h p ≡ Err bad_field
    unfolding verdict checks_of
    other-fails code long unit other = here (in_mask_b p 16) refl (bad_format_b m.disc p) refl
      where
        here : (b : Bool) → in_mask_b p 16 ≡ b → (c : Bool) → bad_format_b m.disc p ≡ c → verdict m h p ≡ Err bad_field
        here false q c f = rw (known p code, unit, power, change, ne_eqb m.disc 0 is_in_lem, q)
        here true q true f = rw (known p code, unit, power, change, ne_eqb m.disc 0 is_in_lem, q, f)
        here true q false f = absurd (other (exact code long unit q f))

  passes : p ≡ format_packet track → Formattable w.state track → verdict m h p ≡ Ok format
  passes e f = ap (verdict m h) e ∙ by-protection f.power f.change f.is_in_lem track f.on ∙ rw f.bare

  -- one that passed has passed by that rule
  own_rule : code_of p ≡ 0x04 → (rule : Rule) → verdict m h p ≡ Ok rule → Passed m h p format
  own_rule code rule e =
      let c = passed m h p rule e in
      let same : rule ≡ format = let k = c.known in let f = known p code in cc in
      rw same at c

pub format_passes : FormatPasses
format_passes w p code none =
    let long = ((command_admits w p).0 none).0 in
    rw (accepted w (Command p) none) (here long (verdict w.state.media w.state.host p) refl, λ e f. rw (passes w p e f))
  where
    here : length p ≡ 12 → (v : Verdict) → verdict w.state.media w.state.host p ≡ v → (reply_to v w p).heard.passed ≡ true
        → (p ≡ format_packet (byte_at p 2)) × Formattable w.state (byte_at p 2)
    here long (Err sense) q e = absurd (false≢true e)
    here long (Ok rule) q e = has_passed w p code long (own_rule w p code rule q)

pub format_fails : FormatFails
unfolding obeyed_of
format_fails w p code none low power change is_in_lem =
    let long = ((command_admits w p).0 none).0 in
    let unit : byte_at p 1 / 32 ≡ 0 = omega (arith, low) in (
      λ other. rw (accepted w (Command p) none, other-fails w p power change is_in_lem code long unit other) (refl, refl),
      λ e on prot.
          let at-h : verdict w.state.media w.state.host p ≡ Err is_protected =
          ap (verdict w.state.media w.state.host) e ∙ by-protection w p power change is_in_lem (byte_at p 2) on ∙ rw prot in
          rw (accepted w (Command p) none, at-h) (refl, refl),
    )

pub format_opens : FormatOpens
unfolding performed_of obeyed_of
format_opens w p code = by_call w (Command p) Opens (λ _ e. absurd (false≢true e)) (λ none. here (verdict w.state.media w.state.host p) refl)
  where
    Opens : Reply → Type 0
    Opens a =
        let s = w.state in
        a.heard.passed ≡ true
        → a.world ≡ in_state w (state_of s.media s.motor (host_of s.host.power s.host.change no_sense) (ListFor (record { track = byte_at p 2; left = 12 })))

    here : (v : Verdict) → verdict w.state.media w.state.host p ≡ v → Opens (reply_to v w p)
    here (Err sense) q e = absurd (false≢true e)
    here (Ok rule) q e =
        let c = passed w.state.media w.state.host p rule q in
        let same : rule ≡ format = let k = c.known in let f = known p code in cc in
        rw same
