-- Devices that make something else of a FORMAT UNIT or of its list break demand 2: they leave another disc than ours. Assumes nothing.
use Rattle.std.specs.Prelude.{◌≡◌, ◌∷◌, ◌<◌}
use Rattle.ground.specs.Kit.{refl, sym, ap, ◌∙◌, false, List, [], ℕ, zero, suc, zero-mul, arith, lit≤, length, get_or, replicate, set, sets}
use Rattle.ground.specs.Bytes.{zeros}
use Rattle.disc.specs.Formats.{format_of, block_bytes, run_bytes, place_of}
use Rattle.state.specs.declared.Transfer.TheVariants.{Closed}
use Rattle.state.specs.States.{obeyed_of, moved_of}
use Rattle.packet.specs.Rules.{rules, rule_of}
use Rattle.house.specs.World.{World, in_buffer, some_world}
use Rattle.house.specs.Theorems.{Ready}
use Rattle.lists.specs.Lists.{bad_list_b, blocks_from, meant_of, formatted, list_judged}
use Rattle.drive.specs.Calls.{Call, Command, Feed, call_of}
use Rattle.demands.specs.Device.{Device}
use Rattle.demands.specs.Ledger.{ledger_of, noted}
use Rattle.demands.specs.Faithful.{Accounts}
use Rattle.demands.specs.Wrong.{formats_at_once, fills_zeros, formats_all, formats_immediate, judges_early}
use Rattle.demands.proofs.Faithful.{faithful}
use Rattle.demands.proofs.OnDisc4.{format, listing, open4, Ours, ours, ready_closed, ready_listing}

-- a device that keeps the account leaves the disc that ours leaves
same_disc : {d : Device} → Accounts d → (w : World) → Ready w → (c : Call)
    → ((noted (ledger_of w) c (call_of w c).heard).media.disc ≡ 0 → ⊥) → (d.call w c).world.disc ≡ (call_of w c).world.disc
same_disc f w r c some =
    let ours = faithful.accounted.ready w in
    let same = (f.ready w [] r).hears c ∙ sym ((ours [] r).hears c) in
    (rw same at (f.ready w (c ∷ []) r).holds) some ∙ sym ((ours (c ∷ []) r).holds some)

-- the first byte, where bytes are set behind it, and where they are set from it on
first_kept : (vs l : List ℕ) (at : ℕ) → get_or (sets l (suc at) vs) 0 0 ≡ get_or l 0 0
first_kept [] l at = refl
first_kept (v ∷ vs) [] at = first_kept vs [] (suc at)
first_kept (v ∷ vs) (x ∷ l) at = first_kept vs (x ∷ set l at v) (suc at)

first_set : (n v x : ℕ) (l : List ℕ) → 0 < n → get_or (sets (x ∷ l) 0 (replicate n v)) 0 0 ≡ v
first_set zero v x l some = elim some [ ]
first_set (suc n) v x l some = first_kept (replicate n v) (v ∷ l) 0

-- where the first 64 blocks of disc 4 are filled
first_place : (place_of 4 (record { 0 = 0 })).0 ≡ 0
unfolding place_of run_bytes
first_place = zero-mul (block_bytes 4)

some_bytes : 0 < run_bytes 4 64
unfolding run_bytes block_bytes format_of
some_bytes = lit≤ tt

first_filled : (v x : ℕ) (l : List ℕ) → get_or (sets (x ∷ l) (place_of 4 (record { 0 = 0 })).0 (replicate (run_bytes 4 64) v)) 0 0 ≡ v
first_filled v x l = rw first_place (first_set (run_bytes 4 64) v x l some_bytes)

-- and where the 8 blocks of side 0 of track 3 are
behind : (vs l : List ℕ) (at : ℕ) → 0 < at → get_or (sets l at vs) 0 0 ≡ get_or l 0 0
behind vs l zero some = elim some [ ]
behind vs l (suc at) some = first_kept vs l at

track_place : 0 < (place_of 4 (record { 0 = 48 })).0
unfolding place_of run_bytes block_bytes format_of
track_place = lit≤ tt

first_unformatted : (x : ℕ) (l : List ℕ) → get_or (formatted 4 (blocks_from 48 8) (x ∷ l)) 0 0 ≡ x
unfolding formatted
first_unformatted x l = behind (replicate (run_bytes 4 8) 0xf6) (x ∷ l) (place_of 4 (record { 0 = 48 })).0 track_place

first_formatted : (x : ℕ) (l : List ℕ) → get_or (formatted 4 (blocks_from 0 64) (x ∷ l)) 0 0 ≡ 0xf6
unfolding formatted
first_formatted x l = first_filled 0xf6 x l

-- a list for disc 4, by its byte 1: the first 11 bytes, and all
abbrev part : ℕ → List ℕ
part flags = 0 ∷ flags ∷ 0 ∷ 8 ∷ 0 ∷ 0 ∷ 0 ∷ 64 ∷ 0 ∷ 0 ∷ 2 ∷ []

abbrev whole : ℕ → List ℕ
whole flags = 0 ∷ flags ∷ 0 ∷ 8 ∷ 0 ∷ 0 ∷ 0 ∷ 64 ∷ 0 ∷ 0 ∷ 2 ∷ 0 ∷ []

-- a block buffer of zeros, and any disc 4 that starts with a 7
module _ (rest : List ℕ) (d : length rest ≡ 32767) where
  abbrev v : World
  v = in_buffer some_world (zeros 1024)

  abbrev disc : List ℕ
  disc = 7 ∷ rest

  our : Ours v disc
  our = ours v disc refl (rw d)

  abbrev opened : World
  opened = open4 v disc listing

  -- two discs that start otherwise
  apart : {l k : List ℕ} → l ≡ k → (m n : ℕ) → get_or l 0 0 ≡ m → get_or k 0 0 ≡ n → (m ≡ n → ⊥) → ⊥
  apart e m n a b other = other (sym a ∙ ap (λ (l : List ℕ). get_or l 0 0) e ∙ b)

  -- what a device and ours leave, when the list is fed that is open
  fed : {d : Device} → Accounts d → (piece : List ℕ) → ((noted (ledger_of opened) (Feed piece) (call_of opened (Feed piece)).heard).media.disc ≡ 0 → ⊥)
      → (d.call opened (Feed piece)).world.disc ≡ (call_of opened (Feed piece)).world.disc
  fed f piece = same_disc f opened (ready_listing v disc refl (rw d)) (Feed piece)

  pub formats_at_once_lem : Accounts formats_at_once → ⊥
  unfolding noted rules rule_of
  formats_at_once_lem f =
      let e = same_disc f (open4 v disc Closed) (ready_closed v disc refl (rw d) false) (Command format) (rw our.formats (λ z. omega arith)) in
      apart (rw our.formats at e) 0xf6 7 refl refl (λ z. omega arith)

  pub fills_zeros_lem : Accounts fills_zeros → ⊥
  unfolding noted format_of bad_list_b meant_of list_judged moved_of
  fills_zeros_lem f =
      let e = fed f (whole 0x00) (rw (our.feeds_list (whole 0x00)) (λ z. omega arith)) in
      apart (rw (our.feeds_list (whole 0x00)) at e) 0 0xf6 (first_filled 0 7 rest) (first_formatted 7 rest) (λ z. omega arith)

  -- with Single Track the first block is not of track 3
  pub formats_all_lem : Accounts formats_all → ⊥
  unfolding noted format_of bad_list_b meant_of list_judged moved_of
  formats_all_lem f =
      let e = fed f (whole 0x10) (rw (our.feeds_list (whole 0x10)) (λ z. omega arith)) in
      apart (rw (our.feeds_list (whole 0x10)) at e) 0xf6 7 refl (first_unformatted 7 rest) (λ z. omega arith)

  pub formats_immediate_lem : Accounts formats_immediate → ⊥
  unfolding noted format_of bad_list_b meant_of list_judged obeyed_of moved_of
  formats_immediate_lem f =
      let e = fed f (whole 0x02) (rw (our.feeds_list (whole 0x02)) (λ z. omega arith)) in
      apart (rw (our.feeds_list (whole 0x02)) at e) 0xf6 7 (first_formatted 7 rest) refl (λ z. omega arith)

  pub judges_early_lem : Accounts judges_early → ⊥
  unfolding noted format_of bad_list_b meant_of list_judged moved_of
  judges_early_lem f =
      let e = fed f (part 0x00) (rw (our.feeds_list (part 0x00)) (λ z. omega arith)) in
      apart (rw (our.feeds_list (part 0x00)) at e) 0xf6 7 (first_formatted 7 rest) refl (λ z. omega arith)
