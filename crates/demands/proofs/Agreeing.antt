-- When the ledger agrees with the drive; and that it does after an event, if before it. Assumes nothing.
use Rattle.std.specs.Prelude.{◌≡◌, ◌∷◌, ◌+◌}
use Rattle.ground.specs.Kit.{refl, sym, ◌∙◌, Bool, true, List, [], flatten, ℕ, arith, length}
use Rattle.state.specs.declared.{Media.Media, Transfer.Transfer}
use Rattle.disc.specs.Formats.{format_of, block_bytes, run_bytes, disc_bytes}
use Rattle.state.specs.declared.Transfer.TheVariants.{Closed, Answer, Read, Write, ParameterList}
use Rattle.state.specs.States.{left_of, closed_at_zero, inserted_of, ejected_of}
use Rattle.state.proofs.Closing.{by_left}
use Rattle.sound.specs.Soundness.{open_sound_b, sound_b}
use Rattle.sound.proofs.Keeping.{parts}
use Rattle.sound.proofs.Opened.{Discless, shut as is-shut, answers, discless}
use Rattle.house.specs.World.{World}
use Rattle.house.proofs.Houses.{insert_admits}
use Rattle.feeds.specs.Feeding.{writing, takes}
use Rattle.pulls.specs.Pulling.{gives}
use Rattle.drive.specs.Calls.{Insert, Eject, house_of}
use Rattle.drive.proofs.Calling.{accepted_of}
use Rattle.demands.specs.Ledger.{Store, Listing, none, Ledger, listed_in, noted}
use Rattle.demands.proofs.BlockLists.{Even, cut_even, cut_joins}
use Rattle.demands.proofs.Gathering.{Gathered}

-- ---- what is open is what the ledger takes and gives

-- of the block being written, in blocks of b bytes, the same has come
abbrev pub GatheredIn : ℕ → List ℕ → List ℕ → Store → Transfer → Type 0
GatheredIn b buffer disc stored Closed = Unit
GatheredIn b buffer disc stored (Answer p) = Unit
GatheredIn b buffer disc stored (Read p) = Unit
GatheredIn b buffer disc stored (Write p) = Gathered b stored (writing p.at buffer disc)
GatheredIn b buffer disc stored (ParameterList p) = Unit

-- the bytes to take and the bytes to give are all that is left; what came of a list is in the block buffer
pub record Opened (b : ℕ) (buffer disc : List ℕ) (stored : Store) (left : ℕ) (coming : List ℕ) (listing : Listing) (t : Transfer) : Type 0 where
  pub taking : left ≡ takes t
  pub giving : coming ≡ gives buffer disc t
  pub all : takes t + length (gives buffer disc t) ≡ left_of t
  pub gathered : GatheredIn b buffer disc stored t
  pub listed : listing ≡ listed_in buffer t

pub none_listed : (xs : List ℕ) → length xs ≡ 0 → xs ≡ []
none_listed [] e = refl
none_listed (x ∷ xs) e = absurd (omega arith)

module _ (b : ℕ) (buffer disc : List ℕ) (stored : Store) where
  pub shut : Opened b buffer disc stored 0 [] none Closed
  shut = record { taking = refl; giving = refl; all = refl; gathered = tt; listed = refl }

  -- with 0 bytes left it is closed
  pub closing : (left : ℕ) (coming : List ℕ) (listing : Listing) (t : Transfer) → (left_of t ≡ 0 → listing ≡ none)
      → Opened b buffer disc stored left coming listing t → Opened b buffer disc stored left coming listing (closed_at_zero t)
  closing left coming listing t over o =
      by_left (Opened b buffer disc stored left coming listing) t
      (λ z.
      let nobyte : left ≡ 0 = omega (arith, o.taking, o.all, z) in
      let nothing : coming ≡ [] = o.giving ∙ none_listed (gives buffer disc t) (omega (arith, o.all, z)) in
      rw (nobyte, nothing, over z) shut)
      (λ _. o)

pub record Agrees (w : World) (l : Ledger) : Type 0 where
  pub media : l.media ≡ w.state.media
  pub host : l.host ≡ w.state.host
  pub disc : (w.state.media.disc ≡ 0 → ⊥)
      → Even (block_bytes w.state.media.disc) l.stored.blocks × (w.disc ≡ flatten l.stored.blocks)
  pub opened : Opened (block_bytes w.state.media.disc) w.buffer w.disc l.stored l.left l.coming l.listing w.state.transfer

-- ---- events

-- without a disc no disc transfer is open, so that another disc changes nothing of what is open
no_disc_lem : (m : Media) → m.disc ≡ 0 → (b : ℕ) (buffer disc other : List ℕ) (stored : Store) (t : Transfer) → open_sound_b m t ≡ true
    → (gives buffer other t ≡ gives buffer disc t) × GatheredIn b buffer other stored t × (listed_in buffer t ≡ none)
no_disc_lem m out b buffer disc other stored t s = here (discless m out t s)
  where
    here : Discless t → (gives buffer other t ≡ gives buffer disc t) × GatheredIn b buffer other stored t × (listed_in buffer t ≡ none)
    here (is-shut q) = (rw q, rw q tt, rw q)
    here (answers a q) = (rw q, rw q tt, rw q)

module _ (w : World) (sound : sound_b w.state ≡ true) (l : Ledger) (a : Agrees w l) where
  pub agrees_inserted : (number : ℕ) (prot : Bool) (disc : List ℕ)
      → let c = Insert number prot disc in
      house_of w c ≡ 0 → Agrees (accepted_of w c).world (noted l c (accepted_of w c).heard)
  unfolding noted inserted_of disc_bytes run_bytes
  agrees_inserted number prot disc accepted =
      let i = (insert_admits w.state number disc).0 accepted in
      let (same, unwritten, unlisted) =
      no_disc_lem w.state.media i.none (block_bytes number) w.buffer w.disc disc _ w.state.transfer (parts w.state sound).opened in
      let o = a.opened in
      record {
        media = refl;
        host = rw a.host;
        disc = λ _. (
          cut_even (block_bytes number) (format_of number).blocks disc i.whole,
          sym (cut_joins (block_bytes number) (format_of number).blocks disc i.whole),
        );
        opened = record { taking = o.taking; giving = o.giving ∙ sym same; all = rw same o.all; gathered = unwritten; listed = sym unlisted };
      }

  pub agrees_ejected : Agrees (accepted_of w Eject).world (noted l Eject (accepted_of w Eject).heard)
  unfolding noted ejected_of
  agrees_ejected = record { media = refl; host = rw a.host; disc = λ some. absurd (some refl); opened = shut _ _ _ _ }
