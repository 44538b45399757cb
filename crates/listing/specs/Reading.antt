-- The loop of the program `compare`: each turn fills a room from each image, from the place of the next block on, and prints the lines of these parts.
use Rattle.std.specs.Prelude.{◌≡◌, ◌⊎◌, ◌&&◌, ◌++◌, ◌+◌, ◌<◌, ◌≤◌}
use Rattle.ground.specs.Kit.{false, cond, List, [], ℕ, zero, suc, min, eqb, length, take, drop}
use Rattle.listing.specs.declared.{Comparison.Comparison}
use Rattle.disc.specs.declared.{BlockAddress.BlockAddress, BytePlace.BytePlace}
use Rattle.disc.specs.Formats.{format_of, block_bytes, run_bytes, disc_bytes, place_of}
use Rattle.text.specs.Ink.{begun}
use Rattle.window.specs.Windows.{Held, held, opened_of}
use Rattle.window.specs.Loops.{Leaves}
use Rattle.window.specs.Filling.{filling}
use Rattle.listing.specs.Differing.{differing, differing_from}
use Rattle.listing.specs.Listing.{lines_of, listing, outside_b, disc_of, refusal_of, unless_refused, printed_of}
use Rattle.listing.specs.Turns.{start_of, due_of, line_bytes, turn_of}
use Rattle.listing.specs.Theorems.{Images}

-- what differs in a part and in the part behind it is what differs in both together
abbrev pub PartAfterPart : Type 0
PartAfterPart = (number : ℕ) (from : BlockAddress) (n m : ℕ) (first second : List ℕ)
    → let bytes = run_bytes number n in
    differing_from number from (n + m) first second
    ≡ differing_from number from n first second ++ differing_from number (record { 0 = from.0 + n }) m (drop bytes first) (drop bytes second)

-- how an image comes: for each turn, in which parts its reads bring it, and what they leave behind what they bring
pub record Ways : Type 0 where
  pub parts : ℕ → List ℕ
  pub leaves : ℕ → ℕ → List ℕ → List ℕ
  pub keeps : (n : ℕ) → Leaves (leaves n)

-- in a turn, so many bytes of an image from a place on at the start of a room
abbrev pub filled_of : Ways → ℕ → ℕ → BytePlace → List ℕ → List ℕ → Held
filled_of ways turn due place image room =
    filling (ways.leaves turn) (due + 1) (held opened_of (take due room)) (drop place.0 image) (ways.parts turn)

module _ (number : ℕ) (first second : List ℕ) (one two : Ways) (last : ℕ → List ℕ) where
  -- what so many turns print, and what is said last, by the total: the exit status; where an image comes short nothing more is printed
  abbrev pub comparing : ℕ → Comparison → List ℕ → List ℕ → List ℕ → List ℕ
  comparing zero run room space text = []
  comparing (suc n) run room space text =
      let place = place_of number run.block in
      let due = due_of number run.block (length room) in
      let f = filled_of one n due place first room in
      let s = filled_of two n due place second space in
      -- which buffer the text is lent does not matter
      let t = turn_of number run f.room s.room (begun 0 0 text) in
      cond run.over (last run.total)
      (cond (eqb f.window.upto due && eqb s.window.upto due)
      (take t.text.ink.at t.text.ink.line ++ comparing n t.run (f.room ++ drop due room) (s.room ++ drop due space) t.text.ink.line)
      [])

-- there is room for a block of either image, for a line and for the last line
pub record Roomy (number : ℕ) (room space text : List ℕ) : Type 0 where
  pub wide : block_bytes number ≤ length room
  pub alike : length space ≡ length room
  pub long : line_bytes ≤ length text

-- in whatever parts two images of a disc come, the program prints their listing, comes to its end, and knows then how many blocks differ
abbrev pub AnyReading : Type 0
AnyReading = (number : ℕ) → outside_b number ≡ false → (first second : List ℕ) → Images number first second
    → (one two : Ways) (last : ℕ → List ℕ) (room space text : List ℕ) → Roomy number room space text → (n : ℕ) → (format_of number).blocks < n
    → comparing number first second one two last n (start_of number) room space text ≡ listing number first second ++ last (length (differing number first second))

-- where either comes short of its disc, the lines of blocks that both have are printed, of all but the last part of them, and nothing else: no last line
abbrev pub ComesShort : Type 0
ComesShort = (number : ℕ) → outside_b number ≡ false → (first second : List ℕ) → (length first < disc_bytes number) ⊎ (length second < disc_bytes number)
    → (one two : Ways) (last : ℕ → List ℕ) (room space text : List ℕ) → Roomy number room space text → (n : ℕ) → (format_of number).blocks < n
    → let both = min (length first) (length second) in
    (k : ℕ) × (run_bytes number k ≤ both) × (both < run_bytes number k + length room)
    × (comparing number first second one two last n (start_of number) room space text ≡ lines_of (differing_from number (record { 0 = 0 }) k first second))

-- the program from its arguments on: a refusal and what is said behind it, or the loop
abbrev pub running : (last : ℕ → List ℕ) (refused said first second : List ℕ) (one two : Ways) (n : ℕ) (room space text : List ℕ) → List ℕ
running last refused said first second one two n room space text =
    unless_refused refused (refusal_of (disc_of said) (length first) (length second))
    (λ number. comparing number first second one two last n (start_of number) room space text) (disc_of said)

-- whatever the number says and whatever the files hold, in whatever parts they come
abbrev pub AnyRun : Type 0
AnyRun = (last : ℕ → List ℕ) (refused said first second : List ℕ) (one two : Ways) (room space text : List ℕ)
    → 1024 ≤ length room → length space ≡ length room → line_bytes ≤ length text → (n : ℕ) → 2880 < n
    → running last refused said first second one two n room space text ≡ printed_of last refused said first second
