-- What a record that isn't bad says of the bytes behind its header.
use Rattle.std.specs.Prelude.{◌≡◌, ◌+◌, ◌≤◌, Option, Some, None}
use Rattle.ground.specs.Kit.{List, ℕ, length}
use Rattle.record.specs.declared.{Record.Record}
use Rattle.record.specs.Records.{length_field, record_of}
use Rattle.record.specs.declared.Record.TheVariants.{Insert, Eject, Command, Feed, Pull}

-- its length counts the header, and it is whole
abbrev pub There : List ℕ → Type 0
There bytes = (4 ≤ length_field bytes) × (length_field bytes ≤ length bytes)

-- a command has 12 bytes behind its header and a feed its piece; a pull asks for 512 bytes at the most
abbrev pub Holds : Option Record → List ℕ → Type 0
Holds (Some (Insert number prot)) bytes = There bytes
Holds (Some Eject) bytes = There bytes
Holds (Some Command) bytes = There bytes × (length_field bytes ≡ 16)
Holds (Some (Feed n)) bytes = There bytes × (length_field bytes ≡ 4 + n)
Holds (Some (Pull n)) bytes = There bytes × (n ≤ 512)
Holds None bytes = Unit

abbrev pub AllHold : Type 0
AllHold = (bytes : List ℕ) → Holds (record_of bytes) bytes
