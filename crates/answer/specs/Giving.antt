-- Paper 01, "Answers from the block buffer": how an answer gets there.
use Rattle.std.specs.Prelude.{◌/◌}
use Rattle.ground.specs.Kit.{List, ℕ, min, eqb, length}
use Rattle.state.specs.declared.{Media.Media}
use Rattle.packet.specs.declared.{Answering.Answering}
use Rattle.ground.specs.Bytes.{byte_at}
use Rattle.ground.specs.Filling.{Filled, fill_of}
use Rattle.state.specs.declared.Sense as state
use Rattle.packet.specs.declared.Answering.TheVariants.{Sense, Inquiry, FormatCapacities, Capacity, Mode}
use Rattle.answer.specs.Answers.{sense_data, inquiry_to, capacity_data, capacities_data, mode_data}

-- "min(allocation, full size)"; a buffer shorter than that, which the drive never lends, is filled
abbrev pub share_of : List ℕ → ℕ → List ℕ → ℕ
share_of answer allocation buffer = min (min allocation (length answer)) (length buffer)

-- "The first min(allocation, full size) bytes are put at the start of the block buffer, the rest of it is untouched"; "Length fields
-- inside aren't altered by the cut."
abbrev pub put_of : List ℕ → ℕ → List ℕ → Filled
put_of answer allocation buffer = fill_of (share_of answer allocation buffer) answer buffer

-- each answer, by the disc that is in, the old triple ("REQUEST SENSE first takes the old triple as its answer and shows no pending flag")
-- and the packet, of which 12 has the unit number (byte 1, bits 7-5) and 5A the page control
unfoldable pub answer_of : Answering → Media → state.Sense → List ℕ → List ℕ
answer_of Sense m sense p = sense_data sense
answer_of Inquiry m sense p = inquiry_to (byte_at p 1 / 32)
answer_of FormatCapacities m sense p = capacities_data m.disc
answer_of Capacity m sense p = capacity_data m.disc
answer_of Mode m sense p = mode_data m.disc m.protected (eqb (byte_at p 2 / 64) 1)

-- 25 has "no allocation field"
unfoldable pub allocation_of : Answering → ℕ → ℕ
allocation_of Sense n = n
allocation_of Inquiry n = n
allocation_of FormatCapacities n = n
allocation_of Capacity n = 8
allocation_of Mode n = n

unfoldable pub give_of : Answering → Media → state.Sense → List ℕ → ℕ → List ℕ → Filled
give_of a m sense p allocation buffer = put_of (answer_of a m sense p) (allocation_of a allocation) buffer
