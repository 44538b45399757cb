-- Paper 01, "State": what the drive remembers, and what each kind of call makes of it.
use Rattle.std.specs.Prelude.{◌&&◌, ◌+◌, ◌-◌}
use Rattle.ground.specs.Kit.{Bool, true, false, cond, not, ℕ, eqb}
use Rattle.disc.specs.declared.{BytePlace.BytePlace}
use Rattle.state.specs.declared.{Sense.Sense, Media.Media, Host.Host, AnswerAt.AnswerAt, DiscAt.DiscAt, ListAt.ListAt, State.State, Transfer.Transfer}
use Rattle.state.specs.declared.Transfer.TheVariants.{Closed, Answer, Read, Write, ParameterList}
use Rattle.state.specs.Senses.{no_sense, power_told, change_told, no_disc, same_b}

-- "Disc number, write protection"
abbrev pub media_of : ℕ → Bool → Media
media_of disc prot = record { disc = disc; protected = prot }

-- "two attention flags (power-on, change), one sense triple"
abbrev pub host_of : Bool → Bool → Sense → Host
host_of power change sense = record { power = power; change = change; sense = sense }

-- "Disc number, write protection, motor flag, two attention flags .., one sense triple, and one transfer"
abbrev pub state_of : Media → Bool → Host → Transfer → State
state_of media motor host transfer = record { media = media; motor = motor; host = host; transfer = transfer }

-- "Number 0 means no disc."
abbrev pub no_media : Media
no_media = media_of 0 false

-- "no disc, motor off, power-on flag set, change flag clear, no sense, closed"
abbrev pub power_on : State
power_on = state_of no_media false (host_of true false no_sense) Closed

-- "06 29 00 for power-on, else 06 28 00; that one flag is cleared": by the triple that the host is told; any other leaves both
abbrev pub told : Host → Sense → Host
told h sense = host_of (not (same_b sense power_told) && h.power) (not (same_b sense change_told) && h.change) sense

-- Req 03: "The 12-byte parameter list"
abbrev pub list_bytes : ℕ
list_bytes = 12

-- how many bytes are left of a transfer
abbrev pub left_of : Transfer → ℕ
left_of Closed = 0
left_of (Answer p) = p.left
left_of (Read p) = p.left
left_of (Write p) = p.left
left_of (ParameterList p) = p.left

abbrev pub is_open_b : Transfer → Bool
is_open_b Closed = false
is_open_b (Answer p) = true
is_open_b (Read p) = true
is_open_b (Write p) = true
is_open_b (ParameterList p) = true

-- "with 0 bytes it stays closed"; "length 0 passes and stays closed"; "At 0 left the transfer closes."
abbrev pub closed_at_zero : Transfer → Transfer
closed_at_zero t = cond (eqb (left_of t) 0) Closed t

-- a place on the disc, n bytes further on
abbrev pub onward : BytePlace → ℕ → BytePlace
onward place n = record { 0 = place.0 + n }

-- an answer, a read or a write, and a list, n bytes further on
abbrev pub answer_after : AnswerAt → ℕ → AnswerAt
answer_after p n = record { at = p.at + n; left = p.left - n }

abbrev pub disc_after : DiscAt → ℕ → DiscAt
disc_after p n = record { at = onward p.at n; left = p.left - n }

abbrev pub list_after : ListAt → ℕ → ListAt
list_after p n = record { track = p.track; left = p.left - n }

-- "Insertion sets number, protection and the change flag, nothing else."
unfoldable pub inserted_of : State → ℕ → Bool → State
inserted_of s number prot = state_of (media_of number prot) s.motor (host_of s.host.power true s.host.sense) s.transfer

-- "if one was open, of any kind, the sense becomes 02 3A 00"
abbrev pub sense_after : Sense → Transfer → Sense
sense_after sense t = cond (is_open_b t) no_disc sense

-- "Ejection clears number and protection and closes the transfer; .. Flags stay."
unfoldable pub ejected_of : State → State
ejected_of s =
    state_of no_media s.motor (host_of s.host.power s.host.change (sense_after s.host.sense s.transfer)) Closed

-- a command: the triple that it answers, its motor flag, and the transfer that it opens, if any
unfoldable pub obeyed_of : State → Sense → Bool → Transfer → State
obeyed_of s sense motor transfer = state_of s.media motor (told s.host sense) (closed_at_zero transfer)

-- a feed or a pull that moves bytes: nothing but the transfer changes
unfoldable pub moved_of : State → Transfer → State
moved_of s transfer = state_of s.media s.motor s.host (closed_at_zero transfer)
