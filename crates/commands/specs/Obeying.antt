-- Paper 01, "A command": what a packet makes of the state and of what was lent.
use Rattle.std.specs.Prelude.{◌%◌, Result, Ok, Err}
use Rattle.ground.specs.Kit.{Bool, true, false, List, [], ℕ, eqb}
use Rattle.disc.specs.declared.{BlockAddress.BlockAddress}
use Rattle.state.specs.declared.{DiscAt.DiscAt, Transfer.Transfer}
use Rattle.packet.specs.declared.{Rule.Rule, Routine.Routine}
use Rattle.commands.specs.declared.{Obeyed.Obeyed}
use Rattle.ground.specs.Bytes.{byte_at}
use Rattle.ground.specs.Filling.{Filled}
use Rattle.disc.specs.Formats.{place_of, run_bytes}
use Rattle.state.specs.States.{list_bytes, obeyed_of}
use Rattle.state.specs.Senses.{no_sense}
use Rattle.state.specs.declared.Transfer.TheVariants.{Closed, Answer as AnswerFrom, Read as ReadFrom, Write as WriteTo, ParameterList as ListFor}
use Rattle.packet.specs.Fields.{address_of, length_of}
use Rattle.packet.specs.declared.Routine.TheVariants.{Nothing, Motor, Answer, Read, Write, ParameterList}
use Rattle.checks.specs.Verdicts.{Verdict, verdict}
use Rattle.answer.specs.Giving.{give_of}
use Rattle.house.specs.World.{World, in_state, in_buffer, Reply, reply, unless_refused}
use Rattle.house.specs.declared.{Refusal.Refusal}
use Rattle.house.specs.Refusals.{replied, command_house}

-- the bytes of so many blocks from an address
unfoldable pub span_of : ℕ → BlockAddress → ℕ → DiscAt
span_of number from blocks = record { at = place_of number from; left = run_bytes number blocks }

-- a command that passes: "sets the sense to 00 00 00, also INQUIRY"
abbrev pub passing : World → Bool → Transfer → World
passing w motor t = in_state w (obeyed_of w.state no_sense motor t)

-- a transfer of so many blocks from the packet's address
abbrev pub moving : (DiscAt → Transfer) → World → List ℕ → ℕ → World
moving way w p n = passing w w.state.motor (way (span_of w.state.media.disc (address_of p) n))

-- "the transfer opens on them"
abbrev pub answered : World → Filled → World
answered w f = in_buffer (passing w w.state.motor (AnswerFrom (record { at = 0; left = f.count }))) f.bytes

-- "1B sets the motor flag from byte 4 bit 0"; "28 and A8 (each a READ) open a read, 2A, 2E and AA (each a WRITE) a write";
-- "00, 01, 1E, 2B, 2F pass and do nothing more"; Req 03: 04 takes a "12-byte parameter list", for the track in byte 2
abbrev pub routine_of : Routine → World → List ℕ → ℕ → World
routine_of Nothing w p n = passing w w.state.motor Closed
routine_of Motor w p n = passing w (eqb (byte_at p 4 % 2) 1) Closed
routine_of (Answer a) w p n = answered w (give_of a w.state.media w.state.host.sense p n w.buffer)
routine_of Read w p n = moving ReadFrom w p n
routine_of Write w p n = moving WriteTo w p n
routine_of ParameterList w p n = passing w w.state.motor (ListFor (record { track = byte_at p 2; left = list_bytes }))

unfoldable pub performed_of : Rule → World → List ℕ → World
performed_of rule w p = routine_of rule.routine w p (length_of rule.length p)

-- a reply, where what is lent afterwards has the state before
abbrev pub commanded : Result Obeyed Refusal → World → Reply
commanded r w = replied (λ o. reply 0 o.passed 0 [] (in_state w o.state)) r w []

-- "A packet past tests 1 to 4 first closes any open transfer": what a command leaves open is its own; one that fails leaves block
-- buffer and disc
abbrev pub reply_to : Verdict → World → List ℕ → Reply
reply_to (Err sense) w p = reply 0 false 0 [] (in_state w (obeyed_of w.state sense w.state.motor Closed))
reply_to (Ok rule) w p = reply 0 true 0 [] (performed_of rule w p)

unfoldable pub command_of : World → List ℕ → Reply
command_of w p = unless_refused (command_house w p) w [] (reply_to (verdict w.state.media w.state.host p) w p)
