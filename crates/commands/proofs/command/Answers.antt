use Rattle.ground.specs.Kit.{ap, true, []}
use Rattle.house.specs.World.{in_state, in_lent, reply}
use Rattle.commands.specs.Obeying.{command_of}
use Rattle.commands.proofs.command.Goals as goal

pub returns-in-Ok : goal.returns-in-Ok
unfolding command_of
returns-in-Ok c w =
    let x = c.args in
    rw (← c.in_ok-command_house.ensures, ← c.judge.ensures, c.in-Ok.is)
    (ap (reply 0 true 0 []) (c.performed.ensures (in_state (in_lent w x.buffer.now x.disc.now) x.state)))
