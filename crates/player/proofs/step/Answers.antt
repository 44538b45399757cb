use Rattle.ground.specs.Kit.{sym, ◌∙◌}
use Rattle.house.specs.World.{world}
use Rattle.player.proofs.Stepping.{waits, plays, answers}
use Rattle.player.proofs.step.Goals as goal

pub returns-then-not-enough-ended : goal.returns-then-not-enough-ended
returns-then-not-enough-ended c = sym (waits _ _ _ _ _ (rw (← c.enough.ensures) c.if-not-enough-ended.true))

pub returns : goal.returns
returns c =
    answers _ _ _ _ _ _ _ _ _ _ c.is_none.ensures c.unwrap_or-outcome.ensures
    ∙ plays _ _ _ _ _ _ _ _ (rw (← c.enough.ensures) c.if-not-enough-ended.false) c.play-played.ensures c.length_field.ensures
    (c.lined-length.ensures (world c.args.state c.play-played.new.buffer c.play-played.new.disc))
