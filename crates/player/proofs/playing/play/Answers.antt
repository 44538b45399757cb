use Rattle.std.specs.Prelude.{◌≡◌, ◌+◌, ◌-◌, Some}
use Rattle.ground.specs.Kit.{sym, ap, ◌∙◌, ℕ, arith, length-replicate, take, length-take-le}
use Rattle.record.specs.Records.{record_of}
use Rattle.ground.specs.Bytes.{zeros}
use Rattle.house.specs.World.{World, world}
use Rattle.std.proofs.lemmas.List.{take-replicate}
use Rattle.player.proofs.Lending.{pull_few}
use Rattle.player.proofs.Telling.{command_says, feed_says, pull_says}
use Rattle.player.proofs.playing.play.Goals.{After-seen-bytes}
use Rattle.player.proofs.playing.play.Goals as goal

abbrev bench : After-seen-bytes → World
bench s = let x = s.args in world x.state x.buffer.now x.disc.now

told : (s : After-seen-bytes) → record_of s.args.script.now ≡ Some s.in_ok-told.told
told s = sym s.first_record.ensures ∙ s.in_ok-told.was

pub slice_bounds-pull-end-in-Pull : goal.slice_bounds-pull-end-in-Pull
slice_bounds-pull-end-in-Pull c =
    let s = (goal.at.slice_bounds-pull-end-in-Pull c).After-seen-bytes in
    sym (length-take-le _ _ (rw (c.requires, length-replicate {A = ℕ} 512 0) (pull_few _ c.args.script.now (told s ∙ ap Some c.in-Pull.is))))

pub returns-in-Command : goal.returns-in-Command
returns-in-Command c =
    let s = (goal.at.returns-in-Command c).After-seen-bytes in
    rw (told s, c.in-Command.is, c.moved-in-Command.ensures)
    (command_says (bench s) _ c.seen-bytes.ensures _ _ _ _ _ c.map-in-Command.ensures.cases (c.command-reply.ensures (bench s)))

pub returns-in-Feed : goal.returns-in-Feed
returns-in-Feed c =
    let s = (goal.at.returns-in-Feed c).After-seen-bytes in
    let behind : 4 + c.in-Feed.n - 4 ≡ c.in-Feed.n = omega arith in
    rw (told s, c.in-Feed.is, c.moved-in-Feed.ensures)
    (feed_says (bench s) _ c.seen-bytes.ensures _ _ _ _ _ c.feed-reply.auto.disc (rw behind at (c.feed-reply.ensures (bench s))))

pub returns-in-Pull : goal.returns-in-Pull
returns-in-Pull c =
    let s = (goal.at.returns-in-Pull c).After-seen-bytes in
    let few = pull_few _ c.args.script.now (told s ∙ ap Some c.in-Pull.is) in
    let into : take c.in-Pull.n c.args.out.now ≡ zeros c.in-Pull.n = rw c.requires (take-replicate c.in-Pull.n 512 0 few) in
    rw (told s, c.in-Pull.is, c.moved-in-Pull.ensures, ← into)
    (pull_says (bench s) _ c.seen-bytes.ensures _ _ _ _ c.pull-reply.auto.out (c.pull-reply.ensures (bench s)))
