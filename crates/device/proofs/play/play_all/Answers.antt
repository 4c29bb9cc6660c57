use Rattle.std.proofs.Common.{sym, ap, ◌∙◌, take_all}
use Rattle.device.specs.Plays.{played}
use Rattle.device.proofs.Playing.{leaves_all_to, play_all_more}
use Rattle.device.proofs.play.play_all.Goals as goal

pub loop-command-preserved : goal.loop-command-preserved
loop-command-preserved g c =
    c.play.ensures.after ∙ ap (played _) c.loop-command.invariant ∙ sym (play_all_more c.args.commands.now c.loop-command.command-index _ _ c.loop-command-test.true)

pub returns-clause-leaves : goal.returns-clause-leaves
returns-clause-leaves g c =
    let whole = take_all c.loop-command.command-index c.args.commands.now c.loop-command-test.false in
    leaves_all_to c.args.commands.now _ _ (cc)
