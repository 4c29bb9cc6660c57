use Rattle.std.proofs.Common.{◌≡◌, take}
use Rattle.device.specs.Plays.{play_all}
use Rattle.device.proofs.play.play_all.Given as goal

abbrev pub invariant-loop-command : goal.invariant-loop-command
invariant-loop-command g l = g.E.Device.means l.encoder ≡ play_all (take l.command-index l.commands) (g.E.Device.means l.initial.encoder)
