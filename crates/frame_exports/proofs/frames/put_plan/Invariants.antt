use Rattle.frame_exports.specs.Records.{batch_told, record_told}
use Rattle.frame_exports.proofs.frames.put_plan.Given as goal

abbrev pub ghost-put_each : goal.ghost-put_each
ghost-put_each a = record_told

abbrev pub ghost-put_each-2 : goal.ghost-put_each-2
ghost-put_each-2 a = batch_told
