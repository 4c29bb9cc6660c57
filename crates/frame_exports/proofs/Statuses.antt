-- The status that C sees of a frame is that of its outcome.
use Rattle.std.proofs.Common.{◌≡◌, Bool, true, false, cond, ◌&&◌, Ok, Err, Result, refl}
use Rattle.command.specs.Lawful.{lawful, lawful_sizes}
use Rattle.command.specs.declared.refusal.Refusal.{Refusal}
use Rattle.command.specs.declared.refusal.Refusal.TheVariants.{UnlawfulSettings}
use Rattle.plan.specs.declared.frame.FramePlan.{FramePlan}
use Rattle.frame_exports.specs.Frames.{frame_outcome, frame_status, plan_outcome, plan_status}
use Rattle.frame_exports.specs.Status.{call_status}
use Rattle.frame_exports.specs.declared.frames.FrameSettings.{FrameSettings}
use Rattle.frame_exports.specs.declared.status.Failure.TheVariants.{Refused, UnlawfulSizes, ShortOutput}

each : (settings sizes room : Bool) (p : Result FramePlan Refusal) → call_status (cond (settings && sizes) (cond room (plan_outcome p) (Err ShortOutput)) (Err (cond settings UnlawfulSizes (Refused UnlawfulSettings)))) ≡ cond settings (cond sizes (cond room (plan_status p) 67) 66) 1
each true true true (Ok p) = refl
each true true true (Err e) = refl
each true true false p = refl
each true false room p = refl
each false sizes room p = refl

pub status_of_frame : (q : FrameSettings) (room : Bool) (p : Result FramePlan Refusal) → call_status (frame_outcome q room p) ≡ frame_status q room (plan_status p)
status_of_frame q room p = each (lawful q.alignment q.largest_binding) (lawful_sizes q.buffer_size q.block_size) room p
