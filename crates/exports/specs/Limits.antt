-- What a host is told of the limits and of a direct draw.
use Rattle.std.specs.Prelude.{ℕ, Bool, cond, Some, None, Ok, Err, Option, Result}
use Rattle.command.specs.Refusals.{number_of, report_of}
use Rattle.command.specs.declared.args.DrawArgs.{DrawArgs}
use Rattle.command.specs.declared.refusal.Beyond.{Beyond}
use Rattle.command.specs.declared.refusal.Refusal.{Refusal}
use Rattle.command.specs.declared.refusal.Report as refusal
use Rattle.render.specs.Bound.{Bound}
use Rattle.render.specs.Draws.{draw_answer}
use Rattle.render.specs.Limits.{index_limit_of, limits_of}
use Rattle.command.specs.Checks.{and_then}
use Rattle.render.specs.declared.limits.VertexLimits.{VertexLimits}
use Rattle.exports.specs.declared.limits.Draw.{Draw}
use Rattle.exports.specs.declared.limits.Limits.{Limits}
use Rattle.exports.specs.declared.limits.Report.{Report}

-- 0 for what was accepted, else the refusal's number
abbrev pub result_status : {X : Type 0} → Result X Refusal → ℕ
result_status (Ok x) = 0
result_status (Err e) = number_of e

abbrev pub limits_told : VertexLimits → Limits
limits_told l = record { vertex_limit = l.vertex_limit; vertex_limit_slot = l.vertex_limit_slot; instance_limit = l.instance_limit; instance_limit_slot = l.instance_limit_slot }

abbrev pub limits_written : Result Bound Refusal → Limits → Limits
limits_written (Ok b) old = limits_told (limits_of b)
limits_written (Err e) old = old

abbrev pub index_written : Result Bound Refusal → ℕ → ℕ
index_written (Ok b) old = index_limit_of b
index_written (Err e) old = old

abbrev pub last_told : Option Beyond → ℕ
last_told None = 0
last_told (Some b) = b.last

abbrev pub limit_told : Option Beyond → ℕ
limit_told None = 0
limit_told (Some b) = b.limit

abbrev pub slot_told : Option ℕ → ℕ
slot_told None = 0
slot_told (Some s) = s

-- the values of a refusal, 0 for those that it has not
abbrev pub refusal_told : refusal.Report → Report
refusal_told r = record { draws = 0; last = last_told r.beyond; limit = limit_told r.beyond; slot = slot_told r.slot }

-- whether there is anything to draw, or why the draw is refused
abbrev pub draw_written : Result Bool Refusal → Report
draw_written (Ok any) = record { draws = cond any 1 0; last = 0; limit = 0; slot = 0 }
draw_written (Err e) = refusal_told (report_of e)

abbrev pub args_of : Draw → DrawArgs
args_of d = record { count = d.count; instances = d.instances; first = d.first; first_instance = d.first_instance }

abbrev pub draw_judged : Result Bound Refusal → Draw → Result Bool Refusal
draw_judged bound d = and_then bound (λ b. draw_answer b d.kind (args_of d))
