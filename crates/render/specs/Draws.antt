-- What a draw is held to once it can be asked for.
use Rattle.std.specs.Prelude.{ℕ, ◌+◌, Bool, cond, ◌&&◌, Ok, Err, Result, nat_lt}
use Rattle.command.specs.declared.args.DrawArgs.{DrawArgs}
use Rattle.command.specs.declared.family.DrawCommandFamily.{DrawCommandFamily}
use Rattle.command.specs.declared.family.DrawCommandFamily.TheVariants.{Draw, DrawIndexed}
use Rattle.command.specs.declared.refusal.Beyond.{Beyond}
use Rattle.command.specs.declared.refusal.Refusal.{Refusal}
use Rattle.command.specs.declared.refusal.Refusal.TheVariants.{VertexBeyondLimit, IndexBeyondLimit, InstanceBeyondLimit}
use Rattle.render.specs.declared.direct.DrawLimits.{DrawLimits}
use Rattle.render.specs.declared.limits.VertexLimits.{VertexLimits}
use Rattle.render.specs.Bound.{Bound}
use Rattle.render.specs.Limits.{limits_of, index_limit_of}
use Rattle.command.specs.Checks.{and_then}
use Rattle.render.specs.Ready.{ready}

-- vertices are limited by the vertex buffers, indices by the index binding
abbrev pub item_limit : Bound → DrawCommandFamily → ℕ
item_limit b Draw = (limits_of b).vertex_limit
item_limit b DrawIndexed = index_limit_of b

abbrev pub draw_limits : Bound → DrawCommandFamily → DrawLimits
draw_limits b family = record { family = family; vertex_or_index_limit = item_limit b family; instance_limit = (limits_of b).instance_limit }

abbrev pub limits_answer : Bound → ℕ → Result DrawLimits Refusal
limits_answer b kind = and_then (ready b kind) (λ family. Ok (draw_limits b family))

abbrev pub beyond : ℕ → ℕ → Beyond
beyond last limit = record { last = last; limit = limit }

-- what a draw names, up to `last`, against the limits
abbrev pub vertex_within : VertexLimits → ℕ → Result (Unit {0}) Refusal
vertex_within l last = cond (nat_lt l.vertex_limit last) (Err (VertexBeyondLimit (beyond last l.vertex_limit) l.vertex_limit_slot)) (Ok tt)

abbrev pub instance_within : VertexLimits → ℕ → Result (Unit {0}) Refusal
instance_within l last = cond (nat_lt l.instance_limit last) (Err (InstanceBeyondLimit (beyond last l.instance_limit) l.instance_limit_slot)) (Ok tt)

abbrev pub index_within : ℕ → ℕ → Result (Unit {0}) Refusal
index_within limit last = cond (nat_lt limit last) (Err (IndexBeyondLimit (beyond last limit))) (Ok tt)

abbrev pub items_within : VertexLimits → ℕ → DrawCommandFamily → ℕ → Result (Unit {0}) Refusal
items_within l indices Draw last = vertex_within l last
items_within l indices DrawIndexed last = index_within indices last

-- vertices or indices are judged before instances; an accepted draw says whether there is anything to draw
abbrev pub within_answer : VertexLimits → (indices : ℕ) → DrawCommandFamily → DrawArgs → Result Bool Refusal
within_answer l indices family a = and_then (items_within l indices family (a.first + a.count)) (λ _. and_then (instance_within l (a.first_instance + a.instances)) (λ _. Ok (nat_lt 0 a.count && nat_lt 0 a.instances)))

abbrev pub draw_answer : Bound → ℕ → DrawArgs → Result Bool Refusal
draw_answer b kind a = and_then (ready b kind) (λ family. within_answer (limits_of b) (index_limit_of b) family a)
