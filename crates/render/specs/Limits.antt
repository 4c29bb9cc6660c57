-- The limits of a pipeline's steps over the slots.
use Rattle.std.specs.Prelude.{ℕ, ◌+◌, ◌-◌, ◌/◌, ◌^◌, cond, List, [], ◌∷◌, Some, None, Option, ◌==◌, nat_lt}
use Rattle.render.specs.declared.bindings.IndexBinding.{IndexBinding}
use Rattle.render.specs.declared.bindings.VertexSlot.{VertexSlot}
use Rattle.render.specs.declared.limits.Least.{Least}
use Rattle.render.specs.declared.limits.VertexLimits.{VertexLimits}
use Rattle.render.specs.declared.steps.VertexStep.{VertexStep}
use Rattle.render.specs.declared.steps.VertexStepMode.{VertexStepMode}
use Rattle.render.specs.declared.steps.VertexStepMode.TheVariants.{Vertex, Instance}
use Rattle.render.specs.Bound.{Bound}
use Rattle.render.specs.Sizes.{size_of, index_bytes}

-- how many items of a step this many bytes are good for: None where they are for any number
abbrev pub own_limit : VertexStep → ℕ → Option ℕ
own_limit st size = cond (nat_lt size st.last_stride) (Some 0) (cond (st.stride == 0) None (Some ((size - st.last_stride) / st.stride + 1)))

abbrev pub four_limits : ℕ → ℕ → ℕ → ℕ → VertexLimits
four_limits v vs i is = record { vertex_limit = v; vertex_limit_slot = vs; instance_limit = i; instance_limit_slot = is }

abbrev pub unlimited : VertexLimits
unlimited = four_limits (2 ^ 64 - 1) 0 (2 ^ 64 - 1) 0

abbrev pub nothing : VertexLimits
nothing = four_limits 0 0 0 0

abbrev pub least : ℕ → ℕ → Least
least limit slot = record { limit = limit; slot = slot }

-- only a smaller limit replaces
abbrev pub lowered : VertexLimits → ℕ → VertexStepMode → Option ℕ → VertexLimits
lowered l slot mode None = l
lowered l slot Vertex (Some n) = cond (nat_lt n l.vertex_limit) (four_limits n slot l.instance_limit l.instance_limit_slot) l
lowered l slot Instance (Some n) = cond (nat_lt n l.instance_limit) (four_limits l.vertex_limit l.vertex_limit_slot n slot) l

-- the limits of the steps from slot i on, in the order of the slots
unfoldable pub limits_from : List VertexSlot → List (Option VertexStep) → ℕ → VertexLimits → VertexLimits
limits_from slots [] i l = l
limits_from [] (step ∷ steps) i l = l
limits_from (s ∷ slots) (None ∷ steps) i l = limits_from slots steps (i + 1) l
limits_from (s ∷ slots) (Some st ∷ steps) i l = elim s.range [ None ↦ nothing | Some range ↦ limits_from slots steps (i + 1) (lowered l i st.mode (own_limit st (size_of range))) ]

-- before any steps there is nothing to draw
abbrev pub limits_of : Bound → VertexLimits
limits_of b = elim b.steps [ None ↦ nothing | Some steps ↦ limits_from b.slots steps 0 unlimited ]

-- how many whole indices are bound
abbrev pub whole_indices : Option IndexBinding → ℕ
whole_indices None = 0
whole_indices (Some index) = size_of index.range / index_bytes index.format

abbrev pub index_limit_of : Bound → ℕ
index_limit_of b = whole_indices b.index
