-- What a render pass has bound, as lists.
use Rattle.std.specs.Prelude.{ℕ, List, take, replicate, Some, None, Option, slice_set}
use Rattle.render.specs.declared.bindings.Bindings.{Bindings}
use Rattle.render.specs.declared.bindings.IndexBinding.{IndexBinding}
use Rattle.render.specs.declared.bindings.VertexSlot.{VertexSlot}
use Rattle.render.specs.declared.steps.PipelineSteps.{PipelineSteps}
use Rattle.render.specs.declared.steps.VertexStep.{VertexStep}

pub record Bound : Type 0 where
  pub slots : List VertexSlot
  pub steps : Option (List (Option VertexStep))
  pub index : Option IndexBinding

abbrev pub listed : PipelineSteps → List (Option VertexStep)
listed steps = take steps.len steps.all

abbrev pub steps_of : Option PipelineSteps → Option (List (Option VertexStep))
steps_of None = None
steps_of (Some steps) = Some (listed steps)

abbrev pub bound : Bindings → Bound
bound b = record { slots = b.slots; steps = steps_of b.steps; index = b.index }

abbrev pub empty_slot : VertexSlot
empty_slot = record { range = None }

-- what a new pass has
abbrev pub unbound : Bound
unbound = record { slots = replicate 16 empty_slot; steps = None; index = None }

abbrev pub with_slot : Bound → ℕ → VertexSlot → Bound
with_slot b i s = record { slots = slice_set b.slots i s; steps = b.steps; index = b.index }

abbrev pub with_steps : Bound → List (Option VertexStep) → Bound
with_steps b steps = record { slots = b.slots; steps = Some steps; index = b.index }

abbrev pub with_index : Bound → IndexBinding → Bound
with_index b index = record { slots = b.slots; steps = b.steps; index = Some index }
