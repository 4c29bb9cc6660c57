-- What a draw asks of the bytes that it reads, after WebGPU and over whole numbers.
use Rattle.std.specs.Prelude.{◌≡◌, ℕ, ◌+◌, ◌-◌, ◌*◌, ◌≤◌, true, ◌⊎◌, is_some, Some, None, Option, slice_index_or}
use Rattle.command.specs.declared.family.DrawCommandFamily.{DrawCommandFamily}
use Rattle.command.specs.declared.family.DrawCommandFamily.TheVariants.{Draw, DrawIndexed}
use Rattle.render.specs.declared.bindings.BufferRange.{BufferRange}
use Rattle.render.specs.declared.bindings.IndexBinding.{IndexBinding}
use Rattle.render.specs.declared.steps.VertexStep.{VertexStep}
use Rattle.render.specs.declared.steps.VertexStepMode.{VertexStepMode}
use Rattle.render.specs.declared.steps.VertexStepMode.TheVariants.{Vertex, Instance}
use Rattle.render.specs.Bound.{Bound, empty_slot}
use Rattle.render.specs.Sizes.{size_of, index_bytes}

-- n items of a step are within this many bytes: a stride for each but the last, which has bytes of its own
abbrev pub CarriesItems : VertexStep → ℕ → ℕ → Type 0
CarriesItems st size n = (n ≡ 0) ⊎ ((n - 1) * st.stride + st.last_stride ≤ size)

abbrev pub step_at : Bound → ℕ → Option VertexStep
step_at b k = elim b.steps [ None ↦ None | Some steps ↦ slice_index_or steps k None ]

abbrev pub range_at : Bound → ℕ → Option BufferRange
range_at b k = (slice_index_or b.slots k empty_slot).range

-- each step that is present reads a slot that has a range
abbrev pub AllBound : Bound → Type 0
AllBound b = (k : ℕ) (st : VertexStep) → step_at b k ≡ Some st → is_some (range_at b k) ≡ true

-- a step of mode m reads slot k, which has range r
pub record Reads (b : Bound) (m : VertexStepMode) (k : ℕ) (st : VertexStep) (r : BufferRange) : Type 0 where
  pub step_is : step_at b k ≡ Some st
  pub mode_is : st.mode ≡ m
  pub range_is : range_at b k ≡ Some r

-- each slot that a step of mode m reads has n items
abbrev pub EachCarries : Bound → VertexStepMode → ℕ → Type 0
EachCarries b m n = (k : ℕ) (st : VertexStep) (r : BufferRange) → Reads b m k st r → CarriesItems st (size_of r) n

-- n indices are within the index binding
pub record IndicesCarried (b : Bound) (n : ℕ) : Type 0 where
  pub index : IndexBinding
  pub index_is : b.index ≡ Some index
  pub within : n * index_bytes index.format ≤ size_of index.range

-- a draw's vertices and instances, or its indices and instances, are bound; an indexed draw names no vertices
abbrev pub Carries : Bound → DrawCommandFamily → (count instances from from_instance : ℕ) → Type 0
Carries b Draw count instances from from_instance = EachCarries b Vertex (from + count) × EachCarries b Instance (from_instance + instances)
Carries b DrawIndexed count instances from from_instance = IndicesCarried b (from + count) × EachCarries b Instance (from_instance + instances)
