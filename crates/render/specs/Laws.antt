-- What the limits say of the bytes that are bound.
use Rattle.std.specs.Prelude.{◌≡◌, ℕ, ◌+◌, ◌-◌, ◌^◌, ◌<◌, ◌≤◌, Bool, true, ◌⊎◌, ◌↔◌, length, is_some, is_ok, IfOk, Some, None, Ok, Result}
use Rattle.command.specs.Family.{family_of}
use Rattle.command.specs.declared.args.DrawArgs.{DrawArgs}
use Rattle.command.specs.declared.family.DrawCommandFamily.{DrawCommandFamily}
use Rattle.command.specs.declared.family.DrawCommandFamily.TheVariants.{DrawIndexed}
use Rattle.command.specs.declared.refusal.Refusal.{Refusal}
use Rattle.render.specs.declared.bindings.BufferRange.{BufferRange}
use Rattle.render.specs.declared.direct.DrawLimits.{DrawLimits}
use Rattle.render.specs.declared.limits.VertexLimits.{VertexLimits}
use Rattle.render.specs.declared.steps.VertexStep.{VertexStep}
use Rattle.render.specs.declared.steps.VertexStepMode.{VertexStepMode}
use Rattle.render.specs.declared.steps.VertexStepMode.TheVariants.{Vertex, Instance}
use Rattle.render.specs.Bound.{Bound}
use Rattle.render.specs.Carries.{CarriesItems, Reads, EachCarries, AllBound, Carries, step_at, range_at}
use Rattle.render.specs.Limits.{nothing}
use Rattle.render.specs.Ready.{ready}
use Rattle.render.specs.Sizes.{size_of}

-- what has to be bound before a draw of a family can be asked for, by its kind
pub record Askable (b : Bound) (kind : ℕ) (family : DrawCommandFamily) : Type 0 where
  pub pipeline : is_some b.steps ≡ true
  pub buffers : AllBound b
  pub index : family ≡ DrawIndexed → is_some b.index ≡ true
  pub family_is : family_of kind ≡ Some family

-- a draw is ready exactly where all of that is so
abbrev pub ReadyExactly : Bound → ℕ → Result DrawCommandFamily Refusal → Type 0
ReadyExactly b kind r = (family : DrawCommandFamily) → (r ≡ Ok family) ↔ Askable b kind family

-- the greatest number of items that are within this many bytes
abbrev pub Greatest : VertexStep → ℕ → ℕ → Type 0
Greatest st size n = CarriesItems st size n × ((k : ℕ) → CarriesItems st size k → k ≤ n)

-- a slot has just as many items as the limit says, and each slot before it has more
pub record FirstLeast (b : Bound) (m : VertexStepMode) (limit slot : ℕ) : Type 0 where
  pub step : VertexStep
  pub range : BufferRange
  pub reads : Reads b m slot step range
  pub own : Greatest step (size_of range) limit
  pub earlier : (k : ℕ) (st : VertexStep) (r : BufferRange) → k < slot → Reads b m k st r → CarriesItems st (size_of r) (limit + 1)

-- each slot has as many items as the limit says, and the named slot is the first with no more; without such a slot the limit is the largest number
abbrev pub LimitAndSlot : Bound → VertexStepMode → ℕ → ℕ → Type 0
LimitAndSlot b m limit slot = EachCarries b m limit × (((limit ≡ 2 ^ 64 - 1) × (slot ≡ 0)) ⊎ FirstLeast b m limit slot)

-- a step without a range makes all four numbers 0, and where no such step is each limit is right
pub record LimitsLaw (b : Bound) (l : VertexLimits) : Type 0 where
  pub missing : (k : ℕ) (st : VertexStep) → k < length b.slots → step_at b k ≡ Some st → range_at b k ≡ None → l ≡ nothing
  pub vertex : is_some b.steps ≡ true → AllBound b → LimitAndSlot b Vertex l.vertex_limit l.vertex_limit_slot
  pub instance : is_some b.steps ≡ true → AllBound b → LimitAndSlot b Instance l.instance_limit l.instance_limit_slot

-- a draw is within its limits exactly where what is bound carries it
abbrev pub LimitsDecide : Bound → DrawLimits → Type 0
LimitsDecide b d = (count instances from from_instance : ℕ) → count < 2 ^ 32 → instances < 2 ^ 32 → from < 2 ^ 32 → from_instance < 2 ^ 32 → ((from + count ≤ d.vertex_or_index_limit) × (from_instance + instances ≤ d.instance_limit)) ↔ Carries b d.family count instances from from_instance

abbrev pub LimitsAnswered : Bound → Result DrawLimits Refusal → Type 0
LimitsAnswered b r = IfOk r (LimitsDecide b)

-- a direct draw is accepted exactly where it can be asked for and what is bound carries it
abbrev pub AcceptedExactly : Bound → ℕ → DrawArgs → Result Bool Refusal → Type 0
AcceptedExactly b kind a r = (is_ok r ≡ true) ↔ ((family : DrawCommandFamily) × (ready b kind ≡ Ok family) × Carries b family a.count a.instances a.first a.first_instance)
