-- The limits decide what the slots carry, and name the first slot that carries least.
use Rattle.std.proofs.Common.{◌≡◌, ℕ, ◌+◌, ◌-◌, ◌*◌, ◌/◌, ◌<◌, ◌≤◌, ◌⊎◌, ◌↔◌, Some, None, Option, le-div_iff_mul-le, arith}
use Rattle.std.proofs.lemmas.Bool.Decides.{nat_tests}
use Rattle.render.specs.declared.limits.VertexLimits.{VertexLimits}
use Rattle.render.specs.declared.steps.VertexStep.{VertexStep}
use Rattle.render.specs.declared.steps.VertexStepMode.{VertexStepMode}
use Rattle.render.specs.declared.steps.VertexStepMode.TheVariants.{Vertex, Instance}
use Rattle.render.specs.Carries.{CarriesItems}
use Rattle.render.specs.Laws.{Greatest}
use Rattle.render.specs.Limits.{own_limit, lowered}

-- n is within a limit that may be missing
abbrev pub Within : ℕ → Option ℕ → Type 0
Within n None = Unit {0}
Within n (Some limit) = n ≤ limit

spans : (n size stride last : ℕ) → last ≤ size → 0 < stride → (n ≤ (size - last) / stride + 1) ↔ ((n ≡ 0) ⊎ ((n - 1) * stride + last ≤ size))
spans n size stride last fits pos = let up : n - 1 ≤ (size - last) / stride ↔ (n - 1) * stride ≤ size - last = le-div_iff_mul-le pos in grind arith

-- a slot's own limit is what it carries
pub own_law : (n : ℕ) (st : VertexStep) (size : ℕ) → Within n (own_limit st size) ↔ CarriesItems st size n
own_law n st size = let up = spans n size st.stride st.last_stride in grind (arith, nat_tests)

pub own_greatest : (st : VertexStep) (size n : ℕ) → own_limit st size ≡ Some n → Greatest st size n
own_greatest st size n e = let law = λ (k : ℕ). own_law k st size in grind arith

abbrev pub limit_in : VertexStepMode → VertexLimits → ℕ
limit_in Vertex l = l.vertex_limit
limit_in Instance l = l.instance_limit

abbrev pub slot_in : VertexStepMode → VertexLimits → ℕ
slot_in Vertex l = l.vertex_limit_slot
slot_in Instance l = l.instance_limit_slot

-- what taking up a slot's limit did to the limit of mode m
pub record Stays (l now : VertexLimits) (mode m : VertexStepMode) (own : Option ℕ) : Type 0 where
  pub limit_is : limit_in m now ≡ limit_in m l
  pub slot_is : slot_in m now ≡ slot_in m l
  pub within : mode ≡ m → (n : ℕ) → n ≤ limit_in m l → Within n own

pub record Falls (l now : VertexLimits) (slot : ℕ) (mode m : VertexStepMode) (own : Option ℕ) : Type 0 where
  pub mode_is : mode ≡ m
  pub own_is : own ≡ Some (limit_in m now)
  pub slot_is : slot_in m now ≡ slot
  pub less : limit_in m now < limit_in m l

abbrev Ways : VertexLimits → ℕ → VertexStepMode → VertexStepMode → Option ℕ → VertexLimits → Type 0
Ways l slot mode m own now = Stays l now mode m own ⊎ Falls l now slot mode m own

pub ways : (l : VertexLimits) (slot : ℕ) (mode m : VertexStepMode) (own : Option ℕ) → Ways l slot mode m own (lowered l slot mode own)
ways l slot mode m own = grind (arith, nat_tests)

pub low : (n : ℕ) (l now : VertexLimits) (slot : ℕ) (mode m : VertexStepMode) (own : Option ℕ) → Ways l slot mode m own now → (n ≤ limit_in m now) ↔ ((n ≤ limit_in m l) × (mode ≡ m → Within n own))
low n l now slot mode m own w = grind arith
