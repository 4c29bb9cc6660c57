-- The limits of slots and steps, one slot on.
use Rattle.std.proofs.Common.{◌≡◌, ℕ, ◌+◌, ◌^◌, ◌<◌, Bool, true, false, cond, nat_lt, ◌⊎◌, List, [], ◌∷◌, Some, None, Option, refl, ap, inl, inr}
use Rattle.render.specs.declared.bindings.BufferRange.{BufferRange}
use Rattle.render.specs.declared.bindings.VertexSlot.{VertexSlot}
use Rattle.render.specs.declared.limits.Least.{Least}
use Rattle.render.specs.declared.limits.VertexLimits.{VertexLimits}
use Rattle.render.specs.declared.steps.VertexStep.{VertexStep}
use Rattle.render.specs.declared.steps.VertexStepMode.TheVariants.{Vertex, Instance}
use Rattle.render.specs.Limits.{four_limits, least, limits_from, nothing, own_limit}
use Rattle.render.specs.Sizes.{size_of}

-- the limits of vertices and of instances
abbrev pub both : Least → Least → VertexLimits
both v i = four_limits v.limit v.slot i.limit i.slot

pub from_end : (slots : List VertexSlot) (steps : List (Option VertexStep)) (i : ℕ) (l : VertexLimits) → (slots ≡ []) ⊎ (steps ≡ []) → limits_from slots steps i l ≡ l
unfolding limits_from
from_end slots [] i l h = refl
from_end [] (step ∷ steps) i l h = refl
from_end (s ∷ slots) (step ∷ steps) i l (inl e) = cc
from_end (s ∷ slots) (step ∷ steps) i l (inr e) = cc

lower_vertex : (b : Bool) (v w i : Least) → cond b (both w i) (both v i) ≡ both (cond b w v) i
lower_vertex true v w i = refl
lower_vertex false v w i = refl

lower_instance : (b : Bool) (v i w : Least) → cond b (both v w) (both v i) ≡ both v (cond b w i)
lower_instance true v i w = refl
lower_instance false v i w = refl

-- one turn of a loop over slots and steps: the pair at its head has number k
module _ {slots rest : List VertexSlot} {steps more : List (Option VertexStep)} {s : VertexSlot} {step : Option VertexStep} {k at next : ℕ} {w : VertexLimits} (v i : Least) (turn : ((slots ≡ s ∷ rest) × (steps ≡ step ∷ more)) × (k ≡ at) × (next ≡ at + 1) × (k + 1 < 2 ^ 64)) (so : limits_from slots steps at (both v i) ≡ w) where
  -- what the head makes of the limits
  gone : (l : VertexLimits) → limits_from (s ∷ rest) (step ∷ more) k (both v i) ≡ limits_from rest more (k + 1) l → limits_from rest more next l ≡ w
  gone l e = cc (turn.0.0, turn.0.1, turn.1, turn.2)

  pub goes_none : step ≡ None → limits_from rest more next (both v i) ≡ w
  unfolding limits_from
  goes_none e = gone (both v i) (rw e)

  module _ {st : VertexStep} (e : step ≡ Some st) where
    pub ends_missing : s.range ≡ None → nothing ≡ w
    unfolding limits_from
    ends_missing z = let n : limits_from (s ∷ rest) (step ∷ more) k (both v i) ≡ nothing = rw (e, z) in cc (turn.0.0, turn.0.1, turn.1)

    module _ {range : BufferRange} (z : s.range ≡ Some range) {size : ℕ} (fits : size ≡ size_of range) {own : Option ℕ} (is_own : own ≡ own_limit st size) where
      pub goes_repeated : own ≡ None → limits_from rest more next (both v i) ≡ w
      unfolding limits_from
      goes_repeated o = gone (both v i) (rw (e, z, ← fits, ← is_own, o))

      module _ {n : ℕ} (o : own ≡ Some n) where
        pub goes_vertex : st.mode ≡ Vertex → limits_from rest more next (both (cond (nat_lt n v.limit) (least n k) v) i) ≡ w
        unfolding limits_from
        goes_vertex m = gone _ (rw (e, z, ← fits, ← is_own, o, m) (ap (limits_from rest more (k + 1)) (lower_vertex _ v (least n k) i)))

        pub goes_instance : st.mode ≡ Instance → limits_from rest more next (both v (cond (nat_lt n i.limit) (least n k) i)) ≡ w
        unfolding limits_from
        goes_instance m = gone _ (rw (e, z, ← fits, ← is_own, o, m) (ap (limits_from rest more (k + 1)) (lower_instance _ v i (least n k))))
