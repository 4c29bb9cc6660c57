-- The laws of the limits and of a direct draw.
use Rattle.std.proofs.Common.{◌≡◌, ℕ, zero, suc, ◌+◌, ◌-◌, ◌*◌, ◌/◌, ◌^◌, ◌<◌, ◌≤◌, Bool, true, cond, not, ◌&&◌, eqb, ltb, ◌↔◌, List, [], ◌∷◌, length, get_or, is_some, is_ok, Some, None, Ok, Err, Option, Result, sym, refl, ◌∙◌, subst, inl, inr, ⊎_elim, le-div_iff_mul-le, zero-add, arith}
use Rattle.std.proofs.lemmas.Bool.{and_parts, and_from}
use Rattle.std.proofs.lemmas.Bool.Decides.{nat_tests}
use Rattle.command.specs.Family.{family_of}
use Rattle.command.specs.declared.args.DrawArgs.{DrawArgs}
use Rattle.command.specs.declared.family.DrawCommandFamily.{DrawCommandFamily}
use Rattle.command.specs.declared.family.DrawCommandFamily.TheVariants.{Draw, DrawIndexed}
use Rattle.command.specs.declared.refusal.Refusal.{Refusal}
use Rattle.command.specs.declared.refusal.Refusal.TheVariants.{MissingVertexBuffer, MissingIndexBuffer, UnknownKind}
use Rattle.render.specs.declared.bindings.BufferRange.{BufferRange}
use Rattle.render.specs.declared.bindings.IndexBinding.{IndexBinding}
use Rattle.render.specs.declared.bindings.IndexFormat.{IndexFormat}
use Rattle.render.specs.declared.bindings.IndexFormat.TheVariants.{Uint16, Uint32}
use Rattle.render.specs.declared.bindings.VertexSlot.{VertexSlot}
use Rattle.render.specs.declared.direct.DrawLimits.{DrawLimits}
use Rattle.render.specs.declared.limits.VertexLimits.{VertexLimits}
use Rattle.render.specs.declared.steps.VertexStep.{VertexStep}
use Rattle.render.specs.declared.steps.VertexStepMode.{VertexStepMode}
use Rattle.render.specs.declared.steps.VertexStepMode.TheVariants.{Vertex, Instance}
use Rattle.render.specs.Bound.{Bound, empty_slot}
use Rattle.render.specs.Carries.{EachCarries, IndicesCarried, Carries}
use Rattle.render.specs.Draws.{draw_limits, limits_answer, within_answer, draw_answer}
use Rattle.render.specs.Laws.{Askable, ReadyExactly, FirstLeast, LimitAndSlot, LimitsLaw, LimitsDecide, LimitsAnswered, AcceptedExactly}
use Rattle.render.specs.Limits.{own_limit, lowered, limits_from, limits_of, index_limit_of, unlimited, nothing}
use Rattle.command.specs.Checks.{and_then}
use Rattle.render.specs.Ready.{covered, family_named, ready}
use Rattle.render.specs.Sizes.{size_of, index_bytes}
use Rattle.render.proofs.Carrying.{limit_in, slot_in}
use Rattle.render.proofs.Least.{pass, slot_with, decided, Lowest, set_by}

no_limit : (m : VertexStepMode) → limit_in m unlimited ≡ 2 ^ 64 - 1
no_limit Vertex = refl
no_limit Instance = refl

no_slot : (m : VertexStepMode) → slot_in m unlimited ≡ 0
no_slot Vertex = refl
no_slot Instance = refl

-- a step without a range
abbrev Missing : List VertexSlot → List (Option VertexStep) → Type 0
Missing slots steps = (i : ℕ) (l : VertexLimits) → limits_from slots steps i l ≡ nothing

missing_later : (o : Option BufferRange) (x : Option VertexStep) (slots : List VertexSlot) (steps : List (Option VertexStep)) → Missing slots steps → Missing (slot_with o ∷ slots) (x ∷ steps)
unfolding limits_from
missing_later o None slots steps ih = λ i l. ih (i + 1) l
missing_later None (Some st) slots steps ih = λ i l. refl
missing_later (Some range) (Some st) slots steps ih = λ i l. ih (i + 1) (lowered l i st.mode (own_limit st (size_of range)))

missing_at : (slots : List VertexSlot) (steps : List (Option VertexStep)) (k : ℕ) (st : VertexStep) → k < length slots → get_or steps k None ≡ Some st → (get_or slots k empty_slot).range ≡ None → Missing slots steps
unfolding limits_from
missing_at [] steps k st lt e z = absurd (omega arith)
missing_at (s ∷ slots) [] k st lt e z = cc
missing_at (s ∷ slots) (x ∷ steps) zero st lt e z = λ i l. rw (e, z)
missing_at (s ∷ slots) (x ∷ steps) (suc k) st lt e z = missing_later s.range x slots steps (missing_at slots steps k st (omega arith) e z)

module _ (slots : List VertexSlot) (steps : List (Option VertexStep)) (index : Option IndexBinding) (c : covered slots steps ≡ true) where
  abbrev result : VertexLimits
  result = limits_from slots steps 0 unlimited

  first_least : (m : VertexStepMode) → Lowest index m slots steps 0 unlimited result → FirstLeast (pass slots steps index) m (limit_in m result) (slot_in m result)
  first_least m w = subst (λ (s : ℕ). FirstLeast (pass slots steps index) m (limit_in m result) s) (sym (w.slot_is ∙ zero-add w.k))
      (record { step = w.step; range = w.range; reads = w.reads; own = w.own; earlier = w.earlier })

  limit_and_slot : (m : VertexStepMode) → LimitAndSlot (pass slots steps index) m (limit_in m result) (slot_in m result)
  limit_and_slot m = (
    ((decided index m (limit_in m result) slots steps 0 unlimited c).0 (omega arith)).1,
    ⊎_elim (λ same. inl (same.limit_is ∙ no_limit m, same.slot_is ∙ no_slot m)) (λ w. inr (first_least m w)) (set_by index m slots steps 0 unlimited c),
  )

  -- numbers of 33 bits are within the limit of mode m exactly where the slots have as many items
  each_decided : (m : VertexStepMode) (n : ℕ) → n < 2 ^ 33 → (n ≤ limit_in m result) ↔ EachCarries (pass slots steps index) m n
  each_decided m n small =
      let d = decided index m n slots steps 0 unlimited c in
      (λ h. (d.0 h).1, λ each. d.1 (omega (arith, no_limit m), each))

-- the test that each step's slot has a range
all_from : (slots : List VertexSlot) (steps : List (Option VertexStep)) → covered slots steps ≡ true → (k : ℕ) (st : VertexStep) → get_or steps k None ≡ Some st → is_some (get_or slots k empty_slot).range ≡ true
unfolding covered
all_from slots [] c k st e = cc
all_from [] (None ∷ steps) c zero st e = cc
all_from [] (None ∷ steps) c (suc k) st e = all_from [] steps c k st e
all_from [] (Some t ∷ steps) c k st e = c
all_from (s ∷ slots) (None ∷ steps) c zero st e = cc
all_from (s ∷ slots) (None ∷ steps) c (suc k) st e = all_from slots steps c k st e
all_from (s ∷ slots) (Some t ∷ steps) c zero st e = (and_parts _ _ c).0
all_from (s ∷ slots) (Some t ∷ steps) c (suc k) st e = all_from slots steps (and_parts _ _ c).1 k st e

covered_from : (slots : List VertexSlot) (steps : List (Option VertexStep)) → ((k : ℕ) (st : VertexStep) → get_or steps k None ≡ Some st → is_some (get_or slots k empty_slot).range ≡ true) → covered slots steps ≡ true
unfolding covered
covered_from slots [] h = refl
covered_from [] (None ∷ steps) h = covered_from [] steps (λ k. h (suc k))
covered_from [] (Some t ∷ steps) h = h 0 t refl
covered_from (s ∷ slots) (None ∷ steps) h = covered_from slots steps (λ k. h (suc k))
covered_from (s ∷ slots) (Some t ∷ steps) h = and_from _ _ (h 0 t refl) (covered_from slots steps (λ k. h (suc k)))

limits_law_at : (slots : List VertexSlot) (o : Option (List (Option VertexStep))) (index : Option IndexBinding) → LimitsLaw (record { slots = slots; steps = o; index = index }) (limits_of (record { slots = slots; steps = o; index = index }))
limits_law_at slots None index = record {
  missing = λ k st lt e z. cc;
  vertex = λ e c. cc;
  instance = λ e c. cc;
}
limits_law_at slots (Some steps) index = record {
  missing = λ k st lt e z. missing_at slots steps k st lt e z 0 unlimited;
  vertex = λ e all. limit_and_slot slots steps index (covered_from slots steps all) Vertex;
  instance = λ e all. limit_and_slot slots steps index (covered_from slots steps all) Instance;
}

pub limits_law : (b : Bound) (l : VertexLimits) → l ≡ limits_of b → LimitsLaw b l
limits_law b l e = rw e (limits_law_at b.slots b.steps b.index)

-- the bytes of an index are not 0
some_bytes : (f : IndexFormat) → 0 < index_bytes f
some_bytes Uint16 = omega arith
some_bytes Uint32 = omega arith

-- n indices are within the limit exactly where they are within the bytes
indices_decided : (b : Bound) (n : ℕ) (ix : IndexBinding) → b.index ≡ Some ix → (n ≤ size_of ix.range / index_bytes ix.format) ↔ IndicesCarried b n
indices_decided b n ix e =
    let up : n ≤ size_of ix.range / index_bytes ix.format ↔ n * index_bytes ix.format ≤ size_of ix.range = le-div_iff_mul-le (some_bytes ix.format) in (
      λ h. record { index = ix; index_is = e; within = up.0 h },
      λ r. up.1 (let p : IndexBinding → Type 0 = λ q. n * index_bytes q.format ≤ size_of q.range in let same : r.index ≡ ix = cc (r.index_is, e) in subst p same r.within),
    )

decides_at : (slots : List VertexSlot) (steps : List (Option VertexStep)) (index : Option IndexBinding) (family : DrawCommandFamily) → covered slots steps ≡ true → (family ≡ DrawIndexed → is_some index ≡ true) → LimitsDecide (pass slots steps index) (draw_limits (pass slots steps index) family)
decides_at slots steps index Draw c has = λ count instances from from_instance s1 s2 s3 s4.
    let v = each_decided slots steps index c Vertex (from + count) (omega arith) in
    let i = each_decided slots steps index c Instance (from_instance + instances) (omega arith) in
    (λ p. (v.0 p.0, i.0 p.1), λ p. (v.1 p.0, i.1 p.1))
decides_at slots steps None DrawIndexed c has = let h = has refl in cc
decides_at slots steps (Some ix) DrawIndexed c has = λ count instances from from_instance s1 s2 s3 s4.
    let x = indices_decided (pass slots steps (Some ix)) (from + count) ix refl in
    let i = each_decided slots steps (Some ix) c Instance (from_instance + instances) (omega arith) in
    (λ p. (x.0 p.0, i.0 p.1), λ p. (x.1 p.0, i.1 p.1))

-- the checks after the steps, and what they judge
abbrev Judged : Bool → Option IndexBinding → ℕ → Result DrawCommandFamily Refusal
Judged bound index kind = cond (not bound) (Err MissingVertexBuffer) (cond (eqb kind 1 && not (is_some index)) (Err MissingIndexBuffer) (cond (not (ltb kind 2)) (Err UnknownKind) (Ok (family_named kind))))

passed : (bound : Bool) (index : Option IndexBinding) (kind : ℕ) (family : DrawCommandFamily) → Judged bound index kind ≡ Ok family → (bound ≡ true) × (family ≡ DrawIndexed → is_some index ≡ true) × (family_of kind ≡ Some family)
passed bound index kind family e = (grind (arith, nat_tests), grind (arith, nat_tests), grind (arith, nat_tests))

passes : (bound : Bool) (index : Option IndexBinding) (kind : ℕ) (family : DrawCommandFamily) → bound ≡ true → (family ≡ DrawIndexed → is_some index ≡ true) → family_of kind ≡ Some family → Judged bound index kind ≡ Ok family
passes bound index kind family b h k = grind (arith, nat_tests)

askable_decides : (slots : List VertexSlot) (o : Option (List (Option VertexStep))) (index : Option IndexBinding) (kind : ℕ) (family : DrawCommandFamily) → Askable (record { slots = slots; steps = o; index = index }) kind family → LimitsDecide (record { slots = slots; steps = o; index = index }) (draw_limits (record { slots = slots; steps = o; index = index }) family)
askable_decides slots None index kind family a = let p = a.pipeline in cc
askable_decides slots (Some steps) index kind family a = decides_at slots steps index family (covered_from slots steps a.buffers) a.index

ready_at : (slots : List VertexSlot) (o : Option (List (Option VertexStep))) (index : Option IndexBinding) (kind : ℕ) → ReadyExactly (record { slots = slots; steps = o; index = index }) kind (ready (record { slots = slots; steps = o; index = index }) kind)
ready_at slots None index kind family = (λ e. cc, λ a. let p = a.pipeline in cc)
ready_at slots (Some steps) index kind family = (
  λ e. let p = passed _ index kind family e in record { pipeline = refl; buffers = all_from slots steps p.0; index = p.1; family_is = p.2 },
  λ a. passes _ index kind family (covered_from slots steps a.buffers) a.index a.family_is,
)

pub ready_exactly : (b : Bound) (kind : ℕ) (r : Result DrawCommandFamily Refusal) → r ≡ ready b kind → ReadyExactly b kind r
ready_exactly b kind r e = rw e (ready_at b.slots b.steps b.index kind)

decides : (b : Bound) (kind : ℕ) (family : DrawCommandFamily) → ready b kind ≡ Ok family → LimitsDecide b (draw_limits b family)
decides b kind family e = askable_decides b.slots b.steps b.index kind family ((ready_at b.slots b.steps b.index kind family).0 e)

answered : (b : Bound) (r : Result DrawCommandFamily Refusal) → ((family : DrawCommandFamily) → r ≡ Ok family → LimitsDecide b (draw_limits b family)) → LimitsAnswered b (and_then r (λ family. Ok (draw_limits b family)))
answered b (Ok family) h = h family refl
answered b (Err e) h = tt

pub limits_answered : (b : Bound) (kind : ℕ) (r : Result DrawLimits Refusal) → r ≡ limits_answer b kind → LimitsAnswered b r
limits_answered b kind r e = rw e (answered b (ready b kind) (decides b kind))

pub limits_decide : (b : Bound) (kind : ℕ) (d : DrawLimits) → Ok d ≡ limits_answer b kind → LimitsDecide b d
limits_decide b kind d e = limits_answered b kind (Ok d) e

-- a draw that is not refused is within its limits
within_limits : (b : Bound) (family : DrawCommandFamily) (a : DrawArgs) → (is_ok (within_answer (limits_of b) (index_limit_of b) family a) ≡ true) ↔ ((a.first + a.count ≤ (draw_limits b family).vertex_or_index_limit) × (a.first_instance + a.instances ≤ (draw_limits b family).instance_limit))
within_limits b family a = grind (arith, nat_tests)

accepted : {X : Type 0} (r : Result DrawCommandFamily Refusal) (within : DrawCommandFamily → Result X Refusal) (C : DrawCommandFamily → Type 0) → ((family : DrawCommandFamily) → r ≡ Ok family → (is_ok (within family) ≡ true) ↔ C family) → (is_ok (and_then r within) ≡ true) ↔ ((family : DrawCommandFamily) × (r ≡ Ok family) × C family)
accepted (Ok f) within C d = (
  λ h. (f, refl, (d f refl).0 h),
  λ p. (d f refl).1 (let e : p.0 ≡ f = cc p.1 in subst C e p.2),
)
accepted (Err e) within C d = (λ h. cc, λ p. let q = p.1 in cc)

-- the arguments of a draw are numbers of 32 bits
module _ (a : DrawArgs) (s1 : a.count < 2 ^ 32) (s2 : a.instances < 2 ^ 32) (s3 : a.first < 2 ^ 32) (s4 : a.first_instance < 2 ^ 32) where
  judged : (b : Bound) (kind : ℕ) → AcceptedExactly b kind a (draw_answer b kind a)
  judged b kind =
      accepted (ready b kind) (λ family. within_answer (limits_of b) (index_limit_of b) family a) (λ family. Carries b family a.count a.instances a.first a.first_instance)
      (λ family e. let w = within_limits b family a in let d = decides b kind family e a.count a.instances a.first a.first_instance s1 s2 s3 s4 in (λ h. d.0 (w.0 h), λ q. w.1 (d.1 q)))

  pub accepted_exactly : (b : Bound) (kind : ℕ) (r : Result Bool Refusal) → r ≡ draw_answer b kind a → AcceptedExactly b kind a r
  accepted_exactly b kind r e = rw e (judged b kind)
