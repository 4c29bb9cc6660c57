-- The limits of all slots, by induction over slots and steps.
use Rattle.std.proofs.Common.{◌≡◌, ℕ, zero, suc, ◌+◌, ◌<◌, ◌≤◌, true, ◌⊎◌, ◌↔◌, List, [], ◌∷◌, Some, None, Option, refl, ◌∙◌, inl, inr, arith}
use Rattle.render.specs.declared.bindings.BufferRange.{BufferRange}
use Rattle.render.specs.declared.bindings.IndexBinding.{IndexBinding}
use Rattle.render.specs.declared.bindings.VertexSlot.{VertexSlot}
use Rattle.render.specs.declared.limits.VertexLimits.{VertexLimits}
use Rattle.render.specs.declared.steps.VertexStep.{VertexStep}
use Rattle.render.specs.declared.steps.VertexStepMode.{VertexStepMode}
use Rattle.render.specs.Bound.{Bound}
use Rattle.render.specs.Carries.{CarriesItems, Reads, EachCarries}
use Rattle.render.specs.Laws.{Greatest}
use Rattle.render.specs.Limits.{own_limit, lowered, limits_from}
use Rattle.render.specs.Ready.{covered}
use Rattle.render.specs.Sizes.{size_of}
use Rattle.render.proofs.Carrying.{own_law, own_greatest, limit_in, slot_in, Stays, Falls, ways, low}

abbrev pub pass : List VertexSlot → List (Option VertexStep) → Option IndexBinding → Bound
pass slots steps index = record { slots = slots; steps = Some steps; index = index }

abbrev pub slot_with : Option BufferRange → VertexSlot
slot_with o = record { range = o }

module _ (index : Option IndexBinding) (m : VertexStepMode) (n : ℕ) where
  each_end : (slots : List VertexSlot) → EachCarries (pass slots [] index) m n
  each_end slots = λ k st r reads. let e = reads.step_is in cc

  each_bare : (steps : List (Option VertexStep)) → EachCarries (pass [] steps index) m n
  each_bare steps = λ k st r reads. let e = reads.range_is in cc

  each_rest : (s : VertexSlot) (x : Option VertexStep) (slots : List VertexSlot) (steps : List (Option VertexStep)) → EachCarries (pass (s ∷ slots) (x ∷ steps) index) m n → EachCarries (pass slots steps index) m n
  each_rest s x slots steps all = λ k st r reads. all (suc k) st r (record { step_is = reads.step_is; mode_is = reads.mode_is; range_is = reads.range_is })

  each_more : (s : VertexSlot) (x : Option VertexStep) (slots : List VertexSlot) (steps : List (Option VertexStep)) → ((st : VertexStep) (r : BufferRange) → x ≡ Some st → st.mode ≡ m → s.range ≡ Some r → CarriesItems st (size_of r) n) → EachCarries (pass slots steps index) m n
      → (k : ℕ) (st : VertexStep) (r : BufferRange) → Reads (pass (s ∷ slots) (x ∷ steps) index) m k st r → CarriesItems st (size_of r) n
  each_more s x slots steps here all zero st r reads = here st r reads.step_is reads.mode_is reads.range_is
  each_more s x slots steps here all (suc k) st r reads = all k st r (record { step_is = reads.step_is; mode_is = reads.mode_is; range_is = reads.range_is })

  -- the head's own part, from its step and its range
  here_some : (st : VertexStep) (range : BufferRange) → (st.mode ≡ m → CarriesItems st (size_of range) n) → (t : VertexStep) (r : BufferRange) → Some st ≡ Some t → t.mode ≡ m → Some range ≡ Some r → CarriesItems t (size_of r) n
  here_some st range c t r e by y = grind arith

-- n is within the limit of mode m exactly where each slot that is read in that mode has n items
abbrev Decided : Option IndexBinding → VertexStepMode → ℕ → List VertexSlot → List (Option VertexStep) → Type 0
Decided index m n slots steps = (i : ℕ) (l : VertexLimits) → covered slots steps ≡ true → (n ≤ limit_in m (limits_from slots steps i l)) ↔ ((n ≤ limit_in m l) × EachCarries (pass slots steps index) m n)

module _ (index : Option IndexBinding) (m : VertexStepMode) (n : ℕ) where
  decided_some : (o : Option BufferRange) (st : VertexStep) (slots : List VertexSlot) (steps : List (Option VertexStep)) → Decided index m n slots steps → Decided index m n (slot_with o ∷ slots) (Some st ∷ steps)
  unfolding covered limits_from
  decided_some None st slots steps ih = λ i l c. cc
  decided_some (Some range) st slots steps ih = λ i l c.
      let now = lowered l i st.mode (own_limit st (size_of range)) in
      let rest = ih (i + 1) now c in
      let one = low n l now i st.mode m (own_limit st (size_of range)) (ways l i st.mode m (own_limit st (size_of range))) in
      let own = own_law n st (size_of range) in (
        λ h. ((one.0 (rest.0 h).0).0, each_more index m n (slot_with (Some range)) (Some st) slots steps (here_some index m n st range (λ e. own.0 ((one.0 (rest.0 h).0).1 e))) (rest.0 h).1),
        λ p. rest.1 (one.1 (p.0, λ e. own.1 (p.1 0 st range (record { step_is = refl; mode_is = e; range_is = refl }))), each_rest index m n (slot_with (Some range)) (Some st) slots steps p.1),
      )

  pub decided : (slots : List VertexSlot) (steps : List (Option VertexStep)) → Decided index m n slots steps
  unfolding covered limits_from
  decided slots [] = λ i l c. (λ h. (h, each_end index m n slots), λ p. p.0)
  decided [] (None ∷ steps) = λ i l c. (λ h. (h, each_bare index m n (None ∷ steps)), λ p. p.0)
  decided [] (Some st ∷ steps) = λ i l c. (λ h. (h, each_bare index m n (Some st ∷ steps)), λ p. p.0)
  decided (s ∷ slots) (None ∷ steps) = λ i l c.
      let rest = decided slots steps (i + 1) l c in (
        λ h. ((rest.0 h).0, each_more index m n s None slots steps (λ st r e by y. cc) (rest.0 h).1),
        λ p. rest.1 (p.0, each_rest index m n s None slots steps p.1),
      )
  decided (s ∷ slots) (Some st ∷ steps) = decided_some s.range st slots steps (decided slots steps)

-- which slot set the limit of mode m: the one at place k of these, from slot i on
pub record Lowest (index : Option IndexBinding) (m : VertexStepMode) (slots : List VertexSlot) (steps : List (Option VertexStep)) (i : ℕ) (l now : VertexLimits) : Type 0 where
  pub k : ℕ
  pub slot_is : slot_in m now ≡ i + k
  pub less : limit_in m now < limit_in m l
  pub step : VertexStep
  pub range : BufferRange
  pub reads : Reads (pass slots steps index) m k step range
  pub own : Greatest step (size_of range) (limit_in m now)
  pub earlier : (j : ℕ) (st : VertexStep) (r : BufferRange) → j < k → Reads (pass slots steps index) m j st r → CarriesItems st (size_of r) (limit_in m now + 1)

-- or none of these did
pub record Same (m : VertexStepMode) (l now : VertexLimits) : Type 0 where
  pub limit_is : limit_in m now ≡ limit_in m l
  pub slot_is : slot_in m now ≡ slot_in m l

abbrev Set : Option IndexBinding → VertexStepMode → List VertexSlot → List (Option VertexStep) → Type 0
Set index m slots steps = (i : ℕ) (l : VertexLimits) → covered slots steps ≡ true → Same m l (limits_from slots steps i l) ⊎ Lowest index m slots steps i l (limits_from slots steps i l)

module _ (index : Option IndexBinding) (m : VertexStepMode) where
  later : (s : VertexSlot) (x : Option VertexStep) (slots : List VertexSlot) (steps : List (Option VertexStep)) (i : ℕ) (l was now : VertexLimits) → limit_in m was ≤ limit_in m l
      → ((st : VertexStep) (r : BufferRange) → x ≡ Some st → st.mode ≡ m → s.range ≡ Some r → CarriesItems st (size_of r) (limit_in m now + 1))
      → Lowest index m slots steps (i + 1) was now → Lowest index m (s ∷ slots) (x ∷ steps) i l now
  later s x slots steps i l was now le here w = record {
    k = suc w.k;
    slot_is = w.slot_is ∙ (let e : i + 1 + w.k ≡ i + suc w.k = omega arith in e);
    less = (let lt = w.less in omega arith);
    step = w.step;
    range = w.range;
    reads = record { step_is = w.reads.step_is; mode_is = w.reads.mode_is; range_is = w.reads.range_is };
    own = w.own;
    earlier = before;
  }
    where
      before : (j : ℕ) (st : VertexStep) (r : BufferRange) → j < suc w.k → Reads (pass (s ∷ slots) (x ∷ steps) index) m j st r → CarriesItems st (size_of r) (limit_in m now + 1)
      before zero st r lt reads = here st r reads.step_is reads.mode_is reads.range_is
      before (suc j) st r lt reads = w.earlier j st r (omega arith) (record { step_is = reads.step_is; mode_is = reads.mode_is; range_is = reads.range_is })

  first_here : (st : VertexStep) (range : BufferRange) (slots : List VertexSlot) (steps : List (Option VertexStep)) (i : ℕ) (l was now : VertexLimits) → Falls l was i st.mode m (own_limit st (size_of range)) → Same m was now → Lowest index m (slot_with (Some range) ∷ slots) (Some st ∷ steps) i l now
  first_here st range slots steps i l was now f same = record {
    k = 0;
    slot_is = grind arith;
    less = grind arith;
    step = st;
    range = range;
    reads = record { step_is = refl; mode_is = f.mode_is; range_is = refl };
    own = own_greatest st (size_of range) (limit_in m now) (grind arith);
    earlier = λ j t r lt reads. absurd (omega arith);
  }

  not_above : (l was : VertexLimits) (slot : ℕ) (mode : VertexStepMode) (own : Option ℕ) → Stays l was mode m own ⊎ Falls l was slot mode m own → limit_in m was ≤ limit_in m l
  not_above l was slot mode own w = grind arith

  joined : (st : VertexStep) (range : BufferRange) (slots : List VertexSlot) (steps : List (Option VertexStep)) (i : ℕ) (l was now : VertexLimits) → Stays l was st.mode m (own_limit st (size_of range)) ⊎ Falls l was i st.mode m (own_limit st (size_of range)) → Same m was now ⊎ Lowest index m slots steps (i + 1) was now → Same m l now ⊎ Lowest index m (slot_with (Some range) ∷ slots) (Some st ∷ steps) i l now
  joined st range slots steps i l was now (inl s) (inl same) = inl (record { limit_is = same.limit_is ∙ s.limit_is; slot_is = same.slot_is ∙ s.slot_is })
  joined st range slots steps i l was now (inr f) (inl same) = inr (first_here st range slots steps i l was now f same)
  joined st range slots steps i l was now w (inr lowest) =
      let more : limit_in m now + 1 ≤ limit_in m was = omega (arith, lowest.less) in
      let one = low (limit_in m now + 1) l was i st.mode m (own_limit st (size_of range)) w in
      inr (later (slot_with (Some range)) (Some st) slots steps i l was now (not_above l was i st.mode (own_limit st (size_of range)) w)
      (here_some index m (limit_in m now + 1) st range (λ e. (own_law (limit_in m now + 1) st (size_of range)).0 ((one.0 more).1 e))) lowest)

  set_some : (o : Option BufferRange) (st : VertexStep) (slots : List VertexSlot) (steps : List (Option VertexStep)) → Set index m slots steps → Set index m (slot_with o ∷ slots) (Some st ∷ steps)
  unfolding covered limits_from
  set_some None st slots steps ih = λ i l c. cc
  set_some (Some range) st slots steps ih = λ i l c.
      let own = own_limit st (size_of range) in
      let was = lowered l i st.mode own in
      joined st range slots steps i l was (limits_from slots steps (i + 1) was) (ways l i st.mode m own) (ih (i + 1) was c)

  skipped : (s : VertexSlot) (slots : List VertexSlot) (steps : List (Option VertexStep)) (i : ℕ) (l now : VertexLimits) → Same m l now ⊎ Lowest index m slots steps (i + 1) l now → Same m l now ⊎ Lowest index m (s ∷ slots) (None ∷ steps) i l now
  skipped s slots steps i l now (inl same) = inl same
  skipped s slots steps i l now (inr lowest) = inr (later s None slots steps i l l now (omega arith) (λ st r e by y. cc) lowest)

  pub set_by : (slots : List VertexSlot) (steps : List (Option VertexStep)) → Set index m slots steps
  unfolding covered limits_from
  set_by slots [] = λ i l c. inl (record { limit_is = refl; slot_is = refl })
  set_by [] (None ∷ steps) = λ i l c. inl (record { limit_is = refl; slot_is = refl })
  set_by [] (Some st ∷ steps) = λ i l c. inl (record { limit_is = refl; slot_is = refl })
  set_by (s ∷ slots) (None ∷ steps) = λ i l c. skipped s slots steps i l (limits_from slots steps (i + 1) l) (set_by slots steps (i + 1) l c)
  set_by (s ∷ slots) (Some st ∷ steps) = set_some s.range st slots steps (set_by slots steps)
