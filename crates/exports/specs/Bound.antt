-- What a host says is bound.
use Rattle.std.specs.Prelude.{ℕ, ◌+◌, cond, List, [], ◌∷◌, map, Some, None, Ok, Err, Option, Result, ◌==◌}
use Rattle.command.specs.declared.refusal.Refusal.{Refusal}
use Rattle.render.specs.Bound.{Bound, bound, unbound}
use Rattle.command.specs.Checks.{and_then}
use Rattle.render.specs.Requests.{after_clear, after_index, after_slot, after_steps, clear_answer, index_answer, slot_answer, steps_answer}
use Rattle.render.specs.declared.bindings.Bindings.{Bindings}
use Rattle.render.specs.declared.steps.RawStep.{RawStep}
use Rattle.exports.specs.declared.bound.Index.{Index}
use Rattle.exports.specs.declared.bound.Slot.{Slot}
use Rattle.exports.specs.declared.bound.Step.{Step}

-- what follows a request: the state after it, or why it was refused
abbrev pub through : Result (Unit {0}) Refusal → Bound → Result Bound Refusal
through (Ok x) b = Ok b
through (Err e) b = Err e

-- a slot that is present is bound, and one that is absent emptied
abbrev pub slot_asked : ℕ → Slot → Result (Unit {0}) Refusal
slot_asked i s = cond (s.present == 0) (clear_answer i) (slot_answer i s.start s.end)

abbrev pub slot_after : ℕ → Slot → Bound → Bound
slot_after i s b = cond (s.present == 0) (after_clear b i) (after_slot b i s.start s.end)

-- the slots from number i on
unfoldable pub slots_bound : ℕ → List Slot → Bound → Result Bound Refusal
slots_bound i [] b = Ok b
slots_bound i (s ∷ ss) b = and_then (slot_asked i s) (λ _. slots_bound (i + 1) ss (slot_after i s b))

-- a step that may be absent
abbrev pub raw_of : Step → Option RawStep
raw_of s = cond (s.present == 0) None (Some (record { stride = s.stride; last_stride = s.last_stride; mode = s.mode }))

-- no steps are set where there is no pipeline
abbrev pub steps_bound : Option (List Step) → Bound → Result Bound Refusal
steps_bound None b = Ok b
steps_bound (Some steps) b = through (steps_answer (map raw_of steps)) (after_steps b (map raw_of steps))

-- what is bound after the slots and the steps
abbrev pub host_bound : List Slot → Option (List Step) → Result Bound Refusal
host_bound slots steps = and_then (slots_bound 0 slots unbound) (steps_bound steps)

-- there is no pipeline where its flag is 0
abbrev pub pipeline_steps : ℕ → List Step → Option (List Step)
pipeline_steps pipeline steps = cond (pipeline == 0) None (Some steps)

abbrev pub slots_and_steps : List Slot → ℕ → List Step → Result Bound Refusal
slots_and_steps slots pipeline steps = host_bound slots (pipeline_steps pipeline steps)

-- an index range that may be absent
abbrev pub index_bound : Index → Bound → Result Bound Refusal
index_bound x b = cond (x.present == 0) (Ok b) (through (index_answer x.start x.end x.bytes) (after_index b x.start x.end x.bytes))

-- slots, then steps, then the index range
abbrev pub all_bound : List Slot → ℕ → List Step → Index → Result Bound Refusal
all_bound slots pipeline steps x = and_then (slots_and_steps slots pipeline steps) (index_bound x)

-- bindings by what is bound in them
abbrev pub bindings_of : Result Bindings Refusal → Result Bound Refusal
bindings_of (Ok b) = Ok (bound b)
bindings_of (Err e) = Err e
