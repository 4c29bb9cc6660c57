-- What each binding request answers, and what is bound after it.
use Rattle.std.specs.Prelude.{ℕ, ◌^◌, Bool, true, cond, ◌&&◌, ◌||◌, List, map, length, Some, None, Ok, Err, Option, Result, ◌==◌, nat_le, nat_lt}
use Rattle.std.specs.List.{list_all}
use Rattle.command.specs.declared.refusal.Refusal.{Refusal}
use Rattle.command.specs.declared.refusal.Refusal.TheVariants.{NoSuchSlot, MalformedBinding}
use Rattle.render.specs.declared.bindings.BufferRange.{BufferRange}
use Rattle.render.specs.declared.bindings.VertexSlot.{VertexSlot}
use Rattle.render.specs.declared.bindings.IndexBinding.{IndexBinding}
use Rattle.render.specs.declared.bindings.IndexFormat.{IndexFormat}
use Rattle.render.specs.declared.bindings.IndexFormat.TheVariants.{Uint16, Uint32}
use Rattle.render.specs.declared.steps.RawStep.{RawStep}
use Rattle.render.specs.declared.steps.VertexStep.{VertexStep}
use Rattle.render.specs.declared.steps.VertexStepMode.{VertexStepMode}
use Rattle.render.specs.declared.steps.VertexStepMode.TheVariants.{Vertex, Instance}
use Rattle.render.specs.Bound.{Bound, empty_slot, with_slot, with_steps, with_index}

abbrev pub range_of : ℕ → ℕ → BufferRange
range_of start end = record { start = start; end = end }

-- a range ends no earlier than it starts, and its bytes are counted in 32 bits
abbrev pub is_range : ℕ → ℕ → Bool
is_range start end = nat_le start end && nat_lt end (2 ^ 32)

abbrev pub range_answer : ℕ → ℕ → Result BufferRange Refusal
range_answer start end = cond (is_range start end) (Ok (range_of start end)) (Err MalformedBinding)

-- there are sixteen slots
abbrev pub slot_number : ℕ → Result ℕ Refusal
slot_number slot = cond (nat_lt slot 16) (Ok slot) (Err NoSuchSlot)

abbrev pub slot_answer : ℕ → ℕ → ℕ → Result (Unit {0}) Refusal
slot_answer slot start end = cond (nat_lt slot 16) (cond (is_range start end) (Ok tt) (Err MalformedBinding)) (Err NoSuchSlot)

abbrev pub slot_of : ℕ → ℕ → VertexSlot
slot_of start end = record { range = Some (range_of start end) }

abbrev pub after_slot : Bound → ℕ → ℕ → ℕ → Bound
after_slot b slot start end = cond (nat_lt slot 16 && is_range start end) (with_slot b slot (slot_of start end)) b

abbrev pub clear_answer : ℕ → Result (Unit {0}) Refusal
clear_answer slot = cond (nat_lt slot 16) (Ok tt) (Err NoSuchSlot)

abbrev pub after_clear : Bound → ℕ → Bound
after_clear b slot = cond (nat_lt slot 16) (with_slot b slot empty_slot) b

-- a step may be absent; else its stride is counted in 32 bits, and it goes by vertex or by instance; its last stride may be any number
abbrev pub is_step : Option RawStep → Bool
is_step None = true
is_step (Some raw) = nat_lt raw.stride (2 ^ 32) && nat_lt raw.mode 2

abbrev pub mode_of : ℕ → VertexStepMode
mode_of mode = cond (mode == 0) Vertex Instance

abbrev pub mode_answer : ℕ → Result VertexStepMode Refusal
mode_answer mode = cond (nat_lt mode 2) (Ok (mode_of mode)) (Err MalformedBinding)

abbrev pub step_kept : RawStep → VertexStep
step_kept raw = record { stride = raw.stride; last_stride = raw.last_stride; mode = mode_of raw.mode }

abbrev pub read_answer : RawStep → Result VertexStep Refusal
read_answer raw = cond (is_step (Some raw)) (Ok (step_kept raw)) (Err MalformedBinding)

abbrev pub step_of : Option RawStep → Option VertexStep
step_of None = None
step_of (Some raw) = Some (step_kept raw)

abbrev pub step_answer : Option RawStep → Result (Option VertexStep) Refusal
step_answer raw = cond (is_step raw) (Ok (step_of raw)) (Err MalformedBinding)

-- each step of a list is well formed
abbrev pub well_formed : List (Option RawStep) → Bool
well_formed raws = list_all is_step raws

abbrev pub step_list : List (Option RawStep) → List (Option VertexStep)
step_list raws = map step_of raws

abbrev pub steps_answer : List (Option RawStep) → Result (Unit {0}) Refusal
steps_answer raws = cond (nat_le (length raws) 16) (cond (well_formed raws) (Ok tt) (Err MalformedBinding)) (Err NoSuchSlot)

abbrev pub after_steps : Bound → List (Option RawStep) → Bound
after_steps b raws = cond (nat_le (length raws) 16 && well_formed raws) (with_steps b (step_list raws)) b

-- an index takes two bytes or four
abbrev pub is_index_size : ℕ → Bool
is_index_size bytes = bytes == 2 || bytes == 4

abbrev pub format_of : ℕ → IndexFormat
format_of bytes = cond (bytes == 2) Uint16 Uint32

abbrev pub format_answer : ℕ → Result IndexFormat Refusal
format_answer bytes = cond (is_index_size bytes) (Ok (format_of bytes)) (Err MalformedBinding)

abbrev pub index_of : ℕ → ℕ → ℕ → IndexBinding
index_of start end bytes = record { range = range_of start end; format = format_of bytes }

abbrev pub index_answer : ℕ → ℕ → ℕ → Result (Unit {0}) Refusal
index_answer start end bytes = cond (is_range start end && is_index_size bytes) (Ok tt) (Err MalformedBinding)

abbrev pub after_index : Bound → ℕ → ℕ → ℕ → Bound
after_index b start end bytes = cond (is_range start end && is_index_size bytes) (with_index b (index_of start end bytes)) b
