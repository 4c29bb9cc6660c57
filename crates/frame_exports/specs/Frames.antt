-- A frame that a host asks for.
use Rattle.std.specs.Prelude.{◌≡◌, ℕ, min, Bool, cond, ◌&&◌, List, [], ◌∷◌, ◌++◌, map, length, take, drop, Ok, Err, Result, nat_le, ⊤}
use Rattle.command.specs.Family.{src_stride, dst_stride}
use Rattle.command.specs.Lawful.{lawful, lawful_sizes}
use Rattle.command.specs.Refusals.{number_of}
use Rattle.command.specs.declared.refusal.Refusal.{Refusal}
use Rattle.command.specs.declared.refusal.Refusal.TheVariants.{UnlawfulSettings}
use Rattle.command.specs.declared.settings.Settings.{Settings}
use Rattle.command.specs.declared.sizes.Sizes.{Sizes}
use Rattle.places.specs.Counts.{Counts}
use Rattle.batcher.specs.Judged.{Batching, Recording, Terms}
use Rattle.plan.specs.Planned.{batches_after, plan_answer}
use Rattle.plan.specs.declared.frame.FramePlan.{FramePlan}
use Rattle.sheet.specs.Frames.{answer_of, fresh, recorded, recorded_all}
use Rattle.frame_exports.specs.Records.{batch_told, line_of, record_told}
use Rattle.frame_exports.specs.Subranges.{place_told}
use Rattle.frame_exports.specs.declared.frames.FrameCounts.{FrameCounts}
use Rattle.frame_exports.specs.declared.frames.FrameSettings.{FrameSettings}
use Rattle.frame_exports.specs.declared.frames.Outputs.{Outputs}
use Rattle.frame_exports.specs.declared.records.BatchRecord.{BatchRecord}
use Rattle.frame_exports.specs.declared.records.DrawRecord.{DrawRecord}
use Rattle.frame_exports.specs.declared.records.Request.{Request}
use Rattle.frame_exports.specs.declared.status.Failure.{Failure}
use Rattle.frame_exports.specs.declared.status.Failure.TheVariants.{Refused, UnlawfulSizes, ShortOutput}
use Rattle.frame_exports.specs.declared.subranges.Place.{Place}

-- the answers to requests, each after the one before
unfoldable pub answers_told : Terms → List ℕ → Recording Counts → List Request → List Place
answers_told t sources f [] = []
answers_told t sources f (q ∷ qs) = place_told (answer_of t sources f (line_of q)) ∷ answers_told t sources (recorded t sources f (line_of q)) qs

abbrev pub settings_told : Settings → Sizes → FrameSettings
settings_told s z = record { alignment = s.alignment; largest_binding = s.largest_binding; buffer_size = z.buffer; block_size = z.block }

abbrev pub terms_for : FrameSettings → Terms
terms_for q = record { alignment = q.alignment; largest = q.largest_binding; room = q.buffer_size; src = src_stride; dst = dst_stride }

-- what stands after all requests
abbrev pub frame_of : FrameSettings → List ℕ → List Request → Recording Counts
frame_of q sources qs = recorded_all (terms_for q) sources fresh (map line_of qs)

-- over 256 metadata buffers
abbrev pub plan_of : ℕ → ℕ → Recording Counts → Result FramePlan Refusal
plan_of block room f = plan_answer block room f.batching.batches f.batches 256

-- each output is written from its start, and what follows stays
abbrev pub answers_written : FrameSettings → List ℕ → List Request → List Place → List Place
answers_written q sources qs old = answers_told (terms_for q) sources fresh qs ++ drop (length qs) old

abbrev pub draws_written : Recording Counts → List DrawRecord → List DrawRecord
draws_written f old = map record_told (take f.batching.draws f.draws) ++ drop f.batching.draws old

abbrev pub batches_written : ℕ → ℕ → Recording Counts → List BatchRecord → List BatchRecord
batches_written block room f old = map batch_told (take f.batching.batches (batches_after block room f.batching.batches (plan_of block room f) f.batches)) ++ drop f.batching.batches old

-- a plan that is refused has neither blocks nor buffers
abbrev pub counts_told : Batching → Result FramePlan Refusal → FrameCounts
counts_told s (Ok p) = record { draws = s.draws; batches = s.batches; staging_blocks = p.blocks; metadata_buffers = p.metadata }
counts_told s (Err e) = record { draws = s.draws; batches = s.batches; staging_blocks = 0; metadata_buffers = 0 }

abbrev pub plan_status : Result FramePlan Refusal → ℕ
plan_status (Ok p) = 0
plan_status (Err e) = number_of e

-- room for an answer and a record of each of n requests, and for a batch of each but no more than 256
abbrev pub enough : (n answers draws batches : ℕ) → Bool
enough n answers draws batches = nat_le n answers && (nat_le n draws && nat_le (min n 256) batches)

abbrev pub room_in : ℕ → Outputs → Bool
room_in n o = enough n (length o.answers.now) (length o.draws.now) (length o.batches.now)

-- whatever stands in them, the outputs are the same memory
abbrev pub SameMemory : Outputs → Outputs → Type 0
SameMemory o p = (o.answers.ghost_name ≡ p.answers.ghost_name) × (o.draws.ghost_name ≡ p.draws.ghost_name) × (o.batches.ghost_name ≡ p.batches.ghost_name) × (o.counts.ghost_name ≡ p.counts.ghost_name)

abbrev pub lawful_frame : FrameSettings → Bool
lawful_frame q = lawful q.alignment q.largest_binding && lawful_sizes q.buffer_size q.block_size

abbrev pub settings_failure : FrameSettings → Failure
settings_failure q = cond (lawful q.alignment q.largest_binding) UnlawfulSizes (Refused UnlawfulSettings)

abbrev pub plan_outcome : Result FramePlan Refusal → Result ⊤ Failure
plan_outcome (Ok p) = Ok tt
plan_outcome (Err e) = Err (Refused e)

-- the settings are judged first, then the sizes, then the room, then the plan
abbrev pub frame_outcome : FrameSettings → Bool → Result FramePlan Refusal → Result ⊤ Failure
frame_outcome q room plan = cond (lawful_frame q) (cond room (plan_outcome plan) (Err ShortOutput)) (Err (settings_failure q))

-- the status for C: 1 for the settings, then 66 for the sizes, then 67 for a short output
abbrev pub frame_status : FrameSettings → Bool → ℕ → ℕ
frame_status q room status = cond (lawful q.alignment q.largest_binding) (cond (lawful_sizes q.buffer_size q.block_size) (cond room status 67) 66) 1
