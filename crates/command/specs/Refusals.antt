-- The one numbering of refusals and answers.
use Rattle.std.specs.Prelude.{ℕ, Some, None, Ok, Err, Option, Result}
use Rattle.command.specs.declared.answer.Accepted.{Accepted}
use Rattle.command.specs.declared.refusal.Beyond.{Beyond}
use Rattle.command.specs.declared.refusal.Report.{Report}
use Rattle.command.specs.declared.refusal.Refusal.{Refusal}
use Rattle.command.specs.declared.refusal.Refusal.TheVariants.{UnlawfulSettings, NoSuchSlot, MalformedBinding, MissingPipeline, MissingVertexBuffer, MissingIndexBuffer, UnknownKind, VertexBeyondLimit, IndexBeyondLimit, InstanceBeyondLimit, NoSuchSource, UnalignedIndirectBufferOffset, IndirectBufferOverrun, TableFull, NoBuffer, StagingHeld, StagingShort, DeviceMemory}

abbrev pub report : ℕ → Option Beyond → Option ℕ → Report
report n b s = record { number = n; beyond = b; slot = s }

abbrev pub plain : ℕ → Report
plain n = report n None None

-- Each refusal's number and values.
abbrev pub report_of : Refusal → Report
report_of UnlawfulSettings = plain 1
report_of NoSuchSlot = plain 2
report_of MalformedBinding = plain 3
report_of MissingPipeline = plain 4
report_of MissingVertexBuffer = plain 5
report_of MissingIndexBuffer = plain 6
report_of UnknownKind = plain 7
report_of (VertexBeyondLimit b s) = report 8 (Some b) (Some s)
report_of (IndexBeyondLimit b) = report 9 (Some b) None
report_of (InstanceBeyondLimit b s) = report 10 (Some b) (Some s)
report_of NoSuchSource = plain 11
report_of UnalignedIndirectBufferOffset = plain 12
report_of IndirectBufferOverrun = plain 13
report_of TableFull = plain 14
report_of NoBuffer = plain 15
report_of StagingHeld = plain 16
report_of StagingShort = plain 17
report_of DeviceMemory = plain 18

abbrev pub number_of : Refusal → ℕ
number_of r = (report_of r).number

-- 0 for what was accepted
abbrev pub answer_number : Result Accepted Refusal → ℕ
answer_number (Ok a) = 0
answer_number (Err r) = number_of r
