-- The numbers by which a host knows why a call is not carried out.
use Rattle.std.specs.Prelude.{ℕ, Ok, Err, Result, ⊤}
use Rattle.command.specs.Refusals.{number_of}
use Rattle.frame_exports.specs.declared.status.Failure.{Failure}
use Rattle.frame_exports.specs.declared.status.Failure.TheVariants.{Refused, UnlawfulSizes, ShortOutput, NoMemory}

abbrev pub failure_status : Failure → ℕ
failure_status (Refused refusal) = number_of refusal
failure_status UnlawfulSizes = 66
failure_status ShortOutput = 67
failure_status NoMemory = 68

-- 0 for a call that is carried out
abbrev pub call_status : Result ⊤ Failure → ℕ
call_status (Ok u) = 0
call_status (Err e) = failure_status e
