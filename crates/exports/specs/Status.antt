-- What a call answers, and what it writes.
use Rattle.std.specs.Prelude.{ℕ, Ok, Err, Result}
use Rattle.command.specs.Refusals.{number_of}
use Rattle.command.specs.declared.refusal.Refusal.{Refusal}
use Rattle.exports.specs.declared.status.Failure.{Failure}
use Rattle.exports.specs.declared.status.Failure.TheVariants.{Refused, OutsideWindow, WideOffset}

-- a refusal's number, and the numbers of what is no refusal
abbrev pub status_of : Failure → ℕ
status_of (Refused r) = number_of r
status_of OutsideWindow = 64
status_of WideOffset = 65

-- 0 for what was accepted
abbrev pub status_told : {X : Type 0} → Result X Failure → ℕ
status_told (Ok x) = 0
status_told (Err e) = status_of e

-- what was found is written; where nothing was, what stood there stays
abbrev pub told : {X : Type 0} → Result X Failure → X → X
told (Ok x) old = x
told (Err e) old = old

-- an answer that only a refusal takes the place of
abbrev pub refused : {X Y : Type 0} → (X → Y) → Result X Refusal → Result Y Failure
refused f (Ok x) = Ok (f x)
refused f (Err e) = Err (Refused e)
