use Rattle.std.proofs.Common.{◌≡◌, ◌++◌, drop, string_bytes}
use Rattle.sheet.specs.Printed.{batch_lines}
use Rattle.sheet.proofs.print.put_batches.Given as goal

abbrev pub invariant-loop-number : goal.invariant-loop-number
invariant-loop-number l = string_bytes l.out ++ batch_lines l.number l.draws (drop l.number l.batches) ≡ string_bytes l.initial.out ++ batch_lines 0 l.draws l.batches
