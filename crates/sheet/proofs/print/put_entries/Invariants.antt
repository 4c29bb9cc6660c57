use Rattle.std.proofs.Common.{◌≡◌, ◌++◌, map, string_bytes}
use Rattle.std.specs.List.{flat_map}
use Rattle.sheet.specs.Printed.{entry_line}
use Rattle.sheet.proofs.print.put_entries.Given as goal

abbrev pub invariant-loop-draw : goal.invariant-loop-draw
invariant-loop-draw l = string_bytes l.out ≡ string_bytes l.initial.out ++ flat_map (λ d. entry_line d.entry) (map (λ d. d.now) l.yielded)
