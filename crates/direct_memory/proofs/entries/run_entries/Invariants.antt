use Rattle.std.proofs.Common.{◌≡◌, map, take}
use Rattle.entry.specs.Entries.{entry_from}
use Rattle.device.specs.Dispatches.{ran}
use Rattle.direct_memory.proofs.entries.run_entries.Given as goal

abbrev pub invariant-loop-words : goal.invariant-loop-words
invariant-loop-words l = l.destination ≡ ran l.first_instances l.window (map entry_from (take l.words-index l.entries)) l.initial.destination
