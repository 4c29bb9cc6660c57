-- What a run of entries needs of the words that it reads and writes.
use Rattle.std.specs.Prelude.{◌≡◌, ℕ, ◌/◌, true, List}
use Rattle.device.specs.Dispatches.{all_inside, entries_from}
use Rattle.direct_memory.specs.Regions.{Apart, Inside, words_of}
use Rattle.direct_memory.specs.declared.entries.Parts.{Parts}

pub record CanRun (p : Parts) (ws : List ℕ) : Type 0 where
  pub entries : Inside p.entries ws
  pub window : Inside p.window ws
  pub destination : Inside p.destination ws
  pub listed : Apart p.entries p.destination
  pub bound : Apart p.window p.destination
  pub inside : all_inside p.window.size p.destination.size (entries_from (words_of p.entries ws) (p.entries.size / 4)) ≡ true
