-- The lists that tables hold: their items as far as there are any.
use Rattle.std.specs.Prelude.{List, take}
use Rattle.direct_memory.specs.declared.layout.PoolSlot.{PoolSlot}
use Rattle.direct_memory.specs.declared.layout.SourcePlace.{SourcePlace}
use Rattle.direct_memory.specs.declared.tables.PoolSlots.{PoolSlots}
use Rattle.direct_memory.specs.declared.tables.SourcePlaces.{SourcePlaces}

abbrev pub source_places : SourcePlaces → List SourcePlace
source_places t = take t.len t.items

abbrev pub pool_slots : PoolSlots → List PoolSlot
pool_slots t = take t.len t.items
