-- A batcher, alone and with its supply and tables.
use Rattle.batcher.specs.declared.batcher.DrawBatcher.{DrawBatcher}
use Rattle.batcher.specs.declared.tables.Tables.{Tables}
use Rattle.batcher.specs.Judged.{Batching, Recording}

abbrev pub batching : DrawBatcher → Batching
batching b = record { draws = b.draws; batches = b.batches; current = b.current }

abbrev pub recording : {V : Type 0} → DrawBatcher → V → Tables → Recording V
recording b v tables = record { batching = batching b; supply = v; draws = tables.draws.now; batches = tables.batches.now }
