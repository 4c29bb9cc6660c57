-- A frame with its tables.
use Rattle.batcher.specs.Judged.{Recording}
use Rattle.batcher.specs.View.{recording}
use Rattle.batcher.specs.declared.tables.Tables.{Tables}
use Rattle.places.specs.Counts.{Counts, counts}
use Rattle.sheet.specs.declared.frame.Frame.{Frame}

abbrev pub recording_of : Frame → Tables → Recording Counts
recording_of f tables = recording f.batcher (counts f.destinations.held f.destinations.left) tables
