-- Records that stand for nothing yet.
use Rattle.command.specs.declared.family.DrawCommandFamily.TheVariants.{Draw}
use Rattle.entry.specs.declared.metadata.MetadataEntry.{MetadataEntry}
use Rattle.places.specs.Placed.{entry}
use Rattle.batcher.specs.declared.records.BatchKey.{BatchKey}
use Rattle.batcher.specs.declared.records.DrawIndirectValidationBatch.{DrawIndirectValidationBatch}
use Rattle.batcher.specs.declared.records.IndirectDraw.{IndirectDraw}

abbrev pub no_key : BatchKey
no_key = record { source = 0; window = 0; destination = 0 }

abbrev pub no_batch : DrawIndirectValidationBatch
no_batch = record { key = no_key; count = 0; staging = entry 0 0; metadata = entry 0 0 }

abbrev pub no_entry : MetadataEntry
no_entry = record { src_offset = 0; dst_offset = 0; vertex_or_index_limit = 0; instance_limit = 0 }

abbrev pub no_draw : IndirectDraw
no_draw = record { family = Draw; place = entry 0 0; entry = no_entry; batch = 0; rank = 0 }
