-- Requests, draws and batches as a host sees them.
use Rattle.command.specs.Family.{kind_of}
use Rattle.batcher.specs.declared.records.DrawIndirectValidationBatch.{DrawIndirectValidationBatch}
use Rattle.batcher.specs.declared.records.IndirectDraw.{IndirectDraw}
use Rattle.page.specs.declared.line.DrawLine.{DrawLine}
use Rattle.frame_exports.specs.declared.records.BatchRecord.{BatchRecord}
use Rattle.frame_exports.specs.declared.records.DrawRecord.{DrawRecord}
use Rattle.frame_exports.specs.declared.records.Request.{Request}

abbrev pub line_of : Request → DrawLine
line_of q = record { kind = q.kind; source = q.source; offset = q.offset; first_limit = q.limit; instance_limit = q.instance_limit }

abbrev pub record_told : IndirectDraw → DrawRecord
record_told d = record {
  kind = kind_of d.family;
  index = d.place.index;
  offset = d.place.offset;
  batch = d.batch;
  rank = d.rank;
  src_offset = d.entry.src_offset;
  dst_offset = d.entry.dst_offset;
  vertex_or_index_limit = d.entry.vertex_or_index_limit;
  instance_limit = d.entry.instance_limit;
}

abbrev pub batch_told : DrawIndirectValidationBatch → BatchRecord
batch_told b = record {
  source = b.key.source;
  window = b.key.window;
  destination = b.key.destination;
  count = b.count;
  staging_block = b.staging.index;
  staging_offset = b.staging.offset;
  metadata_buffer = b.metadata.index;
  metadata_offset = b.metadata.offset;
}
