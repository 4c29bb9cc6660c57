use Rattle.std.proofs.Common.{◌≡◌, ◌≤◌, drop, None}
use Rattle.places.specs.Placed.{following}
use Rattle.plan.specs.Planned.{ending}
use Rattle.plan.proofs.frame.measure.Given as goal

abbrev pub invariant-loop-batch : goal.invariant-loop-batch
invariant-loop-batch l = record {
  blocks : ending l.sizes.block (drop l.batch-index l.batches) l.staging ≡ ending l.sizes.block l.batches None;
  buffers : ending l.sizes.buffer (drop l.batch-index l.batches) l.metadata ≡ ending l.sizes.buffer l.batches None;
  few_blocks : following l.staging ≤ l.batch-index;
  few_buffers : following l.metadata ≤ l.batch-index;
}
