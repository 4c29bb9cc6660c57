use Rattle.std.proofs.Common.{◌≡◌, ℕ, ◌+◌, ◌≤◌, ◌++◌, get_or, take, drop, None}
use Rattle.batcher.specs.Records.{no_batch}
use Rattle.places.specs.Placed.{following}
use Rattle.plan.specs.Planned.{ending, planned, supplied}
use Rattle.plan.proofs.frame.place_batches.Given as goal

abbrev pub invariant-loop-batch : goal.invariant-loop-batch
invariant-loop-batch g l = record {
  written : take l.batch-index l.batches ++ planned l.sizes.block l.sizes.buffer (drop l.batch-index l.initial.batches) l.staging l.metadata ≡ planned l.sizes.block l.sizes.buffer l.initial.batches None None;
  rest : (k : ℕ) → l.batch-index ≤ k → get_or l.batches k no_batch ≡ get_or l.initial.batches k no_batch;
  few_blocks : following l.staging ≤ l.batch-index;
  few_buffers : following l.metadata ≤ l.batch-index;
  inside : following l.metadata ≤ g.S.Supply.held (g.S.Supply.view l.supply);
  enough : following (ending l.sizes.buffer (drop l.batch-index l.initial.batches) l.metadata) ≤ g.S.Supply.held (g.S.Supply.view l.supply) + g.S.Supply.more (g.S.Supply.view l.supply);
  supply : supplied g.S.Supply.ensured l.sizes.buffer (drop l.batch-index l.initial.batches) l.metadata (g.S.Supply.view l.supply) ≡ supplied g.S.Supply.ensured l.sizes.buffer l.initial.batches None (g.S.Supply.view l.initial.supply);
  kept : g.S.Supply.names l.supply ≡ g.S.Supply.names l.initial.supply;
}
