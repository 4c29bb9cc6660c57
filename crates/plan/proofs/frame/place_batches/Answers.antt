use Rattle.std.proofs.Common.{◌≡◌, ◌+◌, ◌^◌, ◌<◌, length, get_or, drop, Option, ap, ◌∙◌, arith}
use Rattle.std.proofs.lemmas.Grind.{common_steps}
use Rattle.batcher.specs.Records.{no_batch}
use Rattle.places.specs.Placed.{following}
use Rattle.places.specs.declared.current.CurrentEntry.{CurrentEntry}
use Rattle.plan.specs.Planned.{ending, next_of}
use Rattle.plan.proofs.Ending.{ending_more, planned_all, planned_more, supplied_all, supplied_more}
use Rattle.plan.proofs.Placing.{ending_up, enough, had, next_bound}
use Rattle.plan.proofs.frame.place_batches.Goals as goal

pub unwrap-batch-requires : goal.unwrap-batch-requires
unwrap-batch-requires g c =
    let i = c.loop-batch.batch-index in
    let b = get_or c.args.batches.now i no_batch in
    let v = g.S.Supply.view c.loop-batch.supply in
    let m = c.loop-batch.metadata in
    let k = c.loop-batch.invariant in
    let h : c.loop-batch.batch-index < length c.args.batches.now = omega arith in
    let same = k.rest i (omega arith) in
    let room = c.args.sizes.now.buffer in
    let t = ending_more room c.args.batches.now i m h in
    let up = ending_up room (drop (i + 1) c.args.batches.now) (next_of room m b) in
    let few : following c.loop-batch.metadata < 2 ^ 64 = omega arith in
    let f = enough m b room (g.S.Supply.held v) (g.S.Supply.more v) k.inside few (omega (arith, up, k.enough, ap following t)) in
    cc (f, same, c.get_subrange_impl-described.ensures.answer, c.bytes_of-bytes.ensures, c.buffer-buffer.ensures)

pub loop-batch-preserved : goal.loop-batch-preserved
loop-batch-preserved g c =
    let i = c.loop-batch.batch-index in
    let now = c.loop-batch.batches in
    let e = c.args.batches.now in
    let b = get_or e i no_batch in
    let h : c.loop-batch.batch-index < length c.loop-batch.batches = omega arith in
    let h' : c.loop-batch.batch-index < length c.args.batches.now = omega arith in
    let k = c.loop-batch.invariant in
    let same = k.rest i (omega arith) in
    let block = c.args.sizes.now.block in
    let room = c.args.sizes.now.buffer in
    let s = c.loop-batch.staging in
    let m = c.loop-batch.metadata in
    let v = g.S.Supply.view c.loop-batch.supply in
    let d = c.get_subrange_impl-described in
    let a = had m c.bytes_of-bytes.result c.buffer-buffer.result (g.S.Supply.held v) (g.S.Supply.more v) d.result c.unwrap-batch.result d.ensures.answer c.unwrap-batch.ensures in
    let place = a.place in
    let supply = a.supply g.S.Supply.ensured v in
    let moved = d.ensures.current ∙ a.current in
    let staged : c.place-batch.new.current ≡ next_of block s b = cc in
    let described : d.new.current_entry ≡ next_of room m b = cc in
    let p = planned_more block room e i s m h' in
    let q = supplied_more g.S.Supply.ensured room e i m v h' in
    let t = ending_more room e i m h' in
    record {
      written = grind (arith, common_steps);
      rest = λ n l. grind (arith, common_steps, k.rest n);
      few_blocks = omega (arith, ap following staged, next_bound block s b i k.few_blocks);
      few_buffers = omega (arith, ap following described, next_bound room m b i k.few_buffers);
      inside = omega (arith, ap following moved, ap (λ (p : CurrentEntry). p.index) place, a.inside _ _ d.ensures.stock k.inside);
      enough = omega (arith, ap (λ (x : Option CurrentEntry). following (ending room (drop (i + 1) e) x)) described, ap following t, d.ensures.stock.whole, k.enough);
      supply = cc;
      kept = d.ensures.kept ∙ k.kept;
    }

pub returns-clause-batches : goal.returns-clause-batches
returns-clause-batches g c = grind (arith, common_steps, planned_all)

pub returns-clause-supply : goal.returns-clause-supply
returns-clause-supply g c = grind (arith, common_steps, supplied_all)
