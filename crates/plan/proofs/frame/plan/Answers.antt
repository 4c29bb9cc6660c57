use Rattle.batcher.specs.Judged.{terms}
use Rattle.batcher.specs.View.{batching}
use Rattle.command.proofs.Lawfuls.{dst_fits, dst_least, buffer_holds, buffer_in_block}
use Rattle.plan.proofs.Staging.{planned_holds, planned_staged}
use Rattle.plan.proofs.frame.plan.Goals as goal

pub returns-clause-holds : goal.returns-clause-holds
returns-clause-holds g c = λ t ws ds h.
    rw (c.place_batches.ensures.batches, c.batches-recorded.ensures)
    (planned_holds c.args.sizes.now.block t ws (batching c.args.batcher.now) ds c.args.batches.now h c.args.sizes.now.buffer)

pub returns-clause-staged : goal.returns-clause-staged
returns-clause-staged g c = λ s ws ds h.
    let z = c.args.sizes.now in
    rw (c.measure-needed.ensures, c.place_batches.ensures.batches, c.batches-recorded.ensures)
    (planned_staged z.block (terms s z) ws (batching c.args.batcher.now) ds c.args.batches.now h (buffer_in_block z.buffer z.block z.ok) dst_least (dst_fits z.buffer (buffer_holds z.buffer z.block z.ok)))
