use Rattle.std.proofs.Common.{sym}
use Rattle.batcher.specs.Judged.{frame_terms}
use Rattle.batcher.specs.View.{batching}
use Rattle.batcher.proofs.Bounding.{held_bounded}
use Rattle.batcher.proofs.Keeping.{keeps_judged}
use Rattle.batcher.proofs.batcher.DrawBatcher.add.Goals as goal

pub returns-in_err-chosen-clause-bounded : goal.returns-in_err-chosen-clause-bounded
returns-in_err-chosen-clause-bounded g c = held_bounded c.args.terms.now

pub returns-in_err-ensure-clause-bounded : goal.returns-in_err-ensure-clause-bounded
returns-in_err-ensure-clause-bounded g c = held_bounded c.args.terms.now

pub returns-clause-holds : goal.returns-clause-holds
returns-clause-holds g c = λ ws h.
    rw c.max-self.ensures (keeps_judged (frame_terms c.args.terms.now) (batching c.args.self.now) c.args.tables.now.draws.now c.args.tables.now.batches.now ws h c.args.request.now c.in_ok-chosen.chosen (sym c.in_ok-chosen.ensures.value))

pub returns-clause-bounded : goal.returns-clause-bounded
returns-clause-bounded g c = held_bounded c.args.terms.now
