use Rattle.batcher.proofs.Holding.{holds_nothing}
use Rattle.batcher.proofs.batcher.DrawBatcher.new.Goals as goal

pub returns-clause-holds : goal.returns-clause-holds
returns-clause-holds c = holds_nothing
