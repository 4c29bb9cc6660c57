use Rattle.std.proofs.Common.{rules}
use Rattle.render.specs.Bound.{bound}
use Rattle.render.proofs.Decide.{ready_exactly}
use Rattle.render.proofs.bindings.Bindings.is_ready.Goals as goal

pub returns-then-not-buffers_bound-clause-exactly : goal.returns-then-not-buffers_bound-clause-exactly
returns-then-not-buffers_bound-clause-exactly c = ready_exactly (bound c.args.self.now) c.args.kind _ (search rules)

pub returns-clause-exactly : goal.returns-clause-exactly
returns-clause-exactly c = ready_exactly (bound c.args.self.now) c.args.kind _ (search rules)
