use Rattle.std.proofs.Common.{arith, rules}
use Rattle.render.specs.Bound.{bound}
use Rattle.render.proofs.Decide.{accepted_exactly}
use Rattle.render.proofs.bindings.Bindings.check_draw.Goals as goal

pub returns-clause-exactly : goal.returns-clause-exactly
returns-clause-exactly c = accepted_exactly c.args.args (omega arith) (omega arith) (omega arith) (omega arith) (bound c.args.self.now) c.args.kind c.validate_draw.result (search rules)
