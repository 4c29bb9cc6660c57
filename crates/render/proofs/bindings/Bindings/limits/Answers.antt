use Rattle.std.proofs.Common.{rules}
use Rattle.render.specs.Bound.{bound}
use Rattle.render.proofs.Decide.{limits_law}
use Rattle.render.proofs.bindings.Bindings.limits.Goals as goal

pub returns-in-Some-clause-law : goal.returns-in-Some-clause-law
returns-in-Some-clause-law c = limits_law (bound c.args.self.now) c.new.result (search rules)
