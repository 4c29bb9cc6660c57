use Rattle.std.proofs.Common.{rules}
use Rattle.render.specs.Bound.{bound}
use Rattle.render.proofs.Decide.{limits_decide}
use Rattle.render.proofs.bindings.Bindings.draw_limits.Goals as goal

pub returns-in-Draw-clause-decides : goal.returns-in-Draw-clause-decides
returns-in-Draw-clause-decides c = limits_decide (bound c.args.self.now) c.args.kind _ (search rules)

pub returns-in-DrawIndexed-clause-decides : goal.returns-in-DrawIndexed-clause-decides
returns-in-DrawIndexed-clause-decides c = limits_decide (bound c.args.self.now) c.args.kind (record { family = _; vertex_or_index_limit = _; instance_limit = _ }) (search rules)
