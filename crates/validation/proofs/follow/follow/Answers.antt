use Rattle.render.specs.Bound.{bound}
use Rattle.validation.proofs.follow.follow.Goals as goal

pub returns-clause-law : goal.returns-clause-law
returns-clause-law c = c.follow_accepted.ensures.law (bound c.args.bindings.now) c.in_ok-limits.ensures.decides
