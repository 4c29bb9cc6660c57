use Rattle.std.proofs.Common.{sym, ◌∙◌, arith}
use Rattle.std.proofs.lemmas.Grind.{common_steps}
use Rattle.utils.proofs.Reading.{counted_named}
use Rattle.utils.proofs.unique.Goals as goal

pub returns-clause-law : goal.returns-clause-law
returns-clause-law c =
    λ k q. counted_named _ _ c.args.out.now _ k (sym q ∙ c.write-2.ensures.answer) (grind (arith, common_steps))
