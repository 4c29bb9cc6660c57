use Rattle.std.proofs.Common.{◌∙◌, arith}
use Rattle.direct_memory.proofs.Wording.{copy_within_sets}
use Rattle.direct_memory.proofs.words.Region.copy.Goals as goal

pub returns : goal.returns
returns c = c.copy_within.ensures.after ∙ copy_within_sets c.args.self.start c.args.self.size _ c.args.to c.args.words.now (omega arith) (omega arith) c.requires.target
