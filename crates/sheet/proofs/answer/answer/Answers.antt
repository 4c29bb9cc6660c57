use Rattle.std.proofs.Common.{rules}
use Rattle.sheet.proofs.Telling.{told}
use Rattle.sheet.proofs.answer.answer.Goals as goal

pub returns-clause-tells : goal.returns-clause-tells
returns-clause-tells c = told c.args.text.now _ (search rules)
