use Rattle.std.proofs.Common.{string_bytes}
use Rattle.std.proofs.lemmas.Result.{IfOk-weaker}
use Rattle.page.specs.Sheets.{sheet_of}
use Rattle.page_text.proofs.Ordered.{read_back}
use Rattle.page_text.proofs.write.write_page.Goals as goal

pub returns-clause-back : goal.returns-clause-back
returns-clause-back c = IfOk-weaker c.to_string.result _ _ (λ s e. read_back (string_bytes s) (sheet_of c.args.page.now) e) c.to_string.ensures.ok
