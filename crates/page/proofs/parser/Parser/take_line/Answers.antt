use Rattle.std.proofs.Common.{◌≡◌, Some, None, refl, arith}
use Rattle.std.proofs.lemmas.Result.{err_from_is_err_and}
use Rattle.page.specs.declared.read.ReadError.TheVariants.{Bad}
use Rattle.page.specs.Lines.{line_of}
use Rattle.page.specs.Stages.{next_of}
use Rattle.page.specs.Sheets.{sheet_of}
use Rattle.page.proofs.Reading.{read_unread, read_astray, read_more}
use Rattle.page.proofs.parser.Parser.take_line.Goals as goal

pub returns-in_err-line : goal.returns-in_err-line
returns-in_err-line c =
    let p = c.args.self.now in
    let exit = err_from_is_err_and c.from_residual.result c.from_residual.ensures.1 in
    let unread : line_of c.args.text.now ≡ None = grind arith in
    let same : c.in_err-line.field-0.0 ≡ Bad p.number = grind arith in
    rw (exit.1, exit.2, same) ((λ ls. read_unread c.args.text.now ls p.stage p.number (sheet_of p.page) unread), refl)

pub returns-in_err-stage : goal.returns-in_err-stage
returns-in_err-stage c =
    let p = c.args.self.now in
    let exit = err_from_is_err_and c.from_residual-in_err-stage.result c.from_residual-in_err-stage.ensures.1 in
    let astray : next_of p.stage c.in_ok-line.line ≡ None = grind arith in
    let same : c.in_err-stage.field-0.0 ≡ Bad p.number = grind arith in
    let line : line_of c.args.text.now ≡ Some c.in_ok-line.line = grind arith in
    rw (exit.1, exit.2, same) ((λ ls. read_astray c.args.text.now ls p.stage p.number (sheet_of p.page) c.in_ok-line.line line astray), refl)

pub returns : goal.returns
returns c =
    let p = c.args.self.now in
    let line : line_of c.args.text.now ≡ Some c.in_ok-line.line = grind arith in
    let next : next_of p.stage c.in_ok-line.line ≡ Some c.in_ok-stage.stage = grind arith in
    ((λ ls. rw c.in_ok-add.ensures (read_more c.args.text.now ls p.stage p.number (sheet_of p.page) c.in_ok-line.line c.in_ok-stage.stage line next)), refl)
