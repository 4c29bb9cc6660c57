use Rattle.std.proofs.Common.{Some, None}
use Rattle.page.proofs.Fields.{numbers_more, short_last, short_none}
use Rattle.page.proofs.text.first_number.Goals as goal

pub returns-in_err-field : goal.returns-in_err-field
returns-in_err-field c = rw c.from_residual.ensures (short_last c.args.text.now c.in_err-field.ensures)

pub returns-in_err-value : goal.returns-in_err-value
returns-in_err-value c =
    let h = c.in_ok-field.ensures in
    rw c.from_residual-in_err-value.ensures
    (short_none _ (numbers_more c.args.text.now c.in_ok-field.field.now c.in_ok-field.rest.now None h.0 h.1 c.in_err-value.ensures))

pub returns : goal.returns
returns c =
    let h = c.in_ok-field.ensures in
    numbers_more c.args.text.now c.in_ok-field.field.now c.in_ok-field.rest.now (Some c.in_ok-value.value) h.0 h.1 c.in_ok-value.ensures
