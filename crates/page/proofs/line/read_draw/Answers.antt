use Rattle.std.proofs.Common.{◌∙◌}
use Rattle.page.specs.Lines.{numbers_of}
use Rattle.page.proofs.Fields.{four_more, draw_five, draw_other, number_alone, number_none}
use Rattle.page.proofs.line.read_draw.Goals as goal

pub returns-in_err-instance_limit : goal.returns-in_err-instance_limit
returns-in_err-instance_limit c =
    c.from_residual-in_err-instance_limit.ensures
    ∙ draw_other _ _ _ _ _ (numbers_of c.in_ok-first_limit.rest.now) (four_more _ _ _ _ _ _ _ _ _ c.in_ok-kind.ensures c.in_ok-source.ensures c.in_ok-offset.ensures c.in_ok-first_limit.ensures)
    (number_none c.in_ok-first_limit.rest.now c.in_err-instance_limit.ensures)

pub returns : goal.returns
returns c =
    draw_five _ _ _ _ _ (numbers_of c.in_ok-first_limit.rest.now) _ (four_more _ _ _ _ _ _ _ _ _ c.in_ok-kind.ensures c.in_ok-source.ensures c.in_ok-offset.ensures c.in_ok-first_limit.ensures)
    (number_alone c.in_ok-first_limit.rest.now c.in_ok-instance_limit.instance_limit c.in_ok-instance_limit.ensures)
