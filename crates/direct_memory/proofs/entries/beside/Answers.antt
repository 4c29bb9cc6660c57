use Rattle.std.proofs.Common.{◌-◌, ◌++◌, ◌∙◌, length, sym, arith}
use Rattle.direct_memory.proofs.Wording.{part-append_left, part-append_right}
use Rattle.direct_memory.proofs.entries.beside.Goals as goal

pub returns-then-region-end : goal.returns-then-region-end
returns-then-region-end c middle e =
    let g = c.args.region in
    c.of.ensures ∙ sym (part-append_left g.start g.size c.args.below.now (middle ++ c.args.above.now) (c.requires.before c.if-region-end.true))

pub returns : goal.returns
returns c middle e =
    let g = c.args.region in
    let below = c.args.below.now in
    let above = c.args.above.now in
    c.of-2.ensures
    ∙ sym (part-append_right g.start g.size (g.start - length below) below (middle ++ above) (omega arith)
    ∙ part-append_right (g.start - length below) g.size (g.start - c.args.end) middle above (omega arith))
