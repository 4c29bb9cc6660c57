use Rattle.std.proofs.Common.{string_bytes, sym, ◌∙◌}
use Rattle.sheet.proofs.Printing.{batches_more, batches_all}
use Rattle.sheet.proofs.print.put_batches.Goals as goal

pub loop-number-preserved : goal.loop-number-preserved
loop-number-preserved c =
    let e = batches_more (string_bytes c.loop-number.out) c.args.draws.now c.args.batches.now c.loop-number.number c.loop-number-test.true in
    cc (e, c.in_ok-put.ensures, c.in_ok-put_entries.ensures, c.loop-number.invariant)

pub returns : goal.returns
returns c = sym (batches_all (string_bytes c.loop-number.out) c.args.draws.now c.args.batches.now c.loop-number.number c.loop-number-test.false) ∙ c.loop-number.invariant
