use Rattle.std.proofs.Common.{◌++◌, string_bytes, ap, ◌∙◌, arith}
use Rattle.batcher.specs.Judged.{frame_terms}
use Rattle.page.specs.declared.line.DrawLine.{DrawLine}
use Rattle.sheet.specs.Printed.{line_text, newline}
use Rattle.sheet.specs.View.{recording_of}
use Rattle.sheet.specs.declared.print.AnswerLine.{AnswerLine}
use Rattle.std.proofs.lemmas.Grind.{common_steps}
use Rattle.sheet.proofs.Printing.{answers_all, answers_more, recorded_all_lem, recorded_more}
use Rattle.sheet.proofs.answer.put_draws.Goals as goal

abbrev no_line : DrawLine
no_line = record { kind = 0; source = 0; offset = 0; first_limit = 0; instance_limit = 0 }

pub loop-line-preserved : goal.loop-line-preserved
loop-line-preserved c =
    let t = frame_terms c.args.frame.now.terms in
    let ss = c.args.sources.now in
    let f = recording_of c.loop-line.frame c.loop-line.tables in
    let g = recording_of c.record-answer.new.self c.record-answer.new.tables in
    let ls = c.args.lines.now in
    let i = c.loop-line.line-index in
    let r = c.record-answer.result in
    let k = c.loop-line.invariant in
    let answer = rw k.terms at c.record-answer.ensures.answer in
    let after = rw k.terms at c.record-answer.ensures.after in
    let said = c.in_ok-put.ensures ∙ ap (λ (l : AnswerLine). string_bytes c.loop-line.out ++ (line_text l ++ newline)) c.from.ensures in
    record {
      text = answers_more t ss f ls i no_line r g c.loop-line-test.true answer after _ _ said ∙ k.text;
      after = recorded_more t ss f ls i no_line r g c.loop-line-test.true answer after ∙ k.after;
      terms = c.record-answer.ensures.terms ∙ k.terms;
    }

pub returns-clause-text : goal.returns-clause-text
returns-clause-text c = grind (arith, common_steps, answers_all)

pub returns-clause-after : goal.returns-clause-after
returns-clause-after c = grind (arith, common_steps, recorded_all_lem)
