use Rattle.std.proofs.Common.{◌≡◌, ◌+◌, ◌≤◌, drop, eqb, length, refl, sym, ap, ◌∙◌, subst, arith, rules, tests, unwrap_or}
use Rattle.std.proofs.lemmas.Bool.Decides.{Decides-eqb, nat_tests}
use Rattle.std.proofs.lemmas.Iterator.Consumers.{YieldsList-turn, YieldsList-end}
use Rattle.std.proofs.lemmas.Iterator.Splits.{YieldsList-from_slice_split}
use Rattle.std.proofs.lemmas.List.{drop_all, length_push}
use Rattle.std.proofs.lemmas.Result.{err_from_is_err_and}
use Rattle.std.proofs.lemmas.Slice.Eq.{strip_suffix_is}
use Rattle.std.specs.Slice.Iter.{split_rest}
use Rattle.page.specs.Parsers.{remaining}
use Rattle.page.specs.Texts.{lines_of}
use Rattle.page.specs.Sheets.{Reads, read_lines, read_page}
use Rattle.page.proofs.Lining.{few_pieces, next_piece, pieces, read_pieces}
use Rattle.page.proofs.Reading.{read_end, stopped}
use Rattle.page.proofs.read.read.Goals as goal

pub loop-line-init : goal.loop-line-init
loop-line-init c =
    let text = c.args.text in
    let e : split_rest c.into_iter-line-iterator.result ≡ (unwrap_or c.strip_suffix.result text).now = cc in
    record {
      same = c.new-parser.ensures.same _ ∙ ap (λ bs. read_lines (pieces bs)) e ∙ read_pieces text.now c.strip_suffix.result text refl (strip_suffix_is Decides-eqb text.now _ _ c.strip_suffix.ensures.cases);
      counts = c.new-parser.ensures.first;
    }

pub take_line-requires : goal.take_line-requires
take_line-requires c =
    let it = c.into_iter-line-iterator.result in
    let e : (unwrap_or c.strip_suffix.result c.args.text).now ≡ split_rest it = cc in
    let few : length (pieces (split_rest it)) ≤ length c.args.text.now + 1 = subst (λ bs. length (pieces bs) ≤ length c.args.text.now + 1) e (few_pieces c.args.text.now c.strip_suffix.result c.args.text refl (strip_suffix_is Decides-eqb c.args.text.now _ _ c.strip_suffix.ensures.cases)) in
    let road = YieldsList-from_slice_split _ (λ b. eqb b 10) (split_rest it) refl (cc) (cc) (λ x r q k. search (rules, tests)) in
    let turn = YieldsList-turn road c.loop-line.yielded _ c.loop-line.yielded_by _ _ c.in-Some.line c.in-Some.is c.next.ensures.steps in
    omega (arith, turn.0, few, c.loop-line.invariant.counts)

pub loop-line-preserved : goal.loop-line-preserved
loop-line-preserved c =
    let it = c.into_iter-line-iterator.result in
    let road = YieldsList-from_slice_split _ (λ b. eqb b 10) (split_rest it) refl (cc) (cc) (λ x r q k. search (rules, tests)) in
    let turn = YieldsList-turn road c.loop-line.yielded _ c.loop-line.yielded_by _ _ c.in-Some.line c.in-Some.is c.next.ensures.steps in
    let n = length c.loop-line.yielded in
    rw (length_push c.loop-line.yielded c.in-Some.line)
    record {
      same = sym (c.in_ok-take_line.ensures.0 (drop (n + 1) (pieces (split_rest it)))) ∙ ap (λ ls. remaining ls c.loop-line.parser) (sym (next_piece (pieces (split_rest it)) n c.in-Some.line.now turn)) ∙ c.loop-line.invariant.same;
      counts = c.in_ok-take_line.ensures.1 ∙ ap (λ m. m + 1) c.loop-line.invariant.counts;
    }

pub returns-in_err-take_line : goal.returns-in_err-take_line
returns-in_err-take_line c =
    let short : read_page c.args.text.now ≡ read_lines (lines_of c.args.text.now) = grind (arith, nat_tests) in
    let it = c.into_iter-line-iterator.result in
    let road = YieldsList-from_slice_split _ (λ b. eqb b 10) (split_rest it) refl (cc) (cc) (λ x r q k. search (rules, tests)) in
    let turn = YieldsList-turn road c.loop-line.yielded _ c.loop-line.yielded_by _ _ c.in-Some.line c.in-Some.is c.next.ensures.steps in
    let n = length c.loop-line.yielded in
    let exit = err_from_is_err_and c.from_residual.result c.from_residual.ensures.1 in
    rw (exit.1, exit.2, short)
    record { answer = stopped c.in-Some.line.now (drop (n + 1) (pieces (split_rest it))) c.in_err-take_line.field-0.0 c.loop-line.parser c.take_line.new.self _ c.in_err-take_line.ensures (ap (λ ls. remaining ls c.loop-line.parser) (sym (next_piece (pieces (split_rest it)) n c.in-Some.line.now turn)) ∙ c.loop-line.invariant.same) }

pub returns : goal.returns
returns c =
    let short : read_page c.args.text.now ≡ read_lines (lines_of c.args.text.now) = grind (arith, nat_tests) in
    let it = c.into_iter-line-iterator.result in
    let road = YieldsList-from_slice_split _ (λ b. eqb b 10) (split_rest it) refl (cc) (cc) (λ x r q k. search (rules, tests)) in
    let end = YieldsList-end road c.loop-line.yielded _ c.loop-line.yielded_by _ _ c.in-None.is c.next.ensures.steps in
    let n = length c.loop-line.yielded in
    let p = c.loop-line.parser in
    let same = sym (read_end p) ∙ ap (λ ls. remaining ls p) (sym (drop_all n (pieces (split_rest it)) (omega (arith, end.1)))) ∙ c.loop-line.invariant.same ∙ sym short in
    record { answer = subst (Reads c.finish.result) same c.finish.ensures }
