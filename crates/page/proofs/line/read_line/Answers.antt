use Rattle.std.proofs.Common.{rules, codes}
use Rattle.page.specs.Texts.{after_word}
use Rattle.page.proofs.Parts.{word_found, word_missing}
use Rattle.page.proofs.line.read_line.Goals as goal

pub returns-in-Some : goal.returns-in-Some
unfolding after_word
returns-in-Some c = rw (word_found (codes "align=") c.args.text.now c.in-Some.rest c.in-Some.ensures.cases) (search rules)

pub returns-in-Some-strip_prefix : goal.returns-in-Some-strip_prefix
unfolding after_word
returns-in-Some-strip_prefix c =
    let text = c.args.text.now in
    rw (word_missing (codes "align=") text c.in_default.ensures.cases, word_found (codes "binding=") text c.in-Some-strip_prefix.rest c.in-Some-strip_prefix.ensures.cases) (search rules)

pub returns-in-Some-strip_prefix-2 : goal.returns-in-Some-strip_prefix-2
unfolding after_word
returns-in-Some-strip_prefix-2 c =
    let text = c.args.text.now in
    rw (word_missing (codes "align=") text c.in_default.ensures.cases, word_missing (codes "binding=") text c.in_default-strip_prefix.ensures.cases, word_found (codes "source=") text c.in-Some-strip_prefix-2.rest c.in-Some-strip_prefix-2.ensures.cases) (search rules)

pub returns-in_ok-rest : goal.returns-in_ok-rest
unfolding after_word
returns-in_ok-rest c =
    let text = c.args.text.now in
    rw (word_missing (codes "align=") text c.in_default.ensures.cases, word_missing (codes "binding=") text c.in_default-strip_prefix.ensures.cases, word_missing (codes "source=") text c.in_default-strip_prefix-2.ensures.cases, word_found (codes "draw=") text c.in_ok-rest.rest c.in_ok-rest.ensures.cases) (search rules)

pub returns-in_err-rest : goal.returns-in_err-rest
unfolding after_word
returns-in_err-rest c =
    let text = c.args.text.now in
    rw (word_missing (codes "align=") text c.in_default.ensures.cases, word_missing (codes "binding=") text c.in_default-strip_prefix.ensures.cases, word_missing (codes "source=") text c.in_default-strip_prefix-2.ensures.cases, word_missing (codes "draw=") text c.in_err-rest.ensures.cases) (search rules)
