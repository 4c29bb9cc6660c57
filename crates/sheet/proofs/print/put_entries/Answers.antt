use Rattle.std.proofs.Common.{◌≡◌, ◌++◌, List, None, Option, eqb, map, string_bytes, ap, ◌∙◌, rules, tests}
use Rattle.std.proofs.lemmas.Iterator.{YieldsList, YieldsList-from_slice}
use Rattle.std.proofs.lemmas.Iterator.Consumers.{YieldsList-at, YieldsList-end, YieldsList-from_filter}
use Rattle.std.specs.Iterator.{Yields}
use Rattle.std.specs.List.{flat_map}
use Rattle.batcher.specs.declared.records.IndirectDraw.{IndirectDraw}
use Rattle.sheet.specs.Printed.{entry_line, entry_lines}
use Rattle.sheet.proofs.Printing.{lines_push}
use Rattle.sheet.proofs.print.put_entries.Goals as goal

-- all items that a `for` yielded, where it ended
ended : {S A B : Type 0} {steps : S → Option A → S → Type 0} {v : A → B} {s : S} {all : List B} (xs : List A) (t : S) → Yields steps s xs t → (r : Option A) (u : S) → r ≡ None → steps t r u → YieldsList steps v s all → map v xs ≡ all
ended xs t y r u e k road = (YieldsList-end road xs t y r u e k).0

pub loop-draw-preserved : goal.loop-draw-preserved
loop-draw-preserved c =
    let draw = c.in-Some.draw in
    c.in_ok-put.ensures ∙ ap (λ l. l ++ entry_line draw.now.entry) c.loop-draw.invariant ∙ lines_push (λ (d : IndirectDraw). entry_line d.entry) (string_bytes c.args.out.now) c.loop-draw.yielded draw

pub returns : goal.returns
unfolding entry_lines
returns c =
    c.loop-draw.invariant
    ∙ ap (λ ds. string_bytes c.args.out.now ++ flat_map (λ (d : IndirectDraw). entry_line d.entry) ds)
    (ended c.loop-draw.yielded _ c.loop-draw.yielded_by _ _ c.in-None.is c.next.ensures.steps (YieldsList-at c.into_iter-draw-iterator.ensures.into_iter_gives (YieldsList-from_filter _ (λ (d : IndirectDraw). eqb d.batch c.args.number) (YieldsList-at c.filter-draw-items.ensures.source (YieldsList-from_slice c.args.draws.now cc)) c.filter-draw-items.ensures.closure (λ x b q k. search (rules, tests)))))
