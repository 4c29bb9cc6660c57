use Rattle.std.proofs.Common.{[], ◌∷◌, map, rules}
use Rattle.std.proofs.Output.{has_written_append, has_written_of_eq}
use Rattle.page.specs.declared.line.DrawLine.{DrawLine}
use Rattle.page.specs.declared.line.Line.TheVariants.{Align, Binding, Source, Draw}
use Rattle.page.specs.Written.{lines_text}
use Rattle.page.proofs.Writing.{lines_more}
use Rattle.page.proofs.page.PageDisplay.fmt.Goals as goal

abbrev no_line : DrawLine
no_line = record { kind = 0; source = 0; offset = 0; first_limit = 0; instance_limit = 0 }

pub loop-size-init : goal.loop-size-init
unfolding lines_text
loop-size-init g c = search rules

pub loop-size-preserved : goal.loop-size-preserved
loop-size-preserved g c = λ plain.
    let p = c.args.self.now in
    let i = c.loop-size.size-index in
    has_written_of_eq _ _ _ _ _ (lines_more (Align p.align ∷ Binding p.binding ∷ []) Source p.sources.items _ i 0 c.deref-size-items.ensures.value c.loop-size-test.true) (has_written_append _ _ _ _ _ _ (c.loop-size.invariant plain) (search rules))

pub loop-draw-preserved : goal.loop-draw-preserved
loop-draw-preserved g c = λ plain.
    let p = c.args.self.now in
    let i = c.loop-draw.draw-index in
    has_written_of_eq _ _ _ _ _ (lines_more (Align p.align ∷ Binding p.binding ∷ map Source p.sources.items) Draw p.draws.items _ i no_line c.deref-draw-items.ensures.value c.loop-draw-test.true) (has_written_append _ _ _ _ _ _ (c.loop-draw.invariant plain) (search rules))
