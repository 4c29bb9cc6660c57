use Rattle.std.proofs.Common.{◌∷◌, ◌++◌, map, take}
use Rattle.std.specs.Fmt.{HasWritten, IsPlainFormatter}
use Rattle.page.specs.declared.line.Line.TheVariants.{Align, Binding, Source, Draw}
use Rattle.page.specs.Written.{lines_text}
use Rattle.page.proofs.page.PageDisplay.fmt.Given as goal

abbrev pub invariant-loop-size : goal.invariant-loop-size
invariant-loop-size g l = IsPlainFormatter l.fn.f → HasWritten g.W.Write.write_str_gives l.fn.f (lines_text (Align l.self.align ∷ Binding l.self.binding ∷ map Source (take l.size-index l.self.sources.items))) l.f

abbrev pub invariant-loop-draw : goal.invariant-loop-draw
invariant-loop-draw g l = IsPlainFormatter l.fn.f → HasWritten g.W.Write.write_str_gives l.fn.f (lines_text (Align l.self.align ∷ Binding l.self.binding ∷ (map Source l.self.sources.items ++ map Draw (take l.draw-index l.self.draws.items)))) l.f
