-- the order of lines: an alignment, a binding, 1 to 64 sources, draws
use Rattle.std.specs.Prelude.{ℕ, ◌+◌, Bool, true, false, cond, Some, None, Option, nat_lt}
use Rattle.page.specs.declared.line.Line.{Line}
use Rattle.page.specs.declared.line.Line.TheVariants.{Align, Binding, Source, Draw}
use Rattle.page.specs.declared.stage.Stage.{Stage}
use Rattle.page.specs.declared.stage.Stage.TheVariants.{Start, Aligned, Sources, Draws}

-- after n sources another may come while there are fewer than 64, and a draw once there is one
abbrev pub source_after : ℕ → Option Stage
source_after n = cond (nat_lt n 64) (Some (Sources (n + 1))) None

abbrev pub draw_after : ℕ → Option Stage
draw_after n = cond (nat_lt 0 n) (Some Draws) None

-- the stage after a line, if that line may come next
abbrev pub next_of : Stage → Line → Option Stage
next_of Start (Align a) = Some Aligned
next_of Start (Binding b) = None
next_of Start (Source s) = None
next_of Start (Draw d) = None
next_of Aligned (Align a) = None
next_of Aligned (Binding b) = Some (Sources 0)
next_of Aligned (Source s) = None
next_of Aligned (Draw d) = None
next_of (Sources n) (Align a) = None
next_of (Sources n) (Binding b) = None
next_of (Sources n) (Source s) = source_after n
next_of (Sources n) (Draw d) = draw_after n
next_of Draws (Align a) = None
next_of Draws (Binding b) = None
next_of Draws (Source s) = None
next_of Draws (Draw d) = Some Draws

abbrev pub may_end : Stage → Bool
may_end Start = false
may_end Aligned = false
may_end (Sources n) = nat_lt 0 n
may_end Draws = true
