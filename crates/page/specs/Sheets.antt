-- the sheet that a text is, or the number of its first bad line
use Rattle.std.specs.Prelude.{◌≡◌, ℕ, ◌+◌, ◌<◌, Bool, cond, List, [], ◌∷◌, ◌++◌, map, length, Some, None, Ok, Err, vec_items, Option, Result, nat_lt}
use Rattle.page.specs.declared.line.DrawLine.{DrawLine}
use Rattle.page.specs.declared.line.Line.{Line}
use Rattle.page.specs.declared.line.Line.TheVariants.{Align, Binding, Source, Draw}
use Rattle.page.specs.declared.page.Page.{Page}
use Rattle.page.specs.declared.read.ReadError.{ReadError}
use Rattle.page.specs.declared.read.ReadError.TheVariants.{Bad, Memory, TooLong}
use Rattle.page.specs.declared.stage.Stage.{Stage}
use Rattle.page.specs.declared.stage.Stage.TheVariants.{Start}
use Rattle.page.specs.Texts.{lines_of}
use Rattle.page.specs.Lines.{line_of}
use Rattle.page.specs.Stages.{next_of, may_end}

pub record Sheet : Type 0 where
  pub align : ℕ
  pub binding : ℕ
  pub sources : List ℕ
  pub draws : List DrawLine

-- what a page holds
abbrev pub sheet_of : Page → Sheet
sheet_of p = record { align = p.align; binding = p.binding; sources = vec_items p.sources; draws = vec_items p.draws }

abbrev pub empty : Sheet
empty = record { align = 0; binding = 0; sources = []; draws = [] }

-- a sheet with what one more line says
abbrev pub added : Sheet → Line → Sheet
added p (Align n) = record { align = n; binding = p.binding; sources = p.sources; draws = p.draws }
added p (Binding n) = record { align = p.align; binding = n; sources = p.sources; draws = p.draws }
added p (Source n) = record { align = p.align; binding = p.binding; sources = p.sources ++ (n ∷ []); draws = p.draws }
added p (Draw d) = record { align = p.align; binding = p.binding; sources = p.sources; draws = p.draws ++ (d ∷ []) }

pub data Parsed : Type 0 where
  good : Sheet → Parsed
  bad : ℕ → Parsed

-- what the end of a text makes of a sheet, where line n would come next
abbrev pub ended_at : Stage → ℕ → Sheet → Parsed
ended_at s n p = cond (may_end s) (good p) (bad n)

-- the lines from line n on, at a stage, after the sheet p
unfoldable pub read_on : List (Option Line) → Stage → ℕ → Sheet → Parsed
read_on [] s n p = ended_at s n p
read_on (None ∷ ls) s n p = bad n
read_on (Some x ∷ ls) s n p = elim (next_of s x) [ None ↦ bad n | Some t ↦ read_on ls t (n + 1) (added p x) ]

abbrev pub read_lines : List (List ℕ) → Parsed
read_lines ls = read_on (map line_of ls) Start 1 empty

abbrev pub too_long : List ℕ → Bool
too_long text = nat_lt 65536 (length text)

-- a text of more than 65,536 bytes is bad at line 0
abbrev pub read_page : List ℕ → Parsed
read_page text = cond (too_long text) (bad 0) (read_lines (lines_of text))

-- what a reader answers where the text is as parsed
abbrev pub Reads : Result Page ReadError → Parsed → Type 0
Reads (Ok p) q = q ≡ good (sheet_of p)
Reads (Err (Bad n)) q = (q ≡ bad n) × (0 < n)
Reads (Err TooLong) q = q ≡ bad 0
Reads (Err (Memory _)) q = Unit {0}
