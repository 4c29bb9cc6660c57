-- the text of a sheet: each of its lines in order, with decimal numbers, and a newline after each
use Rattle.std.specs.Prelude.{ℕ, List, [], ◌∷◌, ◌++◌, map, codes, decimal}
use Rattle.page.specs.declared.line.DrawLine.{DrawLine}
use Rattle.page.specs.declared.line.Line.{Line}
use Rattle.page.specs.declared.line.Line.TheVariants.{Align, Binding, Source, Draw}
use Rattle.page.specs.Sheets.{Sheet}

-- five numbers with a comma between each two
abbrev pub draw_text : DrawLine → List ℕ
draw_text d = decimal d.kind ++ (44 ∷ (decimal d.source ++ (44 ∷ (decimal d.offset ++ (44 ∷ (decimal d.first_limit ++ (44 ∷ decimal d.instance_limit)))))))

abbrev pub line_text : Line → List ℕ
line_text (Align n) = codes "align=" ++ decimal n
line_text (Binding n) = codes "binding=" ++ decimal n
line_text (Source n) = codes "source=" ++ decimal n
line_text (Draw d) = codes "draw=" ++ draw_text d

unfoldable pub lines_text : List Line → List ℕ
lines_text [] = []
lines_text (x ∷ xs) = line_text x ++ (10 ∷ lines_text xs)

-- the lines of a sheet
abbrev pub sheet_lines : Sheet → List Line
sheet_lines p = Align p.align ∷ Binding p.binding ∷ (map Source p.sources ++ map Draw p.draws)

abbrev pub written : Sheet → List ℕ
written p = lines_text (sheet_lines p)
