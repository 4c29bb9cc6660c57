-- the sheets that the format can say
use Rattle.std.specs.Prelude.{◌^◌, ◌<◌, ◌≤◌, length}
use Rattle.std.specs.List.{AllByRecursion}
use Rattle.page.specs.declared.line.Line.{Line}
use Rattle.page.specs.declared.line.Line.TheVariants.{Align, Binding, Source, Draw}
use Rattle.page.specs.Sheets.{Sheet}
use Rattle.page.specs.Written.{sheet_lines}

-- the numbers of a line are ones that a sheet can have
abbrev pub LineFits : Line → Type 0
LineFits (Align n) = n < 2 ^ 64
LineFits (Binding n) = n < 2 ^ 64
LineFits (Source n) = n ≤ 4294967295
LineFits (Draw d) = (d.kind < 2 ^ 64) × (d.source < 2 ^ 64) × (d.offset < 2 ^ 64) × (d.first_limit < 2 ^ 64) × (d.instance_limit < 2 ^ 64)

-- a sheet that the format can say
pub record Fits (p : Sheet) : Type 0 where
  pub numbers : AllByRecursion LineFits (sheet_lines p)
  pub some : 0 < length p.sources
  pub most : length p.sources ≤ 64
