-- what the lines that follow make of a page so far, and what one step of the parser keeps
use Rattle.std.specs.Prelude.{◌≡◌, ℕ, ◌+◌, List, ◌∷◌, map, Ok, Err, Result}
use Rattle.page.specs.declared.parser.Parser.{Parser}
use Rattle.page.specs.declared.read.ReadError.{ReadError}
use Rattle.page.specs.declared.read.ReadError.TheVariants.{Bad, Memory, TooLong}
use Rattle.page.specs.Lines.{line_of}
use Rattle.page.specs.Sheets.{Parsed, bad, read_lines, read_on, sheet_of}

-- what more lines make of the page so far
abbrev pub remaining : List (List ℕ) → Parser → Parsed
remaining ls p = read_on (map line_of ls) p.stage p.number (sheet_of p.page)

pub record Started (p : Parser) : Type 0 where
  pub same : (ls : List (List ℕ)) → remaining ls p ≡ read_lines ls
  pub first : p.number ≡ 1

-- the line l was read, and any lines after it make the same; or it is the bad one
abbrev pub Took : List ℕ → Result (Unit {0}) ReadError → Parser → Parser → Type 0
Took l (Ok u) p q = ((ls : List (List ℕ)) → remaining (l ∷ ls) p ≡ remaining ls q) × (q.number ≡ p.number + 1)
Took l (Err (Bad n)) p q = ((ls : List (List ℕ)) → remaining (l ∷ ls) p ≡ bad n) × (n ≡ p.number)
Took l (Err TooLong) p q = ⊥
Took l (Err (Memory _)) p q = Unit {0}
