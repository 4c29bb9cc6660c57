-- one line read, and the lines of a text
use Rattle.std.proofs.Common.{◌≡◌, ℕ, ◌+◌, List, [], ◌∷◌, map, Some, None, Err, refl, sym, ◌∙◌, arith}
use Rattle.page.specs.declared.line.Line.{Line}
use Rattle.page.specs.declared.stage.Stage.{Stage}
use Rattle.page.specs.declared.parser.Parser.{Parser}
use Rattle.page.specs.declared.read.ReadError.{ReadError}
use Rattle.page.specs.declared.read.ReadError.TheVariants.{Bad, Memory, TooLong}
use Rattle.page.specs.Lines.{line_of}
use Rattle.page.specs.Parsers.{Took, remaining}
use Rattle.page.specs.Stages.{next_of}
use Rattle.page.specs.Sheets.{Parsed, Reads, Sheet, bad, ended_at, read_on, added, sheet_of}

module _ (l : List ℕ) (ls : List (List ℕ)) (s : Stage) (n : ℕ) (p : Sheet) where
  pub read_unread : line_of l ≡ None → read_on (map line_of (l ∷ ls)) s n p ≡ bad n
  unfolding read_on
  read_unread e = rw e

  pub read_astray : (x : Line) → line_of l ≡ Some x → next_of s x ≡ None → read_on (map line_of (l ∷ ls)) s n p ≡ bad n
  unfolding read_on
  read_astray x e f = rw (e, read_on, f)

  pub read_more : (x : Line) (t : Stage) → line_of l ≡ Some x → next_of s x ≡ Some t → read_on (map line_of (l ∷ ls)) s n p ≡ read_on (map line_of ls) t (n + 1) (added p x)
  unfolding read_on
  read_more x t e f = rw (e, read_on, f)

-- the reader stops at a bad line
pub stopped : (l : List ℕ) (ls : List (List ℕ)) (e : ReadError) (p q : Parser) (r : Parsed) → Took l (Err e) p q → remaining (l ∷ ls) p ≡ r → Reads (Err e) r
stopped l ls (Bad n) p q r h e = (sym e ∙ h.0 ls, omega (arith, h.1, p.from_one))
stopped l ls TooLong p q r h e = absurd h
stopped l ls (Memory _) p q r h e = tt

pub read_end : (p : Parser) → remaining [] p ≡ ended_at p.stage p.number (sheet_of p.page)
unfolding read_on
read_end p = refl
