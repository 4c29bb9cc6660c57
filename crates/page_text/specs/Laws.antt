-- what reading and writing have to do with each other, and why a line is bad
use Rattle.std.specs.Prelude.{◌≡◌, ℕ, ◌+◌, ◌<◌, ◌≤◌, Bool, false, cond, not, ◌&&◌, ◌⊎◌, List, [], ◌∷◌, ◌++◌, map, length, take, Some, ◌==◌}
use Rattle.page.specs.declared.read.ReadError.{ReadError}
use Rattle.page.specs.declared.read.ReadError.TheVariants.{Bad, Memory, TooLong}
use Rattle.page.specs.Numbers.{is_digit}
use Rattle.page.specs.Texts.{lines_of}
use Rattle.page.specs.Lines.{line_of}
use Rattle.page.specs.Sheets.{Sheet, good, read_page}
use Rattle.page.specs.Written.{sheet_lines, written}
use Rattle.page_text.specs.Written.{Fits}

-- a text of at most 65,536 bytes is read as the sheet, where the format can say that sheet
abbrev pub ReadsBack : List ℕ → Sheet → Type 0
ReadsBack text p = Fits p → length text ≤ 65536 → read_page text ≡ good p

abbrev pub starts_digit : List ℕ → Bool
starts_digit [] = false
starts_digit (c ∷ cs) = is_digit c

-- a text without zeros that lead a number; `inside` says that a digit of the number stands before
unfoldable pub bare : Bool → List ℕ → List ℕ
bare inside [] = []
bare inside (c ∷ cs) = cond (not inside && (c == 48 && starts_digit cs)) (bare false cs) (c ∷ bare (is_digit c) cs)

abbrev pub unpadded : List ℕ → List ℕ
unpadded text = bare false text

-- a text that is read as a sheet has the lines of that sheet and no others, and is the sheet as it is written but
-- for leading zeros and a last newline; without the zeros, and written again, it is read as the same sheet
pub record Spells (text : List ℕ) (p : Sheet) : Type 0 where
  pub fits : Fits p
  pub lines : map line_of (lines_of text) ≡ map Some (sheet_lines p)
  pub same : (unpadded text ≡ written p) ⊎ (unpadded text ++ (10 ∷ []) ≡ written p)
  pub plain : read_page (unpadded text) ≡ good p
  pub size : length (written p) ≤ length text + 1
  pub again : length (written p) ≤ 65536 → read_page (written p) ≡ good p

-- some text that is read as a sheet has the same first k lines
abbrev pub Begins : ℕ → List ℕ → Type 0
Begins k text = (t : List ℕ) × (p : Sheet) × (read_page t ≡ good p) × (take k (lines_of t) ≡ take k (lines_of text))

-- line n is the first at which no sheet can go on: it stands in the text, or is the one after its last line;
-- a text that is too long is bad at line 0
pub record FirstBad (text : List ℕ) (n : ℕ) : Type 0 where
  pub long : n ≡ 0 → 65536 < length text
  pub within : n ≤ length (lines_of text) + 1
  pub before : (k : ℕ) → k < n → Begins k text
  pub here : 0 < n → n ≤ length (lines_of text) → Begins n text → ⊥

-- what the number of a bad line says
abbrev pub Says : ReadError → List ℕ → Type 0
Says (Bad n) text = FirstBad text n
Says TooLong text = FirstBad text 0
Says (Memory _) text = Unit {0}
