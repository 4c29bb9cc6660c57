-- parts of a text: its lines, the fields of a line between commas, and what follows a word
use Rattle.std.specs.Prelude.{◌≡◌, ℕ, false, cond, List, [], ◌∷◌, Some, None, Option, ◌==◌}
use Rattle.std.specs.List.{AllByRecursion, onto_first, slice_split}

-- the text has no byte b
abbrev pub Free : ℕ → List ℕ → Type 0
Free b bs = AllByRecursion (λ c. (c == b) ≡ false) bs

-- a newline, 10, ends a line, and the last line needs none
unfoldable pub lines_of : List ℕ → List (List ℕ)
lines_of [] = []
lines_of (c ∷ cs) = cond (c == 10) ([] ∷ lines_of cs) (onto_first c (lines_of cs))

-- a comma, 44, stands between two fields
abbrev pub fields_of : List ℕ → List (List ℕ)
fields_of bs = slice_split (λ c. c == 44) bs

-- what follows a word that a text begins with
unfoldable pub after_word : List ℕ → List ℕ → Option (List ℕ)
after_word [] bs = Some bs
after_word (w ∷ ws) [] = None
after_word (w ∷ ws) (b ∷ bs) = cond (b == w) (after_word ws bs) None
