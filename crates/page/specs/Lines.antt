-- the kinds of lines: a word, and one number or several between commas
use Rattle.std.specs.Prelude.{ℕ, cond, List, [], ◌∷◌, length, Some, None, codes, Option, ◌==◌, nat_le, slice_index}
use Rattle.page.specs.declared.line.DrawLine.{DrawLine}
use Rattle.page.specs.declared.line.Line.{Line}
use Rattle.page.specs.declared.line.Line.TheVariants.{Align, Binding, Source, Draw}
use Rattle.page.specs.Numbers.{number_of}
use Rattle.page.specs.Texts.{fields_of, after_word}

-- f of the value, if there is one
abbrev pub and_then : {A B : Type 0} → Option A → (A → Option B) → Option B
and_then None f = None
and_then (Some x) f = f x

abbrev pub before : ℕ → Option (List ℕ) → Option (List ℕ)
before n o = and_then o (λ ns. Some (n ∷ ns))

-- the numbers that fields are, if each is one
abbrev pub all_numbers : List (List ℕ) → Option (List ℕ)
all_numbers [] = Some []
all_numbers (f ∷ fs) = and_then (number_of f) (λ n. before n (all_numbers fs))

-- numbers with a comma between each two
unfoldable pub numbers_of : List ℕ → Option (List ℕ)
numbers_of bs = all_numbers (fields_of bs)

-- a source of at most 4,294,967,295 bytes
abbrev pub source_of : List ℕ → Option ℕ
source_of bs = and_then (number_of bs) (λ n. cond (nat_le n 4294967295) (Some n) None)

-- five numbers are a draw
abbrev pub draw_of : List ℕ → Option DrawLine
draw_of ns = cond (length ns == 5) (Some (record { kind = slice_index ns 0; source = slice_index ns 1; offset = slice_index ns 2; first_limit = slice_index ns 3; instance_limit = slice_index ns 4 })) None

-- a word that lines begin with, and how the rest of such a line is read
pub record Kind : Type 0 where
  pub word : List ℕ
  pub reads : List ℕ → Option Line

abbrev pub align_kind : Kind
align_kind = record { word = codes "align="; reads = λ bs. and_then (number_of bs) (λ n. Some (Align n)) }

abbrev pub binding_kind : Kind
binding_kind = record { word = codes "binding="; reads = λ bs. and_then (number_of bs) (λ n. Some (Binding n)) }

abbrev pub source_kind : Kind
source_kind = record { word = codes "source="; reads = λ bs. and_then (source_of bs) (λ n. Some (Source n)) }

abbrev pub draw_kind : Kind
draw_kind = record { word = codes "draw="; reads = λ bs. and_then (and_then (numbers_of bs) draw_of) (λ d. Some (Draw d)) }

-- a text is read as the first kind whose word it begins with
abbrev pub line_by : List Kind → List ℕ → Option Line
line_by [] bs = None
line_by (k ∷ ks) bs = elim (after_word k.word bs) [ Some rest ↦ k.reads rest | None ↦ line_by ks bs ]

abbrev pub line_of : List ℕ → Option Line
line_of bs = line_by (align_kind ∷ binding_kind ∷ source_kind ∷ draw_kind ∷ []) bs
