-- what is written of a sheet is read back
use Rattle.std.proofs.Common.{◌≡◌, ℕ, ◌^◌, ◌<◌, ◌≤◌, true, cond, leb, List, [], ◌∷◌, ◌++◌, map, length, Some, None, codes, decimal, Option, sym, refl, ap, ◌∙◌, append_assoc, arith, lit<, rules}
use Rattle.std.proofs.ByRecursion.{All-append}
use Rattle.std.specs.List.{AllByRecursion}
use Rattle.std.proofs.lemmas.Str.Parse.{IsNumeralModel, FoldsDigits, IsDigitsTest, numerals_by_fold}
use Rattle.std.proofs.lemmas.Fmt.{digits_decimal, digits_value-decimal, length-decimal-le, decimal_nonempty}
use Rattle.std.proofs.lemmas.Bool.{cond-true, le-leb}
use Rattle.std.proofs.lemmas.Bool.Decides.{nat_tests}
use Rattle.page.specs.declared.line.DrawLine.{DrawLine}
use Rattle.page.specs.declared.line.Line.{Line}
use Rattle.page.specs.declared.line.Line.TheVariants.{Align, Binding, Source, Draw}
use Rattle.page.specs.Numbers.{digits_only, value_after, number_of}
use Rattle.page.specs.Texts.{Free, after_word, lines_of}
use Rattle.page.specs.Lines.{and_then, before, numbers_of, draw_of, line_of}
use Rattle.page.specs.Written.{line_text, lines_text}
use Rattle.page_text.specs.Written.{LineFits}
use Rattle.page.proofs.Fields.{digits_free, number_alone, numbers_more}
use Rattle.page_text.proofs.Ending.{lines_last, lines_more}

tells_own : IsDigitsTest (λ ds. digits_only ds ≡ true)
unfolding digits_only
tells_own = search rules

folds_own : FoldsDigits value_after
unfolding value_after
folds_own = search rules

-- digits and their value, in the library's words
pub own : IsNumeralModel (λ ds. digits_only ds ≡ true) (value_after 0)
own = numerals_by_fold (λ ds. digits_only ds ≡ true) tells_own value_after folds_own

some_number : (bs : List ℕ) (v : ℕ) → digits_only bs ≡ true → v ≡ value_after 0 bs → 0 < length bs → length bs ≤ 20 → v < 2 ^ 64 → Some v ≡ number_of bs
some_number bs v d e p q s = grind (arith, nat_tests)

pub number_decimal : (n : ℕ) → n < 2 ^ 64 → Some n ≡ number_of (decimal n)
number_decimal n h = some_number (decimal n) n (digits_decimal own n h) (sym (digits_value-decimal own n h)) (decimal_nonempty n h) (length-decimal-le 20 n (lit< tt) (omega arith) h) h

free_decimal : (b : ℕ) → b < 48 → (n : ℕ) → n < 2 ^ 64 → Free b (decimal n)
free_decimal b k n h = digits_free b k (decimal n) (digits_decimal own n h)

free_append : (b : ℕ) (xs ys : List ℕ) → Free b xs → Free b ys → Free b (xs ++ ys)
free_append b xs ys f g = All-append _ xs ys f g

one_more : (n : ℕ) → n < 2 ^ 64 → (rest : List ℕ) → numbers_of (decimal n ++ (44 ∷ rest)) ≡ before n (numbers_of rest)
one_more n h rest = numbers_more (decimal n ++ (44 ∷ rest)) (decimal n) rest (Some n) (free_decimal 44 (omega arith) n h) refl (number_decimal n h)

draw_numbers : (d : DrawLine) → LineFits (Draw d) → numbers_of (decimal d.kind ++ (44 ∷ (decimal d.source ++ (44 ∷ (decimal d.offset ++ (44 ∷ (decimal d.first_limit ++ (44 ∷ decimal d.instance_limit)))))))) ≡ Some (d.kind ∷ d.source ∷ d.offset ∷ d.first_limit ∷ d.instance_limit ∷ [])
draw_numbers d (hk, hs, ho, hf, hi) =
    one_more d.kind hk _ ∙ ap (before d.kind) (one_more d.source hs _ ∙ ap (before d.source) (one_more d.offset ho _ ∙ ap (before d.offset) (one_more d.first_limit hf _
    ∙ ap (before d.first_limit) (number_alone (decimal d.instance_limit) d.instance_limit (number_decimal d.instance_limit hi)))))

-- a line that is written is read as that line
pub line_text_lem : (x : Line) → LineFits x → line_of (line_text x) ≡ Some x
unfolding after_word
line_text_lem (Align n) h = ap (λ (o : Option ℕ). and_then o (λ v. Some (Align v))) (sym (number_decimal n h))
line_text_lem (Binding n) h = ap (λ (o : Option ℕ). and_then o (λ v. Some (Binding v))) (sym (number_decimal n h))
line_text_lem (Source n) h =
    let k : n < 2 ^ 64 = omega arith in
    ap (λ (o : Option ℕ). and_then (and_then o (λ v. cond (leb v 4294967295) (Some v) None)) (λ v. Some (Source v))) (sym (number_decimal n k))
    ∙ ap (λ (o : Option ℕ). and_then o (λ v. Some (Source v))) (cond-true (leb n 4294967295) (Some n) None (le-leb n 4294967295 h))
line_text_lem (Draw d) h = ap (λ (o : Option (List ℕ)). and_then (and_then o draw_of) (λ v. Some (Draw v))) (draw_numbers d h)

-- no newline in it
pub free_text : (x : Line) → LineFits x → Free 10 (line_text x)
free_text (Align n) h = free_append 10 (codes "align=") (decimal n) (refl, (refl, (refl, (refl, (refl, (refl, tt)))))) (free_decimal 10 (omega arith) n h)
free_text (Binding n) h = free_append 10 (codes "binding=") (decimal n) (refl, (refl, (refl, (refl, (refl, (refl, (refl, (refl, tt)))))))) (free_decimal 10 (omega arith) n h)
free_text (Source n) h = free_append 10 (codes "source=") (decimal n) (refl, (refl, (refl, (refl, (refl, (refl, (refl, tt))))))) (free_decimal 10 (omega arith) n (omega arith))
free_text (Draw d) (hk, hs, ho, hf, hi) =
    free_append 10 (codes "draw=") _ (refl, (refl, (refl, (refl, (refl, tt)))))
    (free_append 10 (decimal d.kind) _ (ten d.kind hk) (
      refl,
      free_append 10 (decimal d.source) _ (ten d.source hs) (
        refl,
        free_append 10 (decimal d.offset) _ (ten d.offset ho) (
          refl,
          free_append 10 (decimal d.first_limit) _ (ten d.first_limit hf)
              (refl, ten d.instance_limit hi),
        ),
      ),
    ))
  where
    ten : (n : ℕ) → n < 2 ^ 64 → Free 10 (decimal n)
    ten n h = free_decimal 10 (omega arith) n h

pub lines_text_lem : (xs : List Line) → AllByRecursion LineFits xs → lines_of (lines_text xs) ≡ map line_text xs
unfolding lines_text lines_of
lines_text_lem [] h = refl
lines_text_lem (x ∷ xs) h = lines_more (line_text x) (lines_text xs) (free_text x h.0) ∙ ap (λ (ls : List (List ℕ)). line_text x ∷ ls) (lines_text_lem xs h.1)

pub map_text : (xs : List Line) → AllByRecursion LineFits xs → map line_of (map line_text xs) ≡ map Some xs
map_text [] h = refl
map_text (x ∷ xs) h = ap (λ (o : Option Line). o ∷ map line_of (map line_text xs)) (line_text_lem x h.0) ∙ ap (λ (ls : List (Option Line)). Some x ∷ ls) (map_text xs h.1)

-- lines without the last newline
unfoldable pub shorn : Line → List Line → List ℕ
shorn x [] = line_text x
shorn x (y ∷ ys) = line_text x ++ (10 ∷ shorn y ys)

pub shorn_ended : (x : Line) (xs : List Line) → shorn x xs ++ (10 ∷ []) ≡ lines_text (x ∷ xs)
unfolding shorn lines_text
shorn_ended x [] = refl
shorn_ended x (y ∷ ys) = append_assoc (line_text x) (10 ∷ shorn y ys) (10 ∷ []) ∙ ap (λ (l : List ℕ). line_text x ++ (10 ∷ l)) (shorn_ended y ys)

text_some : (x : Line) → 0 < length (line_text x)
text_some (Align n) = omega arith
text_some (Binding n) = omega arith
text_some (Source n) = omega arith
text_some (Draw d) = omega arith

pub lines_shorn : (x : Line) (xs : List Line) → AllByRecursion LineFits (x ∷ xs) → lines_of (shorn x xs) ≡ map line_text (x ∷ xs)
unfolding shorn lines_of
lines_shorn x [] h = lines_last (line_text x) (text_some x) (free_text x h.0)
lines_shorn x (y ∷ ys) h = lines_more (line_text x) (shorn y ys) (free_text x h.0) ∙ ap (λ (ls : List (List ℕ)). line_text x ∷ ls) (lines_shorn y ys h.1)
