-- the lines of a sheet come in an order that is read
use Rattle.std.proofs.Common.{◌≡◌, ℕ, ◌+◌, ◌<◌, ◌≤◌, ltb, List, [], ◌∷◌, ◌++◌, map, length, Some, None, Option, sym, refl, ap, ◌∙◌, append_assoc, append-nil, arith}
use Rattle.std.proofs.lemmas.Bool.{cond-true, cond-false, lt-ltb, le-ltb}
use Rattle.page.specs.declared.line.DrawLine.{DrawLine}
use Rattle.page.specs.declared.line.Line.{Line}
use Rattle.page.specs.declared.line.Line.TheVariants.{Align, Binding, Source, Draw}
use Rattle.page.specs.declared.stage.Stage.{Stage}
use Rattle.page.specs.declared.stage.Stage.TheVariants.{Start, Aligned, Sources, Draws}
use Rattle.page.specs.Lines.{line_of}
use Rattle.page.specs.Stages.{next_of}
use Rattle.page.specs.Sheets.{Sheet, Parsed, good, bad, read_on, read_page, added, empty}
use Rattle.page.specs.Written.{sheet_lines, written}
use Rattle.page_text.specs.Written.{Fits}
use Rattle.page_text.specs.Laws.{ReadsBack}
use Rattle.page_text.proofs.Returning.{lines_text_lem, map_text}

abbrev sheet : ℕ → ℕ → List ℕ → List DrawLine → Sheet
sheet a b ns ds = record { align = a; binding = b; sources = ns; draws = ds }

-- one line more, where the order lets it in
pub step : (ls : List (Option Line)) (x : Line) (s t : Stage) (n : ℕ) (p : Sheet) → next_of s x ≡ Some t → read_on (Some x ∷ ls) s n p ≡ read_on ls t (n + 1) (added p x)
unfolding read_on
step ls x s t n p e = ap (λ (o : Option Stage). elim o as (λ _. Parsed) [ None ↦ bad n | Some u ↦ read_on ls u (n + 1) (added p x) ]) e

read_draws : (ds : List DrawLine) (n a b : ℕ) (ns : List ℕ) (pre : List DrawLine) → read_on (map Some (map Draw ds)) Draws n (sheet a b ns pre) ≡ good (sheet a b ns (pre ++ ds))
unfolding read_on
read_draws [] n a b ns pre = ap (λ (l : List DrawLine). good (sheet a b ns l)) (sym (append-nil pre))
read_draws (d ∷ ds) n a b ns pre =
    step (map Some (map Draw ds)) (Draw d) Draws Draws n (sheet a b ns pre) refl
    ∙ read_draws ds (n + 1) a b ns (pre ++ (d ∷ [])) ∙ ap (λ (l : List DrawLine). good (sheet a b ns l)) (append_assoc pre (d ∷ []) ds)

read_first_draw : (ds : List DrawLine) (n k a b : ℕ) (ns : List ℕ) → 0 < k → read_on (map Some (map Draw ds)) (Sources k) n (sheet a b ns []) ≡ good (sheet a b ns ds)
unfolding read_on
read_first_draw [] n k a b ns h = cond-true (ltb 0 k) _ _ (lt-ltb 0 k h)
read_first_draw (d ∷ ds) n k a b ns h =
    step (map Some (map Draw ds)) (Draw d) (Sources k) Draws n (sheet a b ns []) (cond-true (ltb 0 k) (Some Draws) None (lt-ltb 0 k h))
    ∙ read_draws ds (n + 1) a b ns (d ∷ [])

read_sources : (ns : List ℕ) (ds : List DrawLine) (n k a b : ℕ) (pre : List ℕ) → k + length ns ≤ 64 → 0 < k + length ns → read_on (map Some (map Source ns ++ map Draw ds)) (Sources k) n (sheet a b pre []) ≡ good (sheet a b (pre ++ ns) ds)
read_sources [] ds n k a b pre h g =
    ap (λ (l : List ℕ). read_on (map Some (map Draw ds)) (Sources k) n (sheet a b l [])) (sym (append-nil pre)) ∙ read_first_draw ds n k a b (pre ++ []) (omega arith)
read_sources (x ∷ ns) ds n k a b pre h g =
    step (map Some (map Source ns ++ map Draw ds)) (Source x) (Sources k) (Sources (k + 1)) n (sheet a b pre []) (cond-true (ltb k 64) (Some (Sources (k + 1))) None (lt-ltb k 64 (omega arith)))
    ∙ read_sources ns ds (n + 1) (k + 1) a b (pre ++ (x ∷ [])) (omega arith) (omega arith) ∙ ap (λ (l : List ℕ). good (sheet a b l ds)) (append_assoc pre (x ∷ []) ns)

pub read_sheet : (p : Sheet) → 0 < length p.sources → length p.sources ≤ 64 → read_on (map Some (sheet_lines p)) Start 1 empty ≡ good p
read_sheet p g h =
    let ls : List Line = map Source p.sources ++ map Draw p.draws in
    step (Some (Binding p.binding) ∷ map Some ls) (Align p.align) Start Aligned 1 empty refl
    ∙ step (map Some ls) (Binding p.binding) Aligned (Sources 0) 2 (sheet p.align 0 [] []) refl
    ∙ read_sources p.sources p.draws 3 0 p.align p.binding [] (omega arith) (omega arith)

-- what is written of a sheet is read back
pub read_written : (p : Sheet) → Fits p → length (written p) ≤ 65536 → read_page (written p) ≡ good p
read_written p f h =
    cond-false (ltb 65536 (length (written p))) _ _ (le-ltb 65536 (length (written p)) h)
    ∙ ap (λ (ls : List (List ℕ)). read_on (map line_of ls) Start 1 empty) (lines_text_lem (sheet_lines p) f.numbers)
    ∙ ap (λ (os : List (Option Line)). read_on os Start 1 empty) (map_text (sheet_lines p) f.numbers)
    ∙ read_sheet p f.some f.most

pub read_back : (bs : List ℕ) (p : Sheet) → bs ≡ written p → ReadsBack bs p
read_back bs p e f h = ap read_page e ∙ read_written p f (rw e at h)
