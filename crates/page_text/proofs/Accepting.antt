-- a text that is read as a sheet has just the lines of that sheet
use Rattle.std.proofs.Common.{◌≡◌, ℕ, suc, ◌+◌, ◌<◌, ◌≤◌, false, cond, eqb, ltb, ◌⊎◌, List, [], ◌∷◌, ◌++◌, map, length, Some, None, Option, sym, refl, ap, ◌∙◌, subst, inl, inr, append_assoc, append-nil, arith, length-append}
use Rattle.std.specs.List.{AllByRecursion}
use Rattle.std.proofs.lemmas.List.{map_push, length_push, append_cancel_right}
use Rattle.std.proofs.lemmas.Bool.{cond-false, cond_both, ltb-true, ltb-false, le-ltb}
use Rattle.page.specs.declared.line.DrawLine.{DrawLine}
use Rattle.page.specs.declared.line.Line.{Line}
use Rattle.page.specs.declared.line.Line.TheVariants.{Align, Binding, Source, Draw}
use Rattle.page.specs.declared.stage.Stage.{Stage}
use Rattle.page.specs.declared.stage.Stage.TheVariants.{Start, Aligned, Sources, Draws}
use Rattle.page.specs.Texts.{lines_of}
use Rattle.std.specs.List.{onto_first}
use Rattle.page.specs.Lines.{line_of}
use Rattle.page.specs.Stages.{next_of, may_end}
use Rattle.page.specs.Sheets.{Sheet, Parsed, good, bad, read_on, read_lines, read_page, added, empty}
use Rattle.page.specs.Written.{line_text, lines_text, sheet_lines, written}
use Rattle.page_text.specs.Written.{LineFits, Fits}
use Rattle.page_text.specs.Laws.{Spells, unpadded}
use Rattle.page_text.proofs.Spelling.{total, spelt, spelt_fits, spelt_size}
use Rattle.page_text.proofs.Ordered.{read_sheet, read_written}
use Rattle.page_text.proofs.Padding.{unpadded_text, bare_shorter}
use Rattle.page_text.proofs.Returning.{lines_text_lem, map_text, shorn, shorn_ended, lines_shorn}

-- the lines that were read before a stage
abbrev so_far : Stage → Sheet → List Line
so_far Start p = []
so_far Aligned p = Align p.align ∷ []
so_far (Sources k) p = Align p.align ∷ Binding p.binding ∷ map Source p.sources
so_far Draws p = sheet_lines p

-- what a sheet has at a stage
abbrev Kept : Stage → Sheet → Type 0
Kept Start p = (p.sources ≡ []) × (p.draws ≡ [])
Kept Aligned p = (p.sources ≡ []) × (p.draws ≡ [])
Kept (Sources k) p = (length p.sources ≡ k) × (k ≤ 64) × (p.draws ≡ [])
Kept Draws p = (0 < length p.sources) × (length p.sources ≤ 64)

abbrev KeptAt : Option Stage → Stage → Sheet → Line → Type 0
KeptAt None s p x = Unit {0}
KeptAt (Some t) s p x = Kept t (added p x) × (so_far t (added p x) ≡ so_far s p ++ (x ∷ []))

keeps : (s : Stage) (x : Line) (p : Sheet) → Kept s p → KeptAt (next_of s x) s p x
keeps Start (Align n) p k = (k, refl)
keeps Start (Binding n) p k = tt
keeps Start (Source n) p k = tt
keeps Start (Draw d) p k = tt
keeps Aligned (Align n) p k = tt
keeps Aligned (Binding n) p k = ((ap length k.0, omega arith, k.1), ap (λ (l : List ℕ). Align p.align ∷ Binding n ∷ map Source l) k.0)
keeps Aligned (Source n) p k = tt
keeps Aligned (Draw d) p k = tt
keeps (Sources c) (Align n) p k = tt
keeps (Sources c) (Binding n) p k = tt
keeps (Sources c) (Source n) p k =
    cond_both (ltb c 64) (Some (Sources (c + 1))) None (λ o. KeptAt o (Sources c) p (Source n))
    (λ t. ((length_push p.sources n ∙ ap (λ (m : ℕ). m + 1) k.0, omega (arith, ltb-true c 64 t), k.2), ap (λ (l : List Line). Align p.align ∷ Binding p.binding ∷ l) (map_push Source p.sources n)))
    (λ _. tt)
keeps (Sources c) (Draw d) p k =
    cond_both (ltb 0 c) (Some Draws) None (λ o. KeptAt o (Sources c) p (Draw d))
    (λ t. ((omega (arith, ltb-true 0 c t, k.0), omega (arith, k.0, k.1)), ap (λ (l : List DrawLine). Align p.align ∷ Binding p.binding ∷ (map Source p.sources ++ map Draw (l ++ (d ∷ [])))) k.2))
    (λ _. tt)
keeps Draws (Align n) p k = tt
keeps Draws (Binding n) p k = tt
keeps Draws (Source n) p k = tt
keeps Draws (Draw d) p k =
    (k, ap (λ (l : List Line). Align p.align ∷ Binding p.binding ∷ l) (ap (λ (l : List Line). map Source p.sources ++ l) (map_push Draw p.draws d) ∙ sym (append_assoc (map Source p.sources) (map Draw p.draws) (Draw d ∷ []))))

abbrev Has : List (Option Line) → Sheet → Type 0
Has os q = (os ≡ map Some (sheet_lines q)) × (0 < length q.sources) × (length q.sources ≤ 64)

ended : (s : Stage) (n : ℕ) (p q : Sheet) → Kept s p → cond (may_end s) (good p) (bad n) ≡ good q → Has (map Some (so_far s p) ++ []) q
ended Start n p q k e = cc
ended Aligned n p q k e = cc
ended (Sources c) n p q k e =
    (cond_both (ltb 0 c) (good p) (bad n) (λ r. r ≡ good q → Has (map Some (so_far (Sources c) p) ++ []) q)
    (λ t f. let z : p ≡ q = cc in
    let g : map Some (so_far (Sources c) p) ++ [] ≡ map Some (sheet_lines p) = append-nil (map Some (so_far (Sources c) p)) ∙ sym (ap (λ (l : List DrawLine). map Some (Align p.align ∷ Binding p.binding ∷ (map Source p.sources ++ map Draw l))) k.2 ∙ ap (λ (l : List Line). map Some (Align p.align ∷ Binding p.binding ∷ l)) (append-nil (map Source p.sources))) in
    subst (Has (map Some (so_far (Sources c) p) ++ [])) z (g, omega (arith, ltb-true 0 c t, k.0), omega (arith, k.0, k.1)))
    (λ _ f. cc)) e
ended Draws n p q k e = let z : p ≡ q = cc in subst (Has (map Some (so_far Draws p) ++ [])) z (append-nil _, k.0, k.1)

accepts : (os : List (Option Line)) (s : Stage) (n : ℕ) (p q : Sheet) → Kept s p → read_on os s n p ≡ good q → Has (map Some (so_far s p) ++ os) q
unfolding read_on
accepts [] s n p q k e = ended s n p q k e
accepts (None ∷ os) s n p q k e = cc
accepts (Some x ∷ os) s n p q k e =
    (elim (next_of s x) as (λ o. KeptAt o s p x → elim o as (λ _. Parsed) [ None ↦ bad n | Some t ↦ read_on os t (n + 1) (added p x) ] ≡ good q → Has (map Some (so_far s p) ++ (Some x ∷ os)) q) [
      | None ↦ λ _ f. cc
      | Some t ↦ λ w f.
          let g : map Some (so_far t (added p x)) ++ os ≡ map Some (so_far s p) ++ (Some x ∷ os) = ap (λ (l : List Line). map Some l ++ os) w.1 ∙ ap (λ (l : List (Option Line)). l ++ os) (map_push Some (so_far s p) x) ∙ append_assoc (map Some (so_far s p)) (Some x ∷ []) os in
          subst (λ (l : List (Option Line)). Has l q) g (accepts os t (n + 1) (added p x) q w.0 f)
    ]) (keeps s x p k) e

-- the lines of a text take a byte more than the text at most
pub total_lines : (bs : List ℕ) → total (lines_of bs) ≤ length bs + 1
unfolding lines_of
total_lines [] = omega arith
total_lines (c ∷ cs) =
    let h = total_lines cs in
    cond_both (eqb c 10) ([] ∷ lines_of cs) (onto_first c (lines_of cs)) (λ l. total l ≤ suc (length cs) + 1) (λ _. omega arith) (λ _. first (lines_of cs) h)
  where
    first : (ls : List (List ℕ)) → total ls ≤ length cs + 1 → total (onto_first c ls) ≤ suc (length cs) + 1
    first [] h = omega arith
    first (l ∷ ls) h = omega arith

each_line : (ls : List (List ℕ)) (xs : List Line) → map line_of ls ≡ map Some xs → AllByRecursion LineFits xs × (length (lines_text xs) ≤ total ls)
unfolding lines_text
each_line [] [] e = (tt, omega arith)
each_line [] (x ∷ xs) e = cc
each_line (l ∷ ls) [] e = cc
each_line (l ∷ ls) (x ∷ xs) e =
    let h : line_of l ≡ Some x = cc in
    let t : map line_of ls ≡ map Some xs = cc in
    let s = spelt l x h in
    let k = each_line ls xs t in
    ((spelt_fits l x s, k.0), omega (arith, length-append (line_text x) (10 ∷ lines_text xs), spelt_size l x s, k.1))

-- a text that is read is not too long
pub not_long : (text : List ℕ) (p : Sheet) → read_page text ≡ good p → (length text ≤ 65536) × (read_lines (lines_of text) ≡ good p)
not_long text p e =
    (cond_both (ltb 65536 (length text)) (bad 0) (read_lines (lines_of text)) (λ r. r ≡ good p → (length text ≤ 65536) × (read_lines (lines_of text) ≡ good p))
    (λ _ f. cc) (λ t f. (ltb-false 65536 (length text) t, f))) e

-- the lines of a sheet after its first
abbrev tails : Sheet → List Line
tails p = Binding p.binding ∷ (map Source p.sources ++ map Draw p.draws)

-- a text without leading zeros has the same lines
plain_lines : (text : List ℕ) (p : Sheet) → AllByRecursion LineFits (sheet_lines p) → (unpadded text ≡ written p) ⊎ (unpadded text ++ (10 ∷ []) ≡ written p) → lines_of (unpadded text) ≡ map line_text (sheet_lines p)
plain_lines text p h (inl e) = ap lines_of e ∙ lines_text_lem (sheet_lines p) h
plain_lines text p h (inr e) = ap lines_of (append_cancel_right (unpadded text) (shorn (Align p.align) (tails p)) (10 ∷ []) (e ∙ sym (shorn_ended (Align p.align) (tails p)))) ∙ lines_shorn (Align p.align) (tails p) h

plain_read : (text : List ℕ) (p : Sheet) → length text ≤ 65536 → Fits p → (unpadded text ≡ written p) ⊎ (unpadded text ++ (10 ∷ []) ≡ written p) → read_page (unpadded text) ≡ good p
plain_read text p h f e =
    let u : List ℕ = unpadded text in
    cond-false (ltb 65536 (length u)) _ _ (le-ltb 65536 (length u) (omega (arith, bare_shorter false text)))
    ∙ ap (λ (ls : List (List ℕ)). read_on (map line_of ls) Start 1 empty) (plain_lines text p f.numbers e)
    ∙ ap (λ (os : List (Option Line)). read_on os Start 1 empty) (map_text (sheet_lines p) f.numbers)
    ∙ read_sheet p f.some f.most

pub spells : (text : List ℕ) (p : Sheet) → read_page text ≡ good p → Spells text p
spells text p e =
    let s = not_long text p e in
    let h = accepts (map line_of (lines_of text)) Start 1 empty p (refl, refl) s.1 in
    let k = each_line (lines_of text) (sheet_lines p) h.0 in
    let f : Fits p = record { numbers = k.0; some = h.1; most = h.2 } in
    let u = unpadded_text text (sheet_lines p) h.0 in
    record { fits = f; lines = h.0; same = u; plain = plain_read text p s.0 f u; size = omega (arith, k.1, total_lines text); again = read_written p f }
