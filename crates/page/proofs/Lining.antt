-- the lines of a text are what stands between its newlines, but for one at its end
use Rattle.std.proofs.Common.{◌≡◌, ℕ, ◌+◌, ◌<◌, ◌≤◌, cond, get_or, drop, eqb, List, [], ◌∷◌, ◌++◌, length, Some, None, Option, Bor, MatchOption, unwrap_or, refl, ap, ◌∙◌, sym, arith, length-append}
use Rattle.std.proofs.lemmas.Bool.{cond-false, ne_eqb}
use Rattle.std.proofs.lemmas.List.{drop_more}
use Rattle.std.proofs.lemmas.List.Splits.{length-slice_split}
use Rattle.std.proofs.lemmas.List.Sums.{count_by-le-length}
use Rattle.std.specs.List.{onto_first, slice_split}
use Rattle.page.specs.Texts.{after_word, lines_of}
use Rattle.page.specs.Sheets.{read_lines, read_on}

abbrev pub pieces : List ℕ → List (List ℕ)
pieces bs = slice_split (λ c. eqb c 10) bs

lines_ended : (bs : List ℕ) → lines_of (bs ++ (10 ∷ [])) ≡ pieces bs
unfolding lines_of
lines_ended [] = refl
lines_ended (c ∷ bs) = ap (λ ls. cond (eqb c 10) ([] ∷ ls) (onto_first c ls)) (lines_ended bs)

lines_unended : (bs : List ℕ) → 0 < length bs → ((front : List ℕ) → bs ≡ front ++ (10 ∷ []) → ⊥) → lines_of bs ≡ pieces bs
unfolding lines_of
lines_unended [] h n = absurd (omega arith)
lines_unended (c ∷ []) h n =
    let e = ne_eqb c 10 (λ z. n [] (ap (λ m. m ∷ []) z)) in
    cond-false (eqb c 10) _ _ e ∙ sym (cond-false (eqb c 10) _ _ e)
lines_unended (c ∷ d ∷ bs) h n = ap (λ ls. cond (eqb c 10) ([] ∷ ls) (onto_first c ls)) (lines_unended (d ∷ bs) (omega arith) (λ f e. n (c ∷ f) (ap (λ l. c ∷ l) e)))

-- the empty text has one piece, which is as bad as none
read_unended : (bs : List ℕ) → ((front : List ℕ) → bs ≡ front ++ (10 ∷ []) → ⊥) → read_lines (pieces bs) ≡ read_lines (lines_of bs)
unfolding lines_of read_on after_word
read_unended [] n = refl
read_unended (c ∷ bs) n = ap read_lines (sym (lines_unended (c ∷ bs) (omega arith) n))

pub read_pieces : (bs : List ℕ) (o : Option (Bor (List ℕ))) (d : Bor (List ℕ)) → d.now ≡ bs → MatchOption o ((front : List ℕ) → bs ≡ front ++ (10 ∷ []) → ⊥) (λ x. bs ≡ x.now ++ (10 ∷ [])) → read_lines (pieces (unwrap_or o d).now) ≡ read_lines (lines_of bs)
read_pieces bs None d e h = rw e (read_unended bs h)
read_pieces bs (Some x) d e h = rw (h, lines_ended x.now)

-- no more pieces than bytes, and one
few : (bs : List ℕ) → length (pieces bs) ≤ length bs + 1
few bs = omega (arith, length-slice_split (λ c. eqb c 10) bs, count_by-le-length (λ c. eqb c 10) bs)

pub few_pieces : (bs : List ℕ) (o : Option (Bor (List ℕ))) (d : Bor (List ℕ)) → d.now ≡ bs → MatchOption o ((front : List ℕ) → bs ≡ front ++ (10 ∷ []) → ⊥) (λ x. bs ≡ x.now ++ (10 ∷ [])) → length (pieces (unwrap_or o d).now) ≤ length bs + 1
few_pieces bs None d e h = rw e (few bs)
few_pieces bs (Some x) d e h = omega (arith, few x.now, ap length h, length-append x.now (10 ∷ []))

-- the piece at place n is the next
pub next_piece : (ls : List (List ℕ)) (n : ℕ) (l : List ℕ) → (n < length ls) × (l ≡ get_or ls n l) → drop n ls ≡ l ∷ drop (n + 1) ls
next_piece ls n l h = drop_more ls n l h.0 ∙ ap (λ m. m ∷ drop (n + 1) ls) (sym h.1)
