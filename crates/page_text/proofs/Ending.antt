-- lines with a newline after each
use Rattle.std.proofs.Common.{◌≡◌, ℕ, ◌<◌, eqb, List, [], ◌∷◌, ◌++◌, length, refl, ap, ◌∙◌, arith}
use Rattle.std.proofs.lemmas.Bool.{cond-false}
use Rattle.std.specs.List.{AllByRecursion, onto_first}
use Rattle.page.specs.Texts.{Free, lines_of}

pub lines_more : (l rest : List ℕ) → Free 10 l → lines_of (l ++ (10 ∷ rest)) ≡ l ∷ lines_of rest
unfolding lines_of
lines_more [] rest f = refl
lines_more (c ∷ l) rest f = cond-false (eqb c 10) _ _ f.0 ∙ ap (onto_first c) (lines_more l rest f.1)

pub lines_last : (l : List ℕ) → 0 < length l → Free 10 l → lines_of l ≡ l ∷ []
unfolding lines_of
lines_last [] h f = absurd (omega arith)
lines_last (c ∷ []) h f = cond-false (eqb c 10) _ _ f.0
lines_last (c ∷ d ∷ l) h f = cond-false (eqb c 10) _ _ f.0 ∙ ap (onto_first c) (lines_last (d ∷ l) (omega arith) f.1)

unfoldable pub ended : List (List ℕ) → List ℕ
ended [] = []
ended (l ∷ ls) = l ++ (10 ∷ ended ls)

pub lines_ended : (ls : List (List ℕ)) → AllByRecursion (Free 10) ls → lines_of (ended ls) ≡ ls
unfolding ended lines_of
lines_ended [] f = refl
lines_ended (l ∷ ls) f = lines_more l (ended ls) f.0 ∙ ap (λ (k : List (List ℕ)). l ∷ k) (lines_ended ls f.1)
