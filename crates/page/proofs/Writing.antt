-- one more line of a sheet, written
use Rattle.std.proofs.Common.{◌≡◌, ℕ, ◌+◌, ◌<◌, List, [], ◌∷◌, ◌++◌, length, get_or, map, take, refl, sym, ap, ◌∙◌, subst, append_assoc}
use Rattle.std.proofs.lemmas.List.{map_push, take_more}
use Rattle.page.specs.declared.line.Line.{Line}
use Rattle.page.specs.Written.{line_text, lines_text}

pub lines_push : (xs : List Line) (x : Line) → lines_text xs ++ (line_text x ++ (10 ∷ [])) ≡ lines_text (xs ++ (x ∷ []))
unfolding lines_text
lines_push [] x = refl
lines_push (y ∷ ys) x = append_assoc (line_text y) (10 ∷ lines_text ys) (line_text x ++ (10 ∷ [])) ∙ ap (λ l. line_text y ++ (10 ∷ l)) (lines_push ys x)

-- the line of item i of xs, which were read as ys, after some lines and those of the items before it
pub lines_more : {X : Type 0} (before : List Line) (line : X → Line) (xs ys : List X) (i : ℕ) (d : X) → ys ≡ xs → i < length ys → lines_text (before ++ map line (take i xs)) ++ (line_text (line (get_or ys i d)) ++ (10 ∷ [])) ≡ lines_text (before ++ map line (take (i + 1) xs))
lines_more before line xs ys i d e h = subst (λ zs. lines_text (before ++ map line (take i zs)) ++ (line_text (line (get_or ys i d)) ++ (10 ∷ [])) ≡ lines_text (before ++ map line (take (i + 1) zs))) e (
    lines_push (before ++ map line (take i ys)) (line (get_or ys i d))
    ∙ ap lines_text (append_assoc before (map line (take i ys)) (line (get_or ys i d) ∷ []) ∙ ap (λ l. before ++ l) (sym (map_push line (take i ys) (get_or ys i d)) ∙ ap (map line) (sym (take_more ys i d h)))))
