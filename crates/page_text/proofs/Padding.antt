-- a text without leading zeros
use Rattle.std.proofs.Common.{◌≡◌, ℕ, ◌+◌, ◌-◌, ◌*◌, ◌^◌, ◌<◌, ◌≤◌, Bool, true, false, cond, not, ◌&&◌, eqb, ◌⊎◌, List, [], ◌∷◌, ◌++◌, map, length, get_or, Some, codes, decimal, sym, refl, ap, ◌∙◌, subst, inl, inr, append_assoc, arith}
use lib.ListN.{length-map}
use Rattle.std.proofs.lemmas.Fmt.{decimal-digits_value}
use Rattle.std.proofs.lemmas.Bool.{cond-true, cond-false, cond_both, eqb-true, eqb-false, ne_eqb, and_parts, cases_Bool}
use Rattle.std.proofs.lemmas.Bool.Decides.{nat_tests}
use Rattle.page.specs.declared.line.Line.{Line}
use Rattle.page.specs.declared.line.Line.TheVariants.{Align, Binding, Source, Draw}
use Rattle.page.specs.Numbers.{is_digit, digits_only, value_after, number_of}
use Rattle.page.specs.Texts.{fields_of, lines_of}
use Rattle.std.proofs.lemmas.List.Splits.{join_with_byte-slice_split, length-slice_split}
use Rattle.std.specs.List.{join_with_byte, onto_first}
use Rattle.page.specs.Lines.{before, all_numbers, numbers_of, line_of}
use Rattle.page.specs.Written.{line_text, lines_text}
use Rattle.page_text.specs.Laws.{starts_digit, bare, unpadded}
use Rattle.page_text.proofs.Ending.{ended}
use Rattle.page.proofs.Fields.{length_all, some_of}
use Rattle.page_text.proofs.Spelling.{Numeral, numeral, five, Spelt, spelt}
use Rattle.page_text.proofs.Returning.{own}

-- a byte stays, unless it is a zero that leads
stays : (b : Bool) (c : ℕ) (cs : List ℕ) → (not b && (eqb c 48 && starts_digit cs)) ≡ false → bare b (c ∷ cs) ≡ c ∷ bare (is_digit c) cs
unfolding bare
stays b c cs e = cond-false (not b && (eqb c 48 && starts_digit cs)) _ _ e

goes : (c : ℕ) (cs : List ℕ) → eqb c 48 ≡ true → starts_digit cs ≡ true → bare false (c ∷ cs) ≡ bare false cs
unfolding bare
goes c cs e f = cond-true (not false && (eqb c 48 && starts_digit cs)) _ _ (grind (arith, nat_tests))

-- past a number it does not matter that a digit came before
bare_out : (rest : List ℕ) → starts_digit rest ≡ false → bare true rest ≡ bare false rest
unfolding bare
bare_out [] e = refl
bare_out (c ∷ cs) e =
    let n : eqb c 48 ≡ false = ne_eqb c 48 (λ z. let d : is_digit 48 ≡ false = ap is_digit (sym z) ∙ e in cc) in
    stays true c cs refl ∙ sym (stays false c cs (ap (λ (t : Bool). t && starts_digit cs) n))

-- digits inside a number stay
bare_inside : (ds rest : List ℕ) → digits_only ds ≡ true → bare true (ds ++ rest) ≡ ds ++ bare true rest
unfolding digits_only
bare_inside [] rest e = refl
bare_inside (c ∷ ds) rest e =
    let p = and_parts (is_digit c) (digits_only ds) e in
    stays true c (ds ++ rest) refl ∙ ap (λ (t : Bool). c ∷ bare t (ds ++ rest)) p.0 ∙ ap (λ (l : List ℕ). c ∷ l) (bare_inside ds rest p.1)

kept : (c : ℕ) (cs rest : List ℕ) → digits_only (c ∷ cs) ≡ true → value_after 0 (c ∷ cs) < 2 ^ 64 → (get_or (c ∷ cs) 0 0 ≡ 48 → length (c ∷ cs) ≡ 1) → (not false && (eqb c 48 && starts_digit (cs ++ rest))) ≡ false → bare false (c ∷ (cs ++ rest)) ≡ decimal (value_after 0 (c ∷ cs)) ++ bare true rest
unfolding digits_only
kept c cs rest e s one h =
    let p = and_parts (is_digit c) (digits_only cs) e in
    let w : decimal (value_after 0 (c ∷ cs)) ≡ c ∷ cs = decimal-digits_value own (c ∷ cs) e (omega arith) one s in
    stays false c (cs ++ rest) h ∙ ap (λ (t : Bool). c ∷ bare t (cs ++ rest)) p.0 ∙ ap (λ (l : List ℕ). c ∷ l) (bare_inside cs rest p.1) ∙ sym (ap (λ (l : List ℕ). l ++ bare true rest) w)

-- a number becomes its decimal
bare_digits : (ds rest : List ℕ) → 0 < length ds → digits_only ds ≡ true → value_after 0 ds < 2 ^ 64 → starts_digit rest ≡ false → bare false (ds ++ rest) ≡ decimal (value_after 0 ds) ++ bare true rest
unfolding digits_only value_after
bare_digits [] rest n e s r = absurd (omega arith)
bare_digits (c ∷ []) rest n e s r = kept c [] rest e s (λ _. refl) (ap (λ (t : Bool). not false && (eqb c 48 && t)) r ∙ grind (arith, nat_tests))
bare_digits (c ∷ d ∷ ds) rest n e s r =
    let p = and_parts (is_digit c) (digits_only (d ∷ ds)) e in
    let q = and_parts (is_digit d) (digits_only ds) p.1 in
    elim (cases_Bool (eqb c 48)) as (λ _. bare false (c ∷ d ∷ (ds ++ rest)) ≡ decimal (value_after 0 (c ∷ d ∷ ds)) ++ bare true rest) [
      | inl z ↦
          let k : 0 * 10 + (c - 48) ≡ 0 = omega (arith, eqb-true c 48 z) in
          let v : value_after 0 (c ∷ d ∷ ds) ≡ value_after 0 (d ∷ ds) = ap (λ (m : ℕ). value_after m (d ∷ ds)) k in
          goes c (d ∷ (ds ++ rest)) z q.0 ∙ bare_digits (d ∷ ds) rest (omega arith) p.1 (subst (λ (m : ℕ). m < 2 ^ 64) v s) r ∙ ap (λ (m : ℕ). decimal m ++ bare true rest) (sym v)
      | inr z ↦ kept c (d ∷ ds) rest e s (λ y. absurd (eqb-false c 48 z y)) (ap (λ (t : Bool). not false && (t && starts_digit (d ∷ (ds ++ rest)))) z)
    ]

bare_number : (ds rest : List ℕ) (n : ℕ) → Numeral ds n → starts_digit rest ≡ false → bare false (ds ++ rest) ≡ decimal n ++ bare false rest
bare_number ds rest n h r =
    bare_digits ds rest h.some h.digits (subst (λ (m : ℕ). m < 2 ^ 64) h.value h.small) r
    ∙ ap (λ (m : ℕ). decimal m ++ bare true rest) (sym h.value) ∙ ap (λ (l : List ℕ). decimal n ++ l) (bare_out rest r)

-- fields with commas between them
abbrev commas : List (List ℕ) → List ℕ
commas fs = join_with_byte 44 fs

commas_more : (f : List ℕ) (fs : List (List ℕ)) → 0 < length fs → commas (f ∷ fs) ≡ f ++ (44 ∷ commas fs)
commas_more f [] h = absurd (omega arith)
commas_more f (g ∷ fs) h = refl

bare_comma : (rest : List ℕ) → bare false (44 ∷ rest) ≡ 44 ∷ bare false rest
unfolding bare
bare_comma rest = refl

-- numbers between commas become their decimals
bare_commas : (fs : List (List ℕ)) (ns rest : List ℕ) → 0 < length fs → all_numbers fs ≡ Some ns → starts_digit rest ≡ false → bare false (commas fs ++ rest) ≡ commas (map decimal ns) ++ bare false rest
bare_commas [] ns rest h e r = absurd (omega arith)
bare_commas (f ∷ []) ns rest h e r =
    let p = some_of (λ n. before n (all_numbers [])) (number_of f) ns e in
    let z : ns ≡ p.0 ∷ [] = cc p.2 in
    bare_number f rest p.0 (numeral f p.0 p.1) r ∙ ap (λ (l : List ℕ). commas (map decimal l) ++ bare false rest) (sym z)
bare_commas (f ∷ g ∷ fs) ns rest h e r =
    let p = some_of (λ n. before n (all_numbers (g ∷ fs))) (number_of f) ns e in
    let q = some_of (λ ms. Some (p.0 ∷ ms)) (all_numbers (g ∷ fs)) ns p.2 in
    let z : ns ≡ p.0 ∷ q.0 = cc q.2 in
    let more : 0 < length (map decimal q.0) = omega (arith, length-map q.0 decimal, length_all (g ∷ fs) q.0 q.1) in
    ap (bare false) (append_assoc f (44 ∷ commas (g ∷ fs)) rest)
    ∙ bare_number f (44 ∷ (commas (g ∷ fs) ++ rest)) p.0 (numeral f p.0 p.1) refl
    ∙ ap (λ (l : List ℕ). decimal p.0 ++ l) (bare_comma (commas (g ∷ fs) ++ rest) ∙ ap (λ (l : List ℕ). 44 ∷ l) (bare_commas (g ∷ fs) q.0 rest (omega arith) q.1 r))
    ∙ sym (append_assoc (decimal p.0) (44 ∷ commas (map decimal q.0)) (bare false rest))
    ∙ ap (λ (l : List ℕ). l ++ bare false rest) (sym (commas_more (decimal p.0) (map decimal q.0) more))
    ∙ ap (λ (l : List ℕ). commas (map decimal l) ++ bare false rest) (sym z)

bare_numbers : (bs ns rest : List ℕ) → numbers_of bs ≡ Some ns → starts_digit rest ≡ false → bare false (bs ++ rest) ≡ commas (map decimal ns) ++ bare false rest
unfolding numbers_of
bare_numbers bs ns rest e r = ap (λ (l : List ℕ). bare false (l ++ rest)) (sym (join_with_byte-slice_split 44 bs)) ∙ bare_commas (fields_of bs) ns rest (omega (arith, length-slice_split (λ c. eqb c 44) bs)) e r

-- a line becomes the line as it is written
bare_line : (l : List ℕ) (x : Line) (rest : List ℕ) → Spelt l x → starts_digit rest ≡ false → bare false (l ++ rest) ≡ line_text x ++ bare false rest
unfolding bare
bare_line l (Align n) rest (ds, e, h) r = ap (λ (m : List ℕ). bare false (m ++ rest)) e ∙ ap (λ (m : List ℕ). codes "align=" ++ m) (bare_number ds rest n h r)
bare_line l (Binding n) rest (ds, e, h) r = ap (λ (m : List ℕ). bare false (m ++ rest)) e ∙ ap (λ (m : List ℕ). codes "binding=" ++ m) (bare_number ds rest n h r)
bare_line l (Source n) rest (ds, e, h, k) r = ap (λ (m : List ℕ). bare false (m ++ rest)) e ∙ ap (λ (m : List ℕ). codes "source=" ++ m) (bare_number ds rest n h r)
bare_line l (Draw d) rest (ds, e, h) r = ap (λ (m : List ℕ). bare false (m ++ rest)) e ∙ ap (λ (m : List ℕ). codes "draw=" ++ m) (bare_numbers ds (five d) rest h r)

bare_lines : (ls : List (List ℕ)) (xs : List Line) → map line_of ls ≡ map Some xs → bare false (ended ls) ≡ lines_text xs
unfolding bare ended lines_text
bare_lines [] [] e = refl
bare_lines [] (x ∷ xs) e = cc
bare_lines (l ∷ ls) [] e = cc
bare_lines (l ∷ ls) (x ∷ xs) e =
    let h : line_of l ≡ Some x = cc in
    let t : map line_of ls ≡ map Some xs = cc in
    bare_line l x (10 ∷ ended ls) (spelt l x h) refl ∙ ap (λ (m : List ℕ). line_text x ++ (10 ∷ m)) (bare_lines ls xs t)

-- the lines of a text, each with its newline, are the text or the text with one newline more
first_some : (c : ℕ) (ls : List (List ℕ)) → 0 < length (onto_first c ls)
first_some c [] = omega arith
first_some c (l ∷ ls) = omega arith

lines_some : (c : ℕ) (cs : List ℕ) → 0 < length (lines_of (c ∷ cs))
unfolding lines_of
lines_some c cs = cond_both (eqb c 10) ([] ∷ lines_of cs) (onto_first c (lines_of cs)) (λ l. 0 < length l) (λ _. omega arith) (λ _. first_some c (lines_of cs))

ended_first : (c : ℕ) (ls : List (List ℕ)) → 0 < length ls → ended (onto_first c ls) ≡ c ∷ ended ls
unfolding ended
ended_first c [] h = absurd (omega arith)
ended_first c (l ∷ ls) h = refl

abbrev Ended : List ℕ → List ℕ → Type 0
Ended es bs = (es ≡ bs) ⊎ (es ≡ bs ++ (10 ∷ []))

ended_more : (c : ℕ) (es bs : List ℕ) → Ended es bs → Ended (c ∷ es) (c ∷ bs)
ended_more c es bs (inl e) = inl (ap (λ (l : List ℕ). c ∷ l) e)
ended_more c es bs (inr e) = inr (ap (λ (l : List ℕ). c ∷ l) e)

ended_lines : (bs : List ℕ) → Ended (ended (lines_of bs)) bs
unfolding lines_of ended
ended_lines [] = inl refl
ended_lines (c ∷ []) =
    cond_both (eqb c 10) ([] ∷ []) ((c ∷ []) ∷ []) (λ l. Ended (ended l) (c ∷ [])) (λ e. inl (ap (λ (m : ℕ). m ∷ []) (sym (eqb-true c 10 e)))) (λ _. inr refl)
ended_lines (c ∷ d ∷ ds) =
    let h = ended_lines (d ∷ ds) in
    let ls : List (List ℕ) = lines_of (d ∷ ds) in
    cond_both (eqb c 10) ([] ∷ ls) (onto_first c ls) (λ l. Ended (ended l) (c ∷ d ∷ ds))
    (λ e. subst (λ (m : ℕ). Ended (m ∷ ended ls) (c ∷ d ∷ ds)) (eqb-true c 10 e) (ended_more c (ended ls) (d ∷ ds) h))
    (λ _. subst (λ (es : List ℕ). Ended es (c ∷ d ∷ ds)) (sym (ended_first c ls (lines_some d ds))) (ended_more c (ended ls) (d ∷ ds) h))

-- a newline at the end stays there
starts_newline : (cs : List ℕ) → starts_digit (cs ++ (10 ∷ [])) ≡ starts_digit cs
starts_newline [] = refl
starts_newline (c ∷ cs) = refl

bare_newline : (b : Bool) (bs : List ℕ) → bare b (bs ++ (10 ∷ [])) ≡ bare b bs ++ (10 ∷ [])
unfolding bare
bare_newline true [] = refl
bare_newline false [] = refl
bare_newline b (c ∷ cs) =
    ap (λ (t : Bool). cond (not b && (eqb c 48 && t)) (bare false (cs ++ (10 ∷ []))) (c ∷ bare (is_digit c) (cs ++ (10 ∷ [])))) (starts_newline cs)
    ∙ (elim (not b && (eqb c 48 && starts_digit cs)) as (λ t. cond t (bare false (cs ++ (10 ∷ []))) (c ∷ bare (is_digit c) (cs ++ (10 ∷ []))) ≡ cond t (bare false cs) (c ∷ bare (is_digit c) cs) ++ (10 ∷ []))
    [ true ↦ bare_newline false cs | false ↦ ap (λ (l : List ℕ). c ∷ l) (bare_newline (is_digit c) cs) ])

pub unpadded_text : (text : List ℕ) (xs : List Line) → map line_of (lines_of text) ≡ map Some xs → (unpadded text ≡ lines_text xs) ⊎ (unpadded text ++ (10 ∷ []) ≡ lines_text xs)
unpadded_text text xs e =
    let h = bare_lines (lines_of text) xs e in
    elim (ended_lines text) as (λ _. (unpadded text ≡ lines_text xs) ⊎ (unpadded text ++ (10 ∷ []) ≡ lines_text xs))
    [ inl f ↦ inl (ap (bare false) (sym f) ∙ h) | inr f ↦ inr (sym (bare_newline false text) ∙ ap (bare false) (sym f) ∙ h) ]

pub bare_shorter : (b : Bool) (bs : List ℕ) → length (bare b bs) ≤ length bs
unfolding bare
bare_shorter b [] = omega arith
bare_shorter b (c ∷ cs) =
    cond_both (not b && (eqb c 48 && starts_digit cs)) (bare false cs) (c ∷ bare (is_digit c) cs) (λ l. length l ≤ length (c ∷ cs))
    (λ _. omega (arith, bare_shorter false cs)) (λ _. omega (arith, bare_shorter (is_digit c) cs))
