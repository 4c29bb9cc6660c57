-- numbers between commas
use Rattle.std.proofs.Common.{◌≡◌, ℕ, suc, ◌<◌, true, eqb, List, [], ◌∷◌, ◌++◌, length, IfSome, Some, None, Option, sym, refl, ap, ◌∙◌, arith}
use Rattle.std.proofs.lemmas.Bool.{ne_eqb, and_parts}
use Rattle.std.proofs.lemmas.Bool.Decides.{nat_tests}
use Rattle.std.proofs.lemmas.List.Elements.{All-from_recursion}
use Rattle.std.proofs.lemmas.List.Splits.{join_with_byte-slice_split, slice_split_at, slice_split_none}
use Rattle.std.specs.List.{join_with_byte}
use Rattle.page.specs.Numbers.{is_digit, digits_only, number_of}
use Rattle.page.specs.Texts.{Free, fields_of}
use Rattle.page.specs.Lines.{and_then, before, all_numbers, numbers_of, draw_of}
use Rattle.page.proofs.Parts.{digit_range}

pub fields_more : (l rest : List ℕ) → Free 44 l → fields_of (l ++ (44 ∷ rest)) ≡ l ∷ fields_of rest
fields_more l rest f = slice_split_at (λ c. eqb c 44) l 44 rest (All-from_recursion _ l f) refl

pub fields_last : (l : List ℕ) → Free 44 l → fields_of l ≡ l ∷ []
fields_last l f = slice_split_none (λ c. eqb c 44) l (All-from_recursion _ l f)

abbrev alone : ℕ → Option (List ℕ)
alone n = Some (n ∷ [])

pub numbers_last : (bs : List ℕ) → Free 44 bs → numbers_of bs ≡ and_then (number_of bs) alone
unfolding numbers_of
numbers_last bs f = ap all_numbers (fields_last bs f)

pub numbers_more : (bs l rest : List ℕ) (o : Option ℕ) → Free 44 l → bs ≡ l ++ (44 ∷ rest) → o ≡ number_of l → numbers_of bs ≡ and_then o (λ n. before n (numbers_of rest))
unfolding numbers_of
numbers_more bs l rest o f e k =
    ap numbers_of e ∙ ap all_numbers (fields_more l rest f) ∙ ap (λ (p : Option ℕ). and_then p (λ n. before n (numbers_of rest))) (sym k)

abbrev Short : Option (List ℕ) → Type 0
Short o = IfSome o (λ ns. length ns ≡ 1)

alone_short : (o : Option ℕ) → Short (and_then o alone)
alone_short None = tt
alone_short (Some n) = refl

-- a text without a comma has one field
pub short_last : (bs : List ℕ) → Free 44 bs → Short (numbers_of bs)
short_last bs f = rw (numbers_last bs f) (alone_short (number_of bs))

pub short_none : (o : Option (List ℕ)) → o ≡ None → Short o
short_none o e = rw e tt

-- digits are no comma, and no newline
pub digits_free : (b : ℕ) → b < 48 → (bs : List ℕ) → digits_only bs ≡ true → Free b bs
unfolding digits_only
digits_free b h [] e = tt
digits_free b h (c ∷ cs) e =
    let p = and_parts (is_digit c) (digits_only cs) e in
    let r = digit_range c p.0 in
    (ne_eqb c b (λ z. omega arith), digits_free b h cs p.1)

pub number_digits : (bs : List ℕ) (n : ℕ) → Some n ≡ number_of bs → digits_only bs ≡ true
number_digits bs n e = grind (arith, nat_tests)

pub number_alone : (bs : List ℕ) (n : ℕ) → Some n ≡ number_of bs → numbers_of bs ≡ Some (n ∷ [])
number_alone bs n e = numbers_last bs (digits_free 44 (omega arith) bs (number_digits bs n e)) ∙ ap (λ (o : Option ℕ). and_then o alone) (sym e)

-- a text with one field is that field
fields_one : (bs : List ℕ) → length (fields_of bs) ≡ 1 → fields_of bs ≡ bs ∷ []
fields_one bs h = alone (fields_of bs) h (join_with_byte-slice_split 44 bs)
  where
    alone : (fs : List (List ℕ)) → length fs ≡ 1 → join_with_byte 44 fs ≡ bs → fs ≡ bs ∷ []
    alone [] k e = absurd (omega arith)
    alone (f ∷ []) k e = ap (λ l. l ∷ []) e
    alone (f ∷ g ∷ fs) k e = absurd (omega arith)

-- f of a value is there, so the value is
pub some_of : {A B : Type 0} (f : A → Option B) (o : Option A) (y : B) → and_then o f ≡ Some y → (a : A) × (o ≡ Some a) × (f a ≡ Some y)
some_of f None y e = cc
some_of f (Some a) y e = (a, refl, e)

pub length_all : (fs : List (List ℕ)) (ns : List ℕ) → all_numbers fs ≡ Some ns → length ns ≡ length fs
length_all [] ns e = let z : ns ≡ [] = cc in ap length z
length_all (f ∷ fs) ns e =
    let p = some_of (λ n. before n (all_numbers fs)) (number_of f) ns e in
    let q = some_of (λ ms. Some (p.0 ∷ ms)) (all_numbers fs) ns p.2 in
    let z : ns ≡ p.0 ∷ q.0 = cc q.2 in
    ap length z ∙ ap suc (length_all fs q.0 q.1)

-- where a text is no number, it is not just one number
pub number_none : (bs : List ℕ) → None ≡ number_of bs → (ns : List ℕ) → numbers_of bs ≡ Some ns → length ns ≡ 1 → ⊥
unfolding numbers_of
number_none bs e ns h l =
    let one : fields_of bs ≡ bs ∷ [] = fields_one bs (sym (length_all (fields_of bs) ns h) ∙ l) in
    let none : numbers_of bs ≡ None = ap all_numbers one ∙ ap (λ (o : Option ℕ). and_then o alone) (sym e) in
    cc (h, none)

module _ (a b d e : ℕ) where
  abbrev pub four : Option (List ℕ) → Option (List ℕ)
  four q = before a (before b (before d (before e q)))

  pub draw_five : (o q : Option (List ℕ)) (n : ℕ) → o ≡ four q → q ≡ Some (n ∷ []) → Some (record { kind = a; source = b; offset = d; first_limit = e; instance_limit = n }) ≡ and_then o draw_of
  draw_five o q n h k = sym (ap (λ (p : Option (List ℕ)). and_then p draw_of) (h ∙ ap four k))

  not_five : (q : Option (List ℕ)) → ((ns : List ℕ) → q ≡ Some ns → length ns ≡ 1 → ⊥) → None ≡ and_then (four q) draw_of
  not_five None f = refl
  not_five (Some ns) f = let g = f ns refl in grind (arith, nat_tests)

  pub draw_other : (o q : Option (List ℕ)) → o ≡ four q → ((ns : List ℕ) → q ≡ Some ns → length ns ≡ 1 → ⊥) → None ≡ and_then o draw_of
  draw_other o q h f = not_five q f ∙ ap (λ (p : Option (List ℕ)). and_then p draw_of) (sym h)

  pub four_more : (o p q r s : Option (List ℕ)) → o ≡ before a p → p ≡ before b q → q ≡ before d r → r ≡ before e s → o ≡ four s
  four_more o p q r s h i j k = h ∙ ap (before a) (i ∙ ap (before b) (j ∙ ap (before d) k))
