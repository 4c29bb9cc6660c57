-- what a text that was read as a line looks like
use Rattle.std.proofs.Common.{◌≡◌, ℕ, suc, ◌+◌, ◌^◌, ◌<◌, ◌≤◌, true, false, cond, eqb, leb, List, [], ◌∷◌, ◌++◌, length, Some, None, codes, decimal, Option, sym, refl, ap, ◌∙◌, subst, arith, length-append}
use Rattle.std.specs.List.{AllByRecursion}
use Rattle.std.proofs.lemmas.Str.Parse.{digits_value_short}
use Rattle.std.proofs.lemmas.Fmt.{length-decimal-le}
use Rattle.std.proofs.lemmas.Bool.{cond_both, eqb-true}
use Rattle.std.proofs.lemmas.Bool.Decides.{nat_tests}
use Rattle.page.specs.declared.line.DrawLine.{DrawLine}
use Rattle.page.specs.declared.line.Line.{Line}
use Rattle.page.specs.declared.line.Line.TheVariants.{Align, Binding, Source, Draw}
use Rattle.page.specs.Numbers.{digits_only, value_after, number_of}
use Rattle.page.specs.Texts.{after_word, fields_of}
use Rattle.std.proofs.lemmas.List.Splits.{length-slice_split}
use Rattle.std.specs.List.{onto_first}
use Rattle.page.specs.Lines.{and_then, before, all_numbers, numbers_of, draw_of, source_of, line_of, align_kind, binding_kind, source_kind, draw_kind}
use Rattle.page.specs.Written.{line_text}
use Rattle.page.proofs.Fields.{some_of}
use Rattle.page_text.specs.Written.{LineFits}
use Rattle.page_text.proofs.Returning.{own}

-- a number: its digits, its bound, and its length
pub record Numeral (bs : List ℕ) (n : ℕ) : Type 0 where
  pub digits : digits_only bs ≡ true
  pub value : n ≡ value_after 0 bs
  pub some : 0 < length bs
  pub most : length bs ≤ 20
  pub small : n < 2 ^ 64

pub numeral : (bs : List ℕ) (n : ℕ) → number_of bs ≡ Some n → Numeral bs n
numeral bs n e =
    record { digits = grind (arith, nat_tests); value = grind (arith, nat_tests); some = grind (arith, nat_tests); most = grind (arith, nat_tests); small = grind (arith, nat_tests) }

pub decimal_shorter : (bs : List ℕ) (n : ℕ) → Numeral bs n → length (decimal n) ≤ length bs
decimal_shorter bs n h =
    let v : n < 10 ^ length bs = omega (arith, digits_value_short own bs (length bs) h.digits (omega arith), h.value) in
    length-decimal-le (length bs) n h.some v h.small

-- the bytes that numbers take, each with a comma or an end after it, and those that fields take
abbrev pub weight : List ℕ → ℕ
weight [] = 0
weight (n ∷ ns) = (length (decimal n) + 1) + weight ns

abbrev pub total : List (List ℕ) → ℕ
total [] = 0
total (f ∷ fs) = (length f + 1) + total fs

pub total_first : (c : ℕ) (fs : List (List ℕ)) → 0 < length fs → total (onto_first c fs) ≡ total fs + 1
total_first c [] h = absurd (omega arith)
total_first c (f ∷ fs) h = omega arith

total_fields : (bs : List ℕ) → total (fields_of bs) ≡ length bs + 1
total_fields [] = refl
total_fields (c ∷ cs) =
    let h = total_fields cs in
    let some : 0 < length (fields_of cs) = omega (arith, length-slice_split (λ c. eqb c 44) cs) in
    cond_both (eqb c 44) ([] ∷ fields_of cs) (onto_first c (fields_of cs)) (λ l. total l ≡ suc (length cs) + 1) (λ _. omega arith) (λ _. omega (arith, total_first c (fields_of cs) some))

all_sized : (fs : List (List ℕ)) (ns : List ℕ) → all_numbers fs ≡ Some ns → AllByRecursion (λ n. n < 2 ^ 64) ns × (weight ns ≤ total fs)
all_sized [] ns e = let z : ns ≡ [] = cc in rw z (tt, omega arith)
all_sized (f ∷ fs) ns e =
    let p = some_of (λ n. before n (all_numbers fs)) (number_of f) ns e in
    let q = some_of (λ ms. Some (p.0 ∷ ms)) (all_numbers fs) ns p.2 in
    let h = numeral f p.0 p.1 in
    let k = all_sized fs q.0 q.1 in
    let z : ns ≡ p.0 ∷ q.0 = cc q.2 in
    rw z ((h.small, k.0), omega (arith, decimal_shorter f p.0 h, k.1))

-- numbers between commas are below 2^64, and their decimals are no longer
pub numbers_sized : (bs ns : List ℕ) → numbers_of bs ≡ Some ns → AllByRecursion (λ n. n < 2 ^ 64) ns × (weight ns ≤ length bs + 1)
unfolding numbers_of
numbers_sized bs ns e = let k = all_sized (fields_of bs) ns e in (k.0, omega (arith, k.1, total_fields bs))

-- a word that was followed stands in front
pub word_rest : (ws bs rest : List ℕ) → after_word ws bs ≡ Some rest → bs ≡ ws ++ rest
unfolding after_word
word_rest [] bs rest e = cc
word_rest (w ∷ ws) [] rest e = cc
word_rest (w ∷ ws) (b ∷ bs) rest e =
    (elim (eqb b w) as (λ t. t ≡ eqb b w → cond t (after_word ws bs) None ≡ Some rest → b ∷ bs ≡ w ∷ (ws ++ rest)) [
      | true ↦ λ q f. ap (λ (c : ℕ). c ∷ bs) (eqb-true b w (sym q)) ∙ ap (λ (l : List ℕ). w ∷ l) (word_rest ws bs rest f)
      | false ↦ λ q f. cc
    ]) refl e

abbrev pub five : DrawLine → List ℕ
five d = d.kind ∷ d.source ∷ d.offset ∷ d.first_limit ∷ d.instance_limit ∷ []

-- a line's word, and what its numbers look like
abbrev pub Spelt : List ℕ → Line → Type 0
Spelt l (Align n) = (ds : List ℕ) × (l ≡ codes "align=" ++ ds) × Numeral ds n
Spelt l (Binding n) = (ds : List ℕ) × (l ≡ codes "binding=" ++ ds) × Numeral ds n
Spelt l (Source n) = (ds : List ℕ) × (l ≡ codes "source=" ++ ds) × Numeral ds n × (n ≤ 4294967295)
Spelt l (Draw d) = (ds : List ℕ) × (l ≡ codes "draw=" ++ ds) × (numbers_of ds ≡ Some (five d))

five_long : (ns : List ℕ) (d : DrawLine) → draw_of ns ≡ Some d → length ns ≡ 5
five_long ns d e = grind (arith, nat_tests)

five_of : (ns : List ℕ) (d : DrawLine) → draw_of ns ≡ Some d → ns ≡ five d
five_of [] d e = cc
five_of (a ∷ []) d e = cc
five_of (a ∷ b ∷ []) d e = cc
five_of (a ∷ b ∷ c ∷ []) d e = cc
five_of (a ∷ b ∷ c ∷ f ∷ []) d e = cc
five_of (a ∷ b ∷ c ∷ f ∷ g ∷ []) d e =
    let z : ◌≡◌ {A = DrawLine} (record { kind = a; source = b; offset = c; first_limit = f; instance_limit = g }) d = cc in
    ap five z
five_of (a ∷ b ∷ c ∷ f ∷ g ∷ h ∷ ns) d e = absurd (omega (arith, five_long (a ∷ b ∷ c ∷ f ∷ g ∷ h ∷ ns) d e))

limit : (n m : ℕ) → cond (leb n 4294967295) (Some n) None ≡ Some m → (n ≡ m) × (m ≤ 4294967295)
limit n m e = (grind (arith, nat_tests), grind (arith, nat_tests))

module _ (l : List ℕ) (x : Line) where
  by_align : (r : List ℕ) → l ≡ codes "align=" ++ r → align_kind.reads r ≡ Some x → Spelt l x
  by_align r h e =
      let p = some_of (λ n. Some (Align n)) (number_of r) x e in
      let z : Align p.0 ≡ x = cc p.2 in
      subst (Spelt l) z (r, h, numeral r p.0 p.1)

  by_binding : (r : List ℕ) → l ≡ codes "binding=" ++ r → binding_kind.reads r ≡ Some x → Spelt l x
  by_binding r h e =
      let p = some_of (λ n. Some (Binding n)) (number_of r) x e in
      let z : Binding p.0 ≡ x = cc p.2 in
      subst (Spelt l) z (r, h, numeral r p.0 p.1)

  by_source : (r : List ℕ) → l ≡ codes "source=" ++ r → source_kind.reads r ≡ Some x → Spelt l x
  by_source r h e =
      let p = some_of (λ n. Some (Source n)) (source_of r) x e in
      let z : Source p.0 ≡ x = cc p.2 in
      let q = some_of (λ n. cond (leb n 4294967295) (Some n) None) (number_of r) p.0 p.1 in
      let k = limit q.0 p.0 q.2 in
      let f : Numeral r p.0 = subst (Numeral r) k.0 (numeral r q.0 q.1) in
      subst (Spelt l) z (r, h, f, k.1)

  by_draw : (r : List ℕ) → l ≡ codes "draw=" ++ r → draw_kind.reads r ≡ Some x → Spelt l x
  by_draw r h e =
      let p = some_of (λ d. Some (Draw d)) (and_then (numbers_of r) draw_of) x e in
      let z : Draw p.0 ≡ x = cc p.2 in
      let q = some_of draw_of (numbers_of r) p.0 p.1 in
      subst (Spelt l) z (r, h, q.1 ∙ ap Some (five_of q.0 p.0 q.2))

  by_words : (a b c d : Option (List ℕ)) → ((r : List ℕ) → a ≡ Some r → l ≡ codes "align=" ++ r) → ((r : List ℕ) → b ≡ Some r → l ≡ codes "binding=" ++ r) → ((r : List ℕ) → c ≡ Some r → l ≡ codes "source=" ++ r) → ((r : List ℕ) → d ≡ Some r → l ≡ codes "draw=" ++ r) →
      elim a as (λ _. Option Line) [ Some r ↦ align_kind.reads r | None ↦ elim b as (λ _. Option Line) [ Some r ↦ binding_kind.reads r | None ↦ elim c as (λ _. Option Line) [ Some r ↦ source_kind.reads r | None ↦ elim d as (λ _. Option Line) [ Some r ↦ draw_kind.reads r | None ↦ None ] ] ] ] ≡ Some x → Spelt l x
  by_words (Some r) b c d ha hb hc hd e = by_align r (ha r refl) e
  by_words None (Some r) c d ha hb hc hd e = by_binding r (hb r refl) e
  by_words None None (Some r) d ha hb hc hd e = by_source r (hc r refl) e
  by_words None None None (Some r) ha hb hc hd e = by_draw r (hd r refl) e
  by_words None None None None ha hb hc hd e = cc

  pub spelt : line_of l ≡ Some x → Spelt l x
  spelt e =
      by_words (after_word (codes "align=") l) (after_word (codes "binding=") l) (after_word (codes "source=") l) (after_word (codes "draw=") l)
      (word_rest (codes "align=") l) (word_rest (codes "binding=") l) (word_rest (codes "source=") l) (word_rest (codes "draw=") l) e

pub spelt_fits : (l : List ℕ) (x : Line) → Spelt l x → LineFits x
spelt_fits l (Align n) (ds, e, h) = h.small
spelt_fits l (Binding n) (ds, e, h) = h.small
spelt_fits l (Source n) (ds, e, h, k) = k
spelt_fits l (Draw d) (ds, e, h) = let k = (numbers_sized ds (five d) h).0 in (k.0, k.1.0, k.1.1.0, k.1.1.1.0, k.1.1.1.1.0)

pub spelt_size : (l : List ℕ) (x : Line) → Spelt l x → length (line_text x) ≤ length l
spelt_size l (Align n) (ds, e, h) = let s = decimal_shorter ds n h in rw e (simp length-append (omega arith))
spelt_size l (Binding n) (ds, e, h) = let s = decimal_shorter ds n h in rw e (simp length-append (omega arith))
spelt_size l (Source n) (ds, e, h, k) = let s = decimal_shorter ds n h in rw e (simp length-append (omega arith))
spelt_size l (Draw d) (ds, e, h) = let k = (numbers_sized ds (five d) h).1 in rw e (simp length-append (omega arith))
