-- the first bad line is the first at which no sheet can go on
use Rattle.std.proofs.Common.{◌≡◌, ℕ, zero, suc, ◌+◌, ◌<◌, ◌≤◌, Bool, true, false, cond, eqb, ltb, List, [], ◌∷◌, ◌++◌, map, length, take, drop, Some, None, codes, decimal, Option, sym, refl, ap, ◌∙◌, subst, inl, inr, add-zero, add_assoc, zero-add, arith, lit<, length-append}
use Rattle.std.specs.List.{AllByRecursion}
use Rattle.std.proofs.lemmas.Fmt.{length-decimal-le}
use Rattle.std.proofs.ByRecursion.{All-append, All-take}
use Rattle.std.proofs.lemmas.List.{take-append-drop, take_at, take-take, length-take-le}
use Rattle.std.proofs.lemmas.Bool.{cond-true, cond-false, cond_both, cases_Bool, cases_eq, lt-ltb, le-ltb, ltb-true, ltb-false}
use Rattle.page.specs.declared.line.Line.{Line}
use Rattle.page.specs.declared.line.Line.TheVariants.{Align, Binding, Source, Draw}
use Rattle.page.specs.declared.stage.Stage.{Stage}
use Rattle.page.specs.declared.stage.Stage.TheVariants.{Start, Aligned, Sources, Draws}
use Rattle.page.specs.Texts.{Free, lines_of}
use Rattle.std.specs.List.{onto_first}
use Rattle.page.specs.Lines.{and_then, line_of}
use Rattle.page.specs.Stages.{next_of, may_end}
use Rattle.page.specs.Sheets.{Sheet, Parsed, good, bad, read_on, read_lines, read_page, added, empty}
use Rattle.page.specs.Written.{line_text}
use Rattle.page_text.specs.Written.{LineFits}
use Rattle.page_text.specs.Laws.{Begins, FirstBad}
use Rattle.page_text.proofs.Ending.{ended, lines_ended}
use Rattle.page.proofs.Fields.{some_of}
use Rattle.page_text.proofs.Spelling.{total, spelt, Spelt}
use Rattle.page_text.proofs.Returning.{line_text_lem, free_text}
use Rattle.page_text.proofs.Accepting.{total_lines, not_long}

-- the stage that lines lead to
reach : List (List ℕ) → Stage → Option Stage
reach [] s = Some s
reach (l ∷ ls) s = and_then (line_of l) (λ x. and_then (next_of s x) (reach ls))

reach_append : (xs ys : List (List ℕ)) (s : Stage) → reach (xs ++ ys) s ≡ and_then (reach xs s) (reach ys)
unfolding reach
reach_append [] ys s = refl
reach_append (l ∷ xs) ys s =
    elim (line_of l) as (λ o. and_then o (λ x. and_then (next_of s x) (reach (xs ++ ys))) ≡ and_then (and_then o (λ x. and_then (next_of s x) (reach xs))) (reach ys)) [
      | None ↦ refl
      | Some x ↦ elim (next_of s x) as (λ o. and_then o (reach (xs ++ ys)) ≡ and_then (and_then o (reach xs)) (reach ys)) [ None ↦ refl | Some t ↦ reach_append xs ys t ]
    ]

-- a text that is read leads somewhere, and lines that lead to an end are read
good_reach : (ls : List (List ℕ)) (s : Stage) (n : ℕ) (p q : Sheet) → read_on (map line_of ls) s n p ≡ good q → (t : Stage) × (reach ls s ≡ Some t)
unfolding read_on reach
good_reach [] s n p q e = (s, refl)
good_reach (l ∷ ls) s n p q e =
    (elim (line_of l) as (λ o. read_on (o ∷ map line_of ls) s n p ≡ good q → (t : Stage) × (and_then o (λ x. and_then (next_of s x) (reach ls)) ≡ Some t)) [
      | None ↦ λ f. cc
      | Some x ↦ λ f. (elim (next_of s x) as (λ o. elim o as (λ _. Parsed) [ None ↦ bad n | Some t ↦ read_on (map line_of ls) t (n + 1) (added p x) ] ≡ good q → (t : Stage) × (and_then o (reach ls) ≡ Some t))
          [ None ↦ λ g. cc | Some u ↦ λ g. good_reach ls u (n + 1) (added p x) q g ]) f
    ]) e

reach_good : (ls : List (List ℕ)) (s t : Stage) (n : ℕ) (p : Sheet) → reach ls s ≡ Some t → may_end t ≡ true → (q : Sheet) × (read_on (map line_of ls) s n p ≡ good q)
unfolding read_on reach
reach_good [] s t n p e m = let z : s ≡ t = cc in (p, cond-true (may_end s) (good p) (bad n) (ap may_end z ∙ m))
reach_good (l ∷ ls) s t n p e m =
    (elim (line_of l) as (λ o. and_then o (λ x. and_then (next_of s x) (reach ls)) ≡ Some t → (q : Sheet) × (read_on (o ∷ map line_of ls) s n p ≡ good q)) [
      | None ↦ λ f. cc
      | Some x ↦ λ f. (elim (next_of s x) as (λ o. and_then o (reach ls) ≡ Some t → (q : Sheet) × (elim o as (λ _. Parsed) [ None ↦ bad n | Some u ↦ read_on (map line_of ls) u (n + 1) (added p x) ] ≡ good q))
          [ None ↦ λ g. cc | Some u ↦ λ g. reach_good ls u t (n + 1) (added p x) g m ]) f
    ]) e

-- k lines lead on, and then a line does not, or the text ends too soon
record Stops (ls : List (List ℕ)) (s : Stage) (n m : ℕ) : Type 0 where
  k : ℕ
  t : Stage
  number : m ≡ n + k
  within : k ≤ length ls
  leads : reach (take k ls) s ≡ Some t
  stuck : k < length ls → reach (take (suc k) ls) s ≡ None
  short : k ≡ length ls → may_end t ≡ false

at_end : (s : Stage) (n m : ℕ) (p : Sheet) → cond (may_end s) (good p) (bad n) ≡ bad m → (n ≡ m) × (may_end s ≡ false)
at_end s n m p e =
    (cond_both (may_end s) (good p) (bad n) (λ r. r ≡ bad m → (n ≡ m) × (may_end s ≡ false)) (λ _ f. cc) (λ u f. (cc, u))) e

at_once : (l : List ℕ) (ls : List (List ℕ)) (s : Stage) (n m : ℕ) → n ≡ m → reach (l ∷ []) s ≡ None → Stops (l ∷ ls) s n m
unfolding reach
at_once l ls s n m e h = record { k = 0; t = s; number = omega arith; within = omega arith; leads = refl; stuck = λ _. h; short = λ z. absurd (omega arith) }

-- a line that is let in, in front
lets_in : (l : List ℕ) (ls : List (List ℕ)) (s u : Stage) (x : Line) → line_of l ≡ Some x → next_of s x ≡ Some u → reach (l ∷ ls) s ≡ reach ls u
unfolding reach
lets_in l ls s u x h i = ap (λ (o : Option Line). and_then o (λ y. and_then (next_of s y) (reach ls))) h ∙ ap (λ (o : Option Stage). and_then o (reach ls)) i

later : (l : List ℕ) (ls : List (List ℕ)) (s u : Stage) (n m : ℕ) (x : Line) → line_of l ≡ Some x → next_of s x ≡ Some u → Stops ls u (n + 1) m → Stops (l ∷ ls) s n m
later l ls s u n m x h i w =
    record {
      k = suc w.k;
      t = w.t;
      number = omega (arith, w.number);
      within = omega (arith, w.within);
      leads = lets_in l (take w.k ls) s u x h i ∙ w.leads;
      stuck = λ z. lets_in l (take (suc w.k) ls) s u x h i ∙ w.stuck (omega arith);
      short = λ z. w.short (omega arith);
    }

stops : (ls : List (List ℕ)) (s : Stage) (n m : ℕ) (p : Sheet) → read_on (map line_of ls) s n p ≡ bad m → Stops ls s n m
unfolding read_on reach
stops [] s n m p e =
    let w : (n ≡ m) × (may_end s ≡ false) = at_end s n m p e in
    record { k = 0; t = s; number = omega (arith, w.0); within = omega arith; leads = refl; stuck = λ h. absurd (omega arith); short = λ _. w.1 }
stops (l ∷ ls) s n m p e =
    (elim (line_of l) as (λ o. line_of l ≡ o → read_on (o ∷ map line_of ls) s n p ≡ bad m → Stops (l ∷ ls) s n m) [
      | None ↦ λ h f. at_once l ls s n m (cc f) (ap (λ (o : Option Line). and_then o (λ x. and_then (next_of s x) (reach []))) h)
      | Some x ↦ λ h f. (elim (next_of s x) as (λ o. next_of s x ≡ o → elim o as (λ _. Parsed) [ None ↦ bad n | Some t ↦ read_on (map line_of ls) t (n + 1) (added p x) ] ≡ bad m → Stops (l ∷ ls) s n m) [
        | None ↦ λ i g. at_once l ls s n m (cc g) (ap (λ (o : Option Line). and_then o (λ y. and_then (next_of s y) (reach []))) h ∙ ap (λ (o : Option Stage). and_then o (reach [])) i)
        | Some u ↦ λ i g. later l ls s u n m x h i (stops ls u (n + 1) m (added p x) g)
      ]) refl f
    ]) refl e

length_ended : (ls : List (List ℕ)) → length (ended ls) ≡ total ls
unfolding ended
length_ended [] = refl
length_ended (l ∷ ls) = omega (arith, length-append l (10 ∷ ended ls), length_ended ls)

total_append : (xs ys : List (List ℕ)) → total (xs ++ ys) ≡ total xs + total ys
total_append [] ys = omega arith
total_append (x ∷ xs) ys = omega (arith, total_append xs ys)

total_take : (k : ℕ) (ls : List (List ℕ)) → k < length ls → total (take k ls) + 1 ≤ total ls
total_take k [] h = absurd (omega arith)
total_take zero (l ∷ ls) h = omega arith
total_take (suc k) (l ∷ ls) h = omega (arith, total_take k ls (omega arith))

free_lines : (bs : List ℕ) → AllByRecursion (Free 10) (lines_of bs)
unfolding lines_of
free_lines [] = tt
free_lines (c ∷ cs) =
    cond_both (eqb c 10) ([] ∷ lines_of cs) (onto_first c (lines_of cs)) (λ l. AllByRecursion (Free 10) l) (λ _. (tt, free_lines cs)) (λ e. first e (lines_of cs) (free_lines cs))
  where
    first : eqb c 10 ≡ false → (ls : List (List ℕ)) → AllByRecursion (Free 10) ls → AllByRecursion (Free 10) (onto_first c ls)
    first e [] f = ((e, tt), tt)
    first e (l ∷ ls) f = ((e, f.0), f.1)

-- few bytes lead to a stage at which a text may not end
abbrev Small : Stage → ℕ → Type 0
Small Start u = u ≡ 0
Small Aligned u = u ≤ 27
Small (Sources k) u = k ≡ 0 → u ≤ 56
Small Draws u = Unit {0}

abbrev SmallAt : Option Stage → ℕ → Type 0
SmallAt None u = Unit {0}
SmallAt (Some t) u = Small t u

small_next : (s : Stage) (x : Line) (l : List ℕ) (u : ℕ) → Small s u → Spelt l x → SmallAt (next_of s x) (u + (length l + 1))
small_next Start (Align n) l u h (ds, e, f) = omega (arith, ap length e, length-append (codes "align=") ds, f.most)
small_next Start (Binding n) l u h f = tt
small_next Start (Source n) l u h f = tt
small_next Start (Draw d) l u h f = tt
small_next Aligned (Align n) l u h f = tt
small_next Aligned (Binding n) l u h (ds, e, f) = λ _. omega (arith, ap length e, length-append (codes "binding=") ds, f.most)
small_next Aligned (Source n) l u h f = tt
small_next Aligned (Draw d) l u h f = tt
small_next (Sources k) (Align n) l u h f = tt
small_next (Sources k) (Binding n) l u h f = tt
small_next (Sources k) (Source n) l u h f = cond_both (ltb k 64) (Some (Sources (k + 1))) None (λ o. SmallAt o (u + (length l + 1))) (λ _ z. absurd (omega arith)) (λ _. tt)
small_next (Sources k) (Draw d) l u h f = cond_both (ltb 0 k) (Some Draws) None (λ o. SmallAt o (u + (length l + 1))) (λ _. tt) (λ _. tt)
small_next Draws (Align n) l u h f = tt
small_next Draws (Binding n) l u h f = tt
small_next Draws (Source n) l u h f = tt
small_next Draws (Draw d) l u h f = tt

small : (ls : List (List ℕ)) (s t : Stage) (u : ℕ) → Small s u → reach ls s ≡ Some t → Small t (u + total ls)
unfolding reach
small [] s t u h e = let z : s ≡ t = cc in rw (add-zero, ← z) h
small (l ∷ ls) s t u h e =
    let p = some_of (λ x. and_then (next_of s x) (reach ls)) (line_of l) t e in
    let q = some_of (reach ls) (next_of s p.0) t p.2 in
    let k : SmallAt (Some q.0) (u + (length l + 1)) = subst (λ (o : Option Stage). SmallAt o (u + (length l + 1))) q.1 (small_next s p.0 l u h (spelt l p.0 p.1)) in
    let w : Small t ((u + (length l + 1)) + total ls) = small ls q.0 t (u + (length l + 1)) k q.2 in
    rw (add_assoc u (length l + 1) (total ls)) at w

few : (t : Stage) (u : ℕ) → Small t u → may_end t ≡ false → u ≤ 56
few Start u h m = omega arith
few Aligned u h m = omega arith
few (Sources k) u h m = h (omega (arith, ltb-false 0 k m))
few Draws u h m = cc

-- lines that lead from a stage to an end
record Finish (s : Stage) : Type 0 where
  ls : List (List ℕ)
  free : AllByRecursion (Free 10) ls
  e : Stage
  leads : reach ls s ≡ Some e
  ends : may_end e ≡ true
  none : may_end s ≡ true → total ls ≡ 0
  size : total ls ≤ 90

zero_small : length (decimal 0) ≤ 20
zero_small = length-decimal-le 20 0 (lit< tt) (lit< tt) (lit< tt)

-- a text line in front
put_in : (x : Line) → LineFits x → (s u : Stage) → next_of s x ≡ Some u → (f : Finish u) → may_end s ≡ false → total f.ls + (length (line_text x) + 1) ≤ 90 → Finish s
put_in x h s u n f m z =
    record {
      ls = line_text x ∷ f.ls;
      free = (free_text x h, f.free);
      e = f.e;
      leads = lets_in (line_text x) f.ls s u x (line_text_lem x h) n ∙ f.leads;
      ends = f.ends;
      none = λ y. let b : ◌≡◌ {A = Bool} true false = sym y ∙ m in cc;
      size = omega arith;
    }

stay : (s : Stage) → may_end s ≡ true → Finish s
unfolding reach
stay s m = record { ls = []; free = tt; e = s; leads = refl; ends = m; none = λ _. refl; size = omega arith }

-- a source after k others
with_source : (k : ℕ) → ltb 0 k ≡ false → Finish (Sources k)
unfolding stay
with_source k m =
    let z : k ≤ 0 = ltb-false 0 k m in
    put_in (Source 0) (omega arith) (Sources k) (Sources (k + 1)) (cond-true (ltb k 64) (Some (Sources (k + 1))) None (lt-ltb k 64 (omega arith)))
    (stay (Sources (k + 1)) (lt-ltb 0 (k + 1) (omega arith))) m (let s = zero_small in simp length-append (omega arith))

finish_sources : (k : ℕ) (b : Bool) → ltb 0 k ≡ b → Finish (Sources k)
finish_sources k true m = stay (Sources k) m
finish_sources k false m = with_source k m

with_binding : Finish Aligned
unfolding stay put_in with_source
with_binding = put_in (Binding 0) (lit< tt) Aligned (Sources 0) refl (with_source 0 refl) refl (let s = zero_small in simp length-append (omega arith))

with_align : Finish Start
unfolding stay put_in with_source with_binding
with_align = put_in (Align 0) (lit< tt) Start Aligned refl with_binding refl (let s = zero_small in simp length-append (omega arith))

finish : (s : Stage) → Finish s
finish Start = with_align
finish Aligned = with_binding
finish (Sources k) = finish_sources k (ltb 0 k) refl
finish Draws = stay Draws refl

fits_long : (ks ls : List (List ℕ)) (t : Stage) (f : Finish t) (n : ℕ) → Small t (total ks) → (may_end t ≡ true → total ks ≤ n) → n ≤ 65536 → length (ended (ks ++ f.ls)) ≤ 65536
fits_long ks ls t f n h g k =
    let e = length_ended (ks ++ f.ls) in
    let a = total_append ks f.ls in
    let z = f.size in
    elim (cases_Bool (may_end t)) as (λ _. length (ended (ks ++ f.ls)) ≤ 65536)
    [ inl m ↦ omega (arith, g m, f.none m) | inr m ↦ omega (arith, few t (total ks) h m) ]

under : (k : ℕ) (text : List ℕ) (t : Stage) → may_end t ≡ true → (k ≡ length (lines_of text) → may_end t ≡ false) → k ≤ length (lines_of text) → total (take k (lines_of text)) ≤ length text
under k text t m n w =
    elim (cases_eq k (length (lines_of text))) as (λ _. total (take k (lines_of text)) ≤ length text) [
      | inl e ↦ let b : ◌≡◌ {A = Bool} true false = sym m ∙ n e in cc
      | inr d ↦ let l : k < length (lines_of text) = omega arith in omega (arith, total_take k (lines_of text) l, total_lines text)
    ]

-- the first k lines, and lines that lead to an end, are a text that is read
begins : (text : List ℕ) (k : ℕ) (t : Stage) → length text ≤ 65536 → k ≤ length (lines_of text) → reach (take k (lines_of text)) Start ≡ Some t → (k ≡ length (lines_of text) → may_end t ≡ false) → Begins k text
begins text k t h w r n =
    let ls : List (List ℕ) = lines_of text in
    let ks : List (List ℕ) = take k ls in
    let f : Finish t = finish t in
    let lines : lines_of (ended (ks ++ f.ls)) ≡ ks ++ f.ls = lines_ended (ks ++ f.ls) (All-append (Free 10) ks f.ls (All-take (Free 10) k ls (free_lines text)) f.free) in
    let leads : reach (ks ++ f.ls) Start ≡ Some f.e = reach_append ks f.ls Start ∙ ap (λ (o : Option Stage). and_then o (reach f.ls)) r ∙ f.leads in
    let q = reach_good (ks ++ f.ls) Start f.e 1 empty leads f.ends in
    let short : may_end t ≡ true → total ks ≤ length text = λ m. under k text t m n w in
    let size : length (ended (ks ++ f.ls)) ≤ 65536 = fits_long ks ls t f (length text) (subst (Small t) (zero-add (total ks)) (small ks Start t 0 refl r)) short h in
    let reads : read_page (ended (ks ++ f.ls)) ≡ good q.0 = cond-false (ltb 65536 (length (ended (ks ++ f.ls)))) _ _ (le-ltb 65536 (length (ended (ks ++ f.ls))) size) ∙ ap (λ (l : List (List ℕ)). read_on (map line_of l) Start 1 empty) lines ∙ q.1 in
    let same : take k (lines_of (ended (ks ++ f.ls))) ≡ ks = ap (take k) lines ∙ take_at ks f.ls k (length-take-le k ls w) in
    (ended (ks ++ f.ls), q.0, reads, same)

-- fewer lines begin a text too
fewer : (text : List ℕ) (j k : ℕ) → j ≤ k → Begins k text → Begins j text
fewer text j k h (t, p, e, s) = (t, p, e, sym (take-take j k (lines_of t) h) ∙ ap (take j) s ∙ take-take j k (lines_of text) h)

-- a text with these lines and the one at which they stop is not read
not_begun : (text : List ℕ) (n : ℕ) → reach (take n (lines_of text)) Start ≡ None → Begins n text → ⊥
not_begun text n r (t, p, e, s) =
    let g = good_reach (lines_of t) Start 1 empty p (not_long t p e).1 in
    let z : reach (lines_of t) Start ≡ None = ap (λ (l : List (List ℕ)). reach l Start) (sym (take-append-drop n (lines_of t))) ∙ reach_append (take n (lines_of t)) (drop n (lines_of t)) Start ∙ ap (λ (l : List (List ℕ)). and_then (reach l Start) (reach (drop n (lines_of t)))) s ∙ ap (λ (o : Option Stage). and_then o (reach (drop n (lines_of t)))) r in
    cc (g.1, z)

stopped : (text : List ℕ) (n : ℕ) → length text ≤ 65536 → Stops (lines_of text) Start 1 n → FirstBad text n
stopped text n h w =
    let e : n ≡ suc w.k = omega (arith, w.number) in
    let b = begins text w.k w.t h w.within w.leads w.short in
    record {
      long = λ z. absurd (omega arith);
      within = omega (arith, w.within);
      before = λ j l. fewer text j w.k (omega arith) b;
      here = λ _ l. not_begun text n (ap (λ (m : ℕ). reach (take m (lines_of text)) Start) e ∙ w.stuck (omega arith));
    }

too_long : (text : List ℕ) (n : ℕ) → 65536 < length text → 0 ≡ n → FirstBad text n
too_long text n h e = record { long = λ _. h; within = omega arith; before = λ k l. absurd (omega arith); here = λ z. absurd (omega arith) }

pub first_bad : (text : List ℕ) (n : ℕ) → read_page text ≡ bad n → FirstBad text n
first_bad text n e =
    (cond_both (ltb 65536 (length text)) (bad 0) (read_lines (lines_of text)) (λ r. r ≡ bad n → FirstBad text n)
    (λ t f. too_long text n (ltb-true 65536 (length text) t) (cc)) (λ t f. stopped text n (ltb-false 65536 (length text) t) (stops (lines_of text) Start 1 n empty f))) e
