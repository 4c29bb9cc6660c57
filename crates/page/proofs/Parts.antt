-- steps of the loops that read a number, cut a text and follow a word
use Rattle.std.proofs.Common.{◌≡◌, ℕ, ◌+◌, ◌-◌, ◌*◌, ◌^◌, ◌<◌, ◌≤◌, Bool, true, false, ◌&&◌, List, zero, suc, [], ◌∷◌, ◌++◌, length, eqb, leb, get_or, take, drop, Some, None, Option, Bor, refl, sym, subst, ap, ◌∙◌, pow-suc, add-one, arith}
use Rattle.std.proofs.lemmas.List.{drop_more, drop_all, take-append-drop, take_all, take_rest}
use Rattle.std.proofs.lemmas.Bool.{and_from, and_parts, cond-true, le-leb, cond_both, false≢true}
use Rattle.std.proofs.lemmas.Bool.Decides.{nat_tests}
use Rattle.std.specs.Cmp.Lexicographic.{pointwise}
use Rattle.std.specs.List.{AllWithin, HoldsAt}
use Rattle.std.specs.Option.{MatchOption}
use Rattle.page.specs.Numbers.{below_bound, is_digit, digits_only, number_length, value_after, number_of}
use Rattle.page.specs.Texts.{Free, after_word}

pub digit_range : (c : ℕ) → is_digit c ≡ true → (48 ≤ c) × (c ≤ 57)
digit_range c e = grind (arith, nat_tests)

module _ (xs : List ℕ) (i : ℕ) (h : i < length xs) where
  pub digits_more : is_digit (get_or xs i 0) ≡ true → digits_only (drop i xs) ≡ digits_only (drop (i + 1) xs)
  unfolding digits_only
  digits_more d = ap digits_only (drop_more xs i 0 h) ∙ ap (λ (b : Bool). b && digits_only (drop (i + 1) xs)) d

  pub digits_stop : is_digit (get_or xs i 0) ≡ false → digits_only (drop i xs) ≡ false
  unfolding digits_only
  digits_stop d = ap digits_only (drop_more xs i 0 h) ∙ ap (λ (b : Bool). b && digits_only (drop (i + 1) xs)) d

  pub value_more : (v : ℕ) → value_after v (drop i xs) ≡ value_after (v * 10 + (get_or xs i 0 - 48)) (drop (i + 1) xs)
  unfolding value_after
  value_more v = ap (value_after v) (drop_more xs i 0 h)

pub small_more : (v n d : ℕ) → v < 10 ^ n → d < 10 → v * 10 + d < 10 ^ (n + 1)
small_more v n d h k = rw (add-one, pow-suc) (omega arith)

pub digits_end : (xs : List ℕ) (i : ℕ) → length xs ≤ i → digits_only (drop i xs) ≡ true
unfolding digits_only
digits_end xs i h = ap digits_only (drop_all i xs h)

pub value_end : (v : ℕ) (xs : List ℕ) (i : ℕ) → length xs ≤ i → value_after v (drop i xs) ≡ v
unfolding value_after
value_end v xs i h = ap (value_after v) (drop_all i xs h)

pub not_digits : (bs : List ℕ) → digits_only bs ≡ false → None ≡ number_of bs
not_digits bs h = grind (arith, nat_tests)

pub as_number : (bs : List ℕ) (v : ℕ) (r : Option ℕ) → 1 ≤ length bs → length bs ≤ 20 → digits_only bs ≡ true → v ≡ value_after 0 bs → r ≡ below_bound v → r ≡ number_of bs
as_number bs v r some most d e k =
    let l : number_length (length bs) ≡ true = and_from (leb 1 (length bs)) (leb (length bs) 20) (le-leb 1 (length bs) some) (le-leb (length bs) 20 most) in
    k ∙ ap below_bound e ∙ sym (cond-true (number_length (length bs) && digits_only bs) _ _ (and_from (number_length (length bs)) (digits_only bs) l d))

-- nothing but b, from place i on
pub free_until : (b i : ℕ) (xs : List ℕ) → ((k d : ℕ) → 0 ≤ k → k < i → eqb (get_or xs k d) b ≡ false) → Free b (take i xs)
free_until b zero xs h = tt
free_until b (suc i) [] h = tt
free_until b (suc i) (x ∷ xs) h = (h 0 0 (omega arith) (omega arith), free_until b i xs (λ k d l m. h (suc k) d (omega arith) (omega arith)))

-- what `position` answers of a byte: the text has none, or is cut there
pub first_place : (b : ℕ) (xs : List ℕ) (r : Option ℕ) → MatchOption r (AllWithin (λ x. eqb x b ≡ false) xs 0 (length xs)) (λ i. (i < length xs) × HoldsAt (λ x. x ≡ b) xs i × AllWithin (λ x. eqb x b ≡ false) xs 0 i) → MatchOption r (Free b xs) (λ i. Free b (take i xs) × (xs ≡ take i xs ++ (b ∷ take (length xs - (i + 1)) (drop (i + 1) xs))))
first_place b xs None h = subst (Free b) (take_all (length xs) xs (omega arith)) (free_until b (length xs) xs h)
first_place b xs (Some i) h = (free_until b i xs h.2, rw (take_rest xs (i + 1)) (cut_here xs i b h.0 (h.1 0)))
  where
    cut_here : (xs : List ℕ) (i b : ℕ) → i < length xs → get_or xs i 0 ≡ b → xs ≡ take i xs ++ (b ∷ drop (i + 1) xs)
    cut_here xs i b h e = sym (take-append-drop i xs) ∙ ap (λ (l : List ℕ). take i xs ++ l) (drop_more xs i 0 h ∙ ap (λ (c : ℕ). c ∷ drop (i + 1) xs) e)

-- what `strip_prefix` answers of a word
pub word_found : (w s : List ℕ) (x : Bor (List ℕ)) → (pointwise eqb (take (length w) s) w ≡ true) × (x.now ≡ drop (length w) s) × (length x.now + length w ≡ length s) → after_word w s ≡ Some x.now
unfolding after_word
word_found [] s x h = ap Some (sym h.1)
word_found (v ∷ w) [] x h = let z : ◌≡◌ {A = Bool} false true = h.0 in absurd (false≢true z)
word_found (v ∷ w) (b ∷ s) x h =
    let p = and_parts (eqb b v) (pointwise eqb (take (length w) s) w) h.0 in
    cond-true (eqb b v) _ _ p.0 ∙ word_found w s x (p.1, h.1, omega (arith, h.2))

pub word_missing : (w s : List ℕ) → pointwise eqb (take (length w) s) w ≡ false → after_word w s ≡ None
unfolding after_word
word_missing [] s h = absurd (false≢true (sym h))
word_missing (v ∷ w) [] h = refl
word_missing (v ∷ w) (b ∷ s) h =
    (cond_both (eqb b v) (after_word w s) None (λ o. eqb b v && pointwise eqb (take (length w) s) w ≡ false → o ≡ None)
    (λ e k. word_missing w s (sym (ap (λ t. t && pointwise eqb (take (length w) s) w) e) ∙ k)) (λ _ _. refl)) h
