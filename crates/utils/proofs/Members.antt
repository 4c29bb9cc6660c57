-- The distinct indices: their members, their order, and one index more.
use Rattle.std.proofs.Common.{◌≡◌, ℕ, true, false, eqb, List, [], ◌∷◌, ◌++◌, refl, ◌∙◌, arith}
use Rattle.std.proofs.lemmas.Grind.{common_steps}
use Rattle.std.proofs.lemmas.Bool.{cond_both, false≢true}
use Rattle.utils.specs.Firsts.{has, without, firsts, Distinct, SameMembers, FirstBefore, InNamedOrder, FirstNamed}

other : (x y : ℕ) → eqb x y ≡ false → eqb y x ≡ false
other x y e = grind (arith, common_steps)

has_without_same : (x : ℕ) (ys : List ℕ) → has x (without x ys) ≡ false
has_without_same x [] = refl
has_without_same x (y ∷ ys) = grind (arith, common_steps, has_without_same x ys)

has_without_other : (k x : ℕ) (ys : List ℕ) → eqb k x ≡ false → has k (without x ys) ≡ has k ys
has_without_other k x [] h = refl
has_without_other k x (y ∷ ys) h = grind (arith, common_steps, has_without_other k x ys h)

same_members : (xs : List ℕ) → SameMembers xs (firsts xs)
same_members [] k = refl
same_members (x ∷ xs) k = grind (arith, common_steps, same_members xs k, has_without_other k x (firsts xs))

distinct_without : (x : ℕ) (ys : List ℕ) → Distinct ys → Distinct (without x ys)
distinct_without x [] d = tt
distinct_without x (y ∷ ys) d =
    cond_both (eqb x y) (without x ys) (y ∷ without x ys) Distinct
    (λ e. distinct_without x ys d.1)
    (λ e. (has_without_other y x ys (other x y e) ∙ d.0, distinct_without x ys d.1))

distinct_firsts : (xs : List ℕ) → Distinct (firsts xs)
distinct_firsts [] = tt
distinct_firsts (x ∷ xs) = (has_without_same x (firsts xs), distinct_without x (firsts xs) (distinct_firsts xs))

first_here : (x : ℕ) (xs ys : List ℕ) → FirstBefore (x ∷ xs) x (without x ys)
first_here x xs [] = tt
first_here x xs (y ∷ ys) =
    cond_both (eqb x y) (without x ys) (y ∷ without x ys) (FirstBefore (x ∷ xs) x)
    (λ e. first_here x xs ys)
    (λ e. (grind (arith, common_steps, other x y e), first_here x xs ys))

first_behind : (k x : ℕ) (xs ys : List ℕ) → eqb k x ≡ false → FirstBefore xs k ys → FirstBefore (x ∷ xs) k (without x ys)
first_behind k x xs [] h f = tt
first_behind k x xs (y ∷ ys) h f =
    cond_both (eqb x y) (without x ys) (y ∷ without x ys) (FirstBefore (x ∷ xs) k)
    (λ e. first_behind k x xs ys h f.1)
    (λ e. (grind (arith, common_steps, f.0, other x y e), first_behind k x xs ys h f.1))

order_behind : (x : ℕ) (xs ys : List ℕ) → InNamedOrder xs ys → InNamedOrder (x ∷ xs) (without x ys)
order_behind x xs [] o = tt
order_behind x xs (y ∷ ys) o =
    cond_both (eqb x y) (without x ys) (y ∷ without x ys) (InNamedOrder (x ∷ xs))
    (λ e. order_behind x xs ys o.1)
    (λ e. (first_behind y x xs ys (other x y e) o.0, order_behind x xs ys o.1))

in_order : (xs : List ℕ) → InNamedOrder xs (firsts xs)
in_order [] = tt
in_order (x ∷ xs) = (first_here x xs (firsts xs), order_behind x xs (firsts xs) (in_order xs))

pub firsts_named : (xs : List ℕ) → FirstNamed xs (firsts xs)
firsts_named xs = record { distinct = distinct_firsts xs; members = same_members xs; order = in_order xs }

without_append : (x : ℕ) (ys zs : List ℕ) → without x (ys ++ zs) ≡ without x ys ++ without x zs
without_append x [] zs = refl
without_append x (y ∷ ys) zs = grind (arith, common_steps, without_append x ys zs)

-- an index that was not named before is added behind
pub firsts_new : (xs : List ℕ) (x : ℕ) → has x xs ≡ false → firsts (xs ++ x ∷ []) ≡ firsts xs ++ x ∷ []
firsts_new [] x h = refl
firsts_new (y ∷ ys) x h = grind (arith, common_steps, firsts_new ys x, without_append y (firsts ys) (x ∷ []))

-- one that was named before changes nothing
pub firsts_again : (xs : List ℕ) (x : ℕ) → has x xs ≡ true → firsts (xs ++ x ∷ []) ≡ firsts xs
firsts_again [] x h = absurd (false≢true h)
firsts_again (y ∷ ys) x h = grind (arith, common_steps, firsts_again ys x, firsts_new ys x, without_append y (firsts ys) (x ∷ []))
