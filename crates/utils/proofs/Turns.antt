-- What the marks tell of the indices named so far, and one index more.
use Rattle.std.proofs.Common.{◌≡◌, ℕ, ◌<◌, ◌≤◌, Bool, true, false, not, ◌||◌, eqb, ltb, List, [], ◌∷◌, ◌++◌, length, get_or, set, Some, None, sym, arith}
use Rattle.std.proofs.lemmas.Bool.{ltb-true}
use Rattle.std.proofs.lemmas.Option.{cond_some}
use Rattle.std.proofs.lemmas.Grind.{common_steps}
use Rattle.utils.specs.Firsts.{has}
use Rattle.utils.specs.Marks.{wiped, insertion}

-- a mark is clear where its index was not named
abbrev pub Tells : List ℕ → List ℕ → Type 0
Tells named marks = (k : ℕ) → k < length marks → eqb (get_or marks k 0) 0 ≡ not (has k named)

pub tells_none : (marks : List ℕ) → Tells [] (wiped marks)
tells_none marks k h = grind (arith, common_steps)

has_push : (xs : List ℕ) (x k : ℕ) → has k (xs ++ x ∷ []) ≡ has k xs || eqb k x
has_push [] x k = grind (arith, common_steps)
has_push (y ∷ ys) x k = grind (arith, common_steps, has_push ys x k)

pub tells_more : (named marks : List ℕ) (x : ℕ) → Tells named marks → x < length marks → Tells (named ++ x ∷ []) (set marks x 1)
tells_more named marks x t h k hk = grind (arith, common_steps, has_push named x k, t k)

-- what an answer of insert says
pub inserted : (marks : List ℕ) (x : ℕ) (b : Bool) → Some b ≡ insertion marks x → (x < length marks) × (eqb (get_or marks x 0) 0 ≡ b)
inserted marks x b q =
    let p = cond_some (ltb x (length marks)) (eqb (get_or marks x 0) 0) b (sym q) in
    (ltb-true x (length marks) p.0, p.1)

pub refused : (marks : List ℕ) (x : ℕ) → None ≡ insertion marks x → length marks ≤ x
refused marks x q = grind (arith, common_steps)

pub first_time : (named marks : List ℕ) (x : ℕ) → Tells named marks → Some true ≡ insertion marks x → has x named ≡ false
first_time named marks x t q = let p = inserted marks x true q in grind (arith, common_steps, t x p.0)

pub not_first : (named marks : List ℕ) (x : ℕ) → Tells named marks → Some false ≡ insertion marks x → has x named ≡ true
not_first named marks x t q = let p = inserted marks x false q in grind (arith, common_steps, t x p.0)
