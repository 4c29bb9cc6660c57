-- Indices below a bound, and lists written over the front of another.
use Rattle.std.proofs.Common.{◌≡◌, ℕ, zero, suc, ◌+◌, ◌<◌, ◌≤◌, true, false, List, [], ◌∷◌, ◌++◌, length, get_or, drop, set, refl, arith}
use Rattle.std.proofs.lemmas.List.{drop_more, set_at}
use Rattle.std.proofs.lemmas.Grind.{common_steps}
use Rattle.utils.specs.Unique.{all_below, fronted}

pub below_more : (n : ℕ) (xs : List ℕ) (x : ℕ) → all_below n xs ≡ true → x < n → all_below n (xs ++ x ∷ []) ≡ true
below_more n [] x b h = grind (arith, common_steps)
below_more n (y ∷ ys) x b h = grind (arith, common_steps, below_more n ys x)

pub not_below : (n : ℕ) (xs : List ℕ) (i : ℕ) → i < length xs → n ≤ get_or xs i 0 → all_below n xs ≡ false
not_below n [] i l h = absurd (omega arith)
not_below n (x ∷ xs) zero l h = grind (arith, common_steps)
not_below n (x ∷ xs) (suc i) l h = grind (arith, common_steps, not_below n xs i)

pub fronted_more : (found room : List ℕ) (x : ℕ) → length found < length room → set (fronted found room) (length found) x ≡ fronted (found ++ x ∷ []) room
fronted_more found room x h = grind (arith, common_steps, drop_more room (length found) 0 h, set_at found (get_or room (length found) 0) (drop (length found + 1) room) x (length found) refl)
