-- Sums over blocks, batches and draws.
use Rattle.std.proofs.Common.{◌≡◌, ℕ, zero, suc, ◌+◌, ◌*◌, ◌<◌, ◌≤◌, cond, eqb, List, [], ◌∷◌, length, get_or, refl, ap, ◌∙◌, arith}
use Rattle.std.proofs.lemmas.Bool.Decides.{nat_tests}
use Rattle.std.specs.List.{AllByRecursion}
use Rattle.batcher.specs.Holds.{tally}
use Rattle.batcher.specs.Records.{no_batch}
use Rattle.batcher.specs.declared.records.DrawIndirectValidationBatch.{DrawIndirectValidationBatch}
use Rattle.batcher.specs.declared.records.IndirectDraw.{IndirectDraw}
use Rattle.plan.specs.Planned.{bytes_of}
use Rattle.plan.specs.Staged.{all_bytes}

abbrev pub total : List DrawIndirectValidationBatch → ℕ
total [] = 0
total (b ∷ bs) = bytes_of b + total bs

none_bytes : (n : ℕ) → all_bytes n [] ≡ 0
none_bytes zero = refl
none_bytes (suc n) = omega (arith, none_bytes n)

one_outside : (n : ℕ) (b : DrawIndirectValidationBatch) (bs : List DrawIndirectValidationBatch) → n ≤ b.staging.index → all_bytes n (b ∷ bs) ≡ all_bytes n bs
one_outside zero b bs h = refl
one_outside (suc n) b bs h =
    let r = one_outside n b bs (omega (arith, h)) in
    grind (arith, nat_tests)

one_inside : (n : ℕ) (b : DrawIndirectValidationBatch) (bs : List DrawIndirectValidationBatch) → b.staging.index < n → all_bytes n (b ∷ bs) ≡ bytes_of b + all_bytes n bs
one_inside zero b bs h = absurd (omega (arith, h))
one_inside (suc n) b bs h =
    let out = one_outside n b bs in
    let inside = one_inside n b bs in
    grind (arith, nat_tests)

-- every batch is staged in one of the blocks
pub all_total : (n : ℕ) (bs : List DrawIndirectValidationBatch) → AllByRecursion (λ b. b.staging.index < n) bs → all_bytes n bs ≡ total bs
all_total n [] a = none_bytes n
all_total n (b ∷ bs) a = omega (arith, one_inside n b bs a.0, all_total n bs a.1)

sum_up : (ℕ → ℕ) → ℕ → ℕ
sum_up f zero = 0
sum_up f (suc n) = sum_up f n + f n

sum_same : (f h : ℕ → ℕ) (n : ℕ) → ((i : ℕ) → i < n → f i ≡ h i) → sum_up f n ≡ sum_up h n
unfolding sum_up
sum_same f h zero e = refl
sum_same f h (suc n) e = omega (arith, sum_same f h n (λ i l. e i (omega (arith, l))), e n (omega arith))

sum_first : (f : ℕ → ℕ) (n : ℕ) → sum_up f (suc n) ≡ f 0 + sum_up (λ i. f (suc i)) n
unfolding sum_up
sum_first f zero = omega arith
sum_first f (suc n) = omega (arith, sum_first f n)

total_sum : (bs : List DrawIndirectValidationBatch) → total bs ≡ sum_up (λ i. (get_or bs i no_batch).count * 16) (length bs)
unfolding sum_up
total_sum [] = refl
total_sum (b ∷ bs) = omega (arith, sum_first (λ i. (get_or (b ∷ bs) i no_batch).count * 16) (length bs), total_sum bs)

sum_add : (f h : ℕ → ℕ) (n : ℕ) → sum_up (λ i. (f i + h i) * 16) n ≡ sum_up (λ i. f i * 16) n + sum_up (λ i. h i * 16) n
unfolding sum_up
sum_add f h zero = refl
sum_add f h (suc n) = omega (arith, sum_add f h n)

sum_none : (n : ℕ) → sum_up (λ i. 0 * 16) n ≡ 0
unfolding sum_up
sum_none zero = refl
sum_none (suc n) = omega (arith, sum_none n)

sum_below : (k n : ℕ) → n ≤ k → sum_up (λ i. cond (eqb k i) 1 0 * 16) n ≡ 0
unfolding sum_up
sum_below k zero h = refl
sum_below k (suc n) h =
    let r = sum_below k n (omega (arith, h)) in
    grind (arith, nat_tests)

sum_one : (k n : ℕ) → k < n → sum_up (λ i. cond (eqb k i) 1 0 * 16) n ≡ 16
unfolding sum_up
sum_one k zero h = absurd (omega (arith, h))
sum_one k (suc n) h =
    let below = sum_below k n in
    let r = sum_one k n in
    grind (arith, nat_tests)

sum_tallies : (n : ℕ) (ds : List IndirectDraw) → AllByRecursion (λ d. d.batch < n) ds → sum_up (λ i. tally i ds * 16) n ≡ length ds * 16
sum_tallies n [] a = sum_none n
sum_tallies n (d ∷ ds) a =
    omega (arith, sum_add (λ i. cond (eqb d.batch i) 1 0) (λ i. tally i ds) n, sum_one d.batch n a.0, sum_tallies n ds a.1)

-- each draw is an entry of one batch
pub total_draws : (bs : List DrawIndirectValidationBatch) (ds : List IndirectDraw) → ((i : ℕ) → i < length bs → (get_or bs i no_batch).count ≡ tally i ds) → AllByRecursion (λ d. d.batch < length bs) ds → total bs ≡ length ds * 16
total_draws bs ds c a =
    total_sum bs ∙ sum_same (λ i. (get_or bs i no_batch).count * 16) (λ i. tally i ds * 16) (length bs) (λ i l. ap (λ (n : ℕ). n * 16) (c i l)) ∙ sum_tallies (length bs) ds a
