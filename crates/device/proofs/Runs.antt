-- A run of words written into a list: what it leaves.
use Rattle.std.proofs.Common.{◌≡◌, ℕ, suc, ◌+◌, ◌<◌, ◌≤◌, false, List, [], ◌∷◌, length, get_or, set, refl, ◌∙◌, ⊎_elim, arith}
use lib.Seq.{sets}
use Rattle.std.proofs.lemmas.List.{get_or-set_other}
use Rattle.std.proofs.lemmas.Bool.Decides.{nat_tests}
use Rattle.std.proofs.lemmas.Bool.{cases_lt}
use Rattle.device.specs.Laws.{between}

module _ {X : Type 0} where
  pub get_d_sets_below : (vs l : List X) (i k : ℕ) (d : X) → k < i → get_or (sets l i vs) k d ≡ get_or l k d
  get_d_sets_below [] l i k d h = refl
  get_d_sets_below (x ∷ vs) l i k d h = get_d_sets_below vs (set l i x) (suc i) k d (omega arith) ∙ get_or-set_other l i k x d (λ e. omega arith)

  pub get_d_sets_above : (vs l : List X) (i k : ℕ) (d : X) → i + length vs ≤ k → get_or (sets l i vs) k d ≡ get_or l k d
  get_d_sets_above [] l i k d h = refl
  get_d_sets_above (x ∷ vs) l i k d h = get_d_sets_above vs (set l i x) (suc i) k d (omega arith) ∙ get_or-set_other l i k x d (λ e. omega arith)

  -- a word that lies in no range of n from i on, where no more than n are written
  pub get_d_sets_outside : (vs l : List X) (i n k : ℕ) (d : X) → length vs ≤ n → between i n k ≡ false → get_or (sets l i vs) k d ≡ get_or l k d
  get_d_sets_outside vs l i n k d few out =
      ⊎_elim
      (λ h. get_d_sets_below vs l i k d h)
      (λ h. let past : i + n ≤ k = grind (arith, nat_tests) in get_d_sets_above vs l i k d (omega arith))
      (cases_lt k i)
