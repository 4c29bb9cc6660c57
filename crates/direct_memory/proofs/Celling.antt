-- Cells that lie one after another: what a write does to what they read.
use Rattle.std.proofs.Common.{◌≡◌, ℕ, zero, suc, ◌+◌, ◌<◌, ◌≤◌, List, [], ◌∷◌, ◌++◌, length, get_or, set, refl, ap, le_of_suc-le-suc, not-suc-le-zero, arith}
use lib.Seq.{sets}
use Rattle.direct_memory.specs.Cells.{Cell, part, reads}
use Rattle.direct_memory.proofs.Wording.{part_sets_in, part_sets_below, part_sets_above}

module _ {X : Type 0} where
  -- one after another, from a to b
  abbrev pub Laid : ℕ → List (Cell X) → ℕ → Type 0
  Laid a [] b = a ≡ b
  Laid a (c ∷ cs) b = (c.start ≡ a) × Laid (a + c.size) cs b

  pub laid_below : (cs : List (Cell X)) (a b : ℕ) → Laid a cs b → a ≤ b
  laid_below [] a b h = omega arith
  laid_below (c ∷ cs) a b h = let l = laid_below cs (a + c.size) b h.1 in omega arith

  pub laid_start : (cs : List (Cell X)) (a b i : ℕ) (d : Cell X) → Laid a cs b → i < length cs → a ≤ (get_or cs i d).start
  laid_start [] a b i d h l = absurd (not-suc-le-zero l)
  laid_start (c ∷ cs) a b zero d h l = omega (arith, h.0)
  laid_start (c ∷ cs) a b (suc i) d h l = let k = laid_start cs (a + c.size) b i d h.1 (le_of_suc-le-suc l) in omega arith

  pub laid_end : (cs : List (Cell X)) (a b i : ℕ) (d : Cell X) → Laid a cs b → i < length cs → (get_or cs i d).start + (get_or cs i d).size ≤ b
  laid_end [] a b i d h l = absurd (not-suc-le-zero l)
  laid_end (c ∷ cs) a b zero d h l = omega (arith, h.0, laid_below cs (a + c.size) b h.1)
  laid_end (c ∷ cs) a b (suc i) d h l = laid_end cs (a + c.size) b i d h.1 (le_of_suc-le-suc l)

  pub length_reads : (cs : List (Cell X)) (ws : List ℕ) → length (reads cs ws) ≡ length cs
  length_reads [] ws = refl
  length_reads (c ∷ cs) ws = ap suc (length_reads cs ws)

  pub get_d_reads : (cs : List (Cell X)) (ws : List ℕ) (i : ℕ) (d : Cell X) (e : X) → i < length cs → get_or (reads cs ws) i e ≡ (get_or cs i d).read (part (get_or cs i d).start (get_or cs i d).size ws)
  get_d_reads [] ws i d e h = absurd (not-suc-le-zero h)
  get_d_reads (c ∷ cs) ws zero d e h = refl
  get_d_reads (c ∷ cs) ws (suc i) d e h = get_d_reads cs ws i d e (le_of_suc-le-suc h)

  pub reads-++ : (cs ds : List (Cell X)) (ws : List ℕ) → reads (cs ++ ds) ws ≡ reads cs ws ++ reads ds ws
  reads-++ [] ds ws = refl
  reads-++ (c ∷ cs) ds ws = ap (λ t. c.read (part c.start c.size ws) ∷ t) (reads-++ cs ds ws)

  pub reads_below : (cs : List (Cell X)) (a b : ℕ) (vs ws : List ℕ) (k : ℕ) → Laid a cs b → k + length vs ≤ a → reads cs (sets ws k vs) ≡ reads cs ws
  reads_below [] a b vs ws k h l = refl
  reads_below (c ∷ cs) a b vs ws k h l =
      let e : k + length vs ≤ c.start = omega (arith, h.0) in
      rw (part_sets_below c.start c.size vs ws k e, reads_below cs (a + c.size) b vs ws k h.1 (omega arith))

  pub reads_above : (cs : List (Cell X)) (a b : ℕ) (vs ws : List ℕ) (k : ℕ) → Laid a cs b → b ≤ k → reads cs (sets ws k vs) ≡ reads cs ws
  reads_above [] a b vs ws k h l = refl
  reads_above (c ∷ cs) a b vs ws k h l =
      let e : c.start + c.size ≤ k = omega (arith, h.0, laid_below cs (a + c.size) b h.1) in
      rw (part_sets_above c.start c.size vs ws k e, reads_above cs (a + c.size) b vs ws k h.1 l)

  -- a write inside the cell i
  pub reads_in : (cs : List (Cell X)) (a b : ℕ) (vs ws : List ℕ) (i off k : ℕ) (d : Cell X) → Laid a cs b → i < length cs → k ≡ (get_or cs i d).start + off → off + length vs ≤ (get_or cs i d).size
      → reads cs (sets ws k vs) ≡ set (reads cs ws) i ((get_or cs i d).read (sets (part (get_or cs i d).start (get_or cs i d).size ws) off vs))
  reads_in [] a b vs ws i off k d h l e f = refl
  reads_in (c ∷ cs) a b vs ws zero off k d h l e f =
      let g : k + length vs ≤ a + c.size = omega (arith, h.0) in
      rw (part_sets_in c.start c.size vs ws off k e f, reads_below cs (a + c.size) b vs ws k h.1 g)
  reads_in (c ∷ cs) a b vs ws (suc i) off k d h l e f =
      let from = laid_start cs (a + c.size) b i d h.1 (le_of_suc-le-suc l) in
      let g : c.start + c.size ≤ k = omega (arith, h.0) in
      rw (part_sets_above c.start c.size vs ws k g, reads_in cs (a + c.size) b vs ws i off k d h.1 (le_of_suc-le-suc l) e f)
