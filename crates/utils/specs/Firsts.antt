-- The distinct indices of a list, in the order in which each is first named.
use Rattle.std.specs.Prelude.{◌≡◌, ℕ, suc, ◌<◌, Bool, false, cond, ◌||◌, List, [], ◌∷◌, ◌==◌}

abbrev pub has : ℕ → List ℕ → Bool
has k [] = false
has k (x ∷ xs) = k == x || has k xs

abbrev pub without : ℕ → List ℕ → List ℕ
without k [] = []
without k (x ∷ xs) = cond (k == x) (without k xs) (x ∷ without k xs)

abbrev pub firsts : List ℕ → List ℕ
firsts [] = []
firsts (x ∷ xs) = x ∷ without x (firsts xs)

-- How many stand before the first naming of k.
abbrev pub place : ℕ → List ℕ → ℕ
place k [] = 0
place k (x ∷ xs) = cond (k == x) 0 (suc (place k xs))

abbrev pub Distinct : List ℕ → Type 0
Distinct [] = Unit {0}
Distinct (x ∷ xs) = (has x xs ≡ false) × Distinct xs

abbrev pub SameMembers : List ℕ → List ℕ → Type 0
SameMembers xs ys = (k : ℕ) → has k xs ≡ has k ys

abbrev pub FirstBefore : List ℕ → ℕ → List ℕ → Type 0
FirstBefore named k [] = Unit {0}
FirstBefore named k (x ∷ xs) = (place k named < place x named) × FirstBefore named k xs

-- Each is first named before all that stand behind it.
abbrev pub InNamedOrder : List ℕ → List ℕ → Type 0
InNamedOrder named [] = Unit {0}
InNamedOrder named (x ∷ xs) = FirstBefore named x xs × InNamedOrder named xs

-- All that is named, each once, in the order of the first namings.
pub record FirstNamed (named found : List ℕ) : Type 0 where
  pub distinct : Distinct found
  pub members : SameMembers named found
  pub order : InNamedOrder named found
