-- Places handed out one after another, as a relation between sizes and places.
use Rattle.std.specs.Prelude.{◌≡◌, ℕ, ◌+◌, ◌<◌, ◌≤◌, ◌⊎◌, List, [], ◌∷◌, ◌++◌, Some, None, Option}
use Rattle.std.specs.List.{AllByRecursion}
use Rattle.places.specs.declared.current.CurrentEntry.{CurrentEntry}

-- a place and the bytes that stand there
pub record Span : Type 0 where
  pub place : CurrentEntry
  pub size : ℕ

abbrev pub span : CurrentEntry → ℕ → Span
span p z = record { place = p; size = z }

-- t comes right after s in its buffer where it fits there, and only else at the start of the next one
abbrev pub Follows : ℕ → Span → Span → Type 0
Follows room s t =
    ((t.place.index ≡ s.place.index) × (t.place.offset ≡ s.place.offset + s.size) × (s.place.offset + s.size + t.size ≤ room))
    ⊎ ((t.place.index ≡ s.place.index + 1) × (t.place.offset ≡ 0) × (room < s.place.offset + s.size + t.size))

abbrev pub Chained : ℕ → Span → List Span → Type 0
Chained room s [] = Unit {0}
Chained room s (t ∷ ts) = Follows room s t × Chained room t ts

-- the first stands at the start of the first buffer, and each other one follows the one before
abbrev pub Laid : ℕ → List Span → Type 0
Laid room [] = Unit {0}
Laid room (s ∷ ts) = (s.place.index ≡ 0) × (s.place.offset ≡ 0) × Chained room s ts

abbrev pub EndsAfter : CurrentEntry → Span → List Span → Type 0
EndsAfter c s [] = (c.index ≡ s.place.index) × (c.offset ≡ s.place.offset + s.size)
EndsAfter c s (t ∷ ts) = EndsAfter c t ts

-- the current place is the end of the last
abbrev pub Ends : Option CurrentEntry → List Span → Type 0
Ends None [] = Unit {0}
Ends None (s ∷ ts) = ⊥
Ends (Some c) [] = ⊥
Ends (Some c) (s ∷ ts) = EndsAfter c s ts

-- no byte stands in both
abbrev pub Apart : Span → Span → Type 0
Apart s t = s.place.index ≡ t.place.index → (s.place.offset + s.size ≤ t.place.offset) ⊎ (t.place.offset + t.size ≤ s.place.offset)

abbrev pub Within : ℕ → Span → Type 0
Within room s = s.place.offset + s.size ≤ room

-- what holds of a place that is handed out after others
pub record Next (room : ℕ) (spans : List Span) (current : Option CurrentEntry) (s : Span) : Type 0 where
  pub laid : Laid room (spans ++ s ∷ [])
  pub ends : Ends current (spans ++ s ∷ [])
  pub apart : AllByRecursion (Apart s) spans
  pub within : s.size ≤ room → Within room s

-- s stands in an earlier buffer than t, or ends before t in the same one
abbrev pub Before : Span → Span → Type 0
Before s t = (s.place.index ≤ t.place.index) × (s.place.index ≡ t.place.index → s.place.offset + s.size ≤ t.place.offset)

abbrev pub Pairwise : {X : Type 0} → (X → X → Type 0) → List X → Type 0
Pairwise R [] = Unit {0}
Pairwise R (x ∷ xs) = AllByRecursion (R x) xs × Pairwise R xs

-- Places that were laid one after another share no byte, and each lies inside its buffer where its size does.
abbrev pub LaidApart : Type 0
LaidApart = (room : ℕ) (spans : List Span) → Laid room spans → AllByRecursion (λ s. s.size ≤ room) spans → Pairwise Before spans × AllByRecursion (Within room) spans
