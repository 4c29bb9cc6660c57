-- Figures to hold the definitions of the contracts against.
use Rattle.std.specs.Prelude.{◌≡◌, ℕ, ◌+◌, false, List, [], ◌∷◌, Some, Option}
use Rattle.render.specs.declared.steps.VertexStep.{VertexStep}
use Rattle.render.specs.declared.steps.VertexStepMode.TheVariants.{Vertex}
use Rattle.render.specs.Limits.{own_limit}
use Rattle.entry.specs.declared.window.SrcOffsets.{SrcOffsets}
use Rattle.entry.specs.Entries.{packed, unpacked}
use Rattle.entry.specs.Verdicts.{verdict}
use Rattle.entry.specs.Window.{binding_size_of, src_offsets}
use Rattle.places.specs.Placed.{entry, placed}

abbrev pub example_step : VertexStep
example_step = record { stride = 8; last_stride = 12; mode = Vertex }

-- items of 8 bytes of which the last has 12, over 11, 12 and 20 bytes
abbrev pub StepFigures : Type 0
StepFigures = (own_limit example_step 11 ≡ Some 0) × (own_limit example_step 12 ≡ Some 1) × (own_limit example_step 20 ≡ Some 2)

abbrev pub split : ℕ → ℕ → SrcOffsets
split from at = record { dynamic_offset = from; offset = at }

-- windows of at most 84 bytes that begin at multiples of 32, over sources of 200 and 190 bytes
abbrev pub WindowFigures : Type 0
WindowFigures =
    (binding_size_of 32 84 200 ≡ 72) × (src_offsets 32 84 200 0 ≡ split 0 0) × (src_offsets 32 84 200 100 ≡ split 96 4) × (src_offsets 32 84 200 184 ≡ split 128 56) × (binding_size_of 32 84 190 ≡ 62)

-- the last 16 bytes of a buffer hold 16 bytes and not 20, in whichever buffer
abbrev pub PlaceFigures : Type 0
PlaceFigures =
    (i : ℕ) → (placed (Some (entry i 1048544)) 16 1048560 ≡ entry i 1048544) × (placed (Some (entry i 1048544)) 20 1048560 ≡ entry (i + 1) 0)

-- what the check draws of a draw that names `count` vertices from the last on, with a limit of 2 ^ 32 that an entry carries
abbrev pub from_last : ℕ → List ℕ
from_last count = count ∷ 1 ∷ 4294967295 ∷ 0 ∷ []

abbrev pub drawn_from_last : ℕ → Option (List ℕ)
drawn_from_last count = verdict false (unpacked (packed false 0 0 4294967296 1)) (from_last count)

abbrev pub LimitFigures : Type 0
LimitFigures = (drawn_from_last 1 ≡ Some (from_last 1)) × (drawn_from_last 2 ≡ Some (0 ∷ 0 ∷ 0 ∷ 0 ∷ []))

abbrev pub Figures : Type 0
Figures = StepFigures × WindowFigures × PlaceFigures × LimitFigures
