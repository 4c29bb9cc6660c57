-- When a draw can be asked for at all.
use Rattle.std.specs.Prelude.{ℕ, Bool, true, false, cond, not, ◌&&◌, List, [], ◌∷◌, is_some, Some, None, Ok, Option, Result, ◌==◌, nat_lt}
use Rattle.command.specs.Checks.{first}
use Rattle.command.specs.declared.family.DrawCommandFamily.{DrawCommandFamily}
use Rattle.command.specs.declared.family.DrawCommandFamily.TheVariants.{Draw, DrawIndexed}
use Rattle.command.specs.declared.refusal.Refusal.{Refusal}
use Rattle.command.specs.declared.refusal.Refusal.TheVariants.{MissingPipeline, MissingVertexBuffer, MissingIndexBuffer, UnknownKind}
use Rattle.render.specs.declared.bindings.VertexSlot.{VertexSlot}
use Rattle.render.specs.declared.steps.VertexStep.{VertexStep}
use Rattle.render.specs.Bound.{Bound}

-- the slot of each step that is present has a range
unfoldable pub covered : List VertexSlot → List (Option VertexStep) → Bool
covered slots [] = true
covered [] (None ∷ steps) = covered [] steps
covered [] (Some st ∷ steps) = false
covered (s ∷ slots) (None ∷ steps) = covered slots steps
covered (s ∷ slots) (Some st ∷ steps) = is_some s.range && covered slots steps

abbrev pub buffers_bound : Bound → Bool
buffers_bound b = elim b.steps [ None ↦ true | Some steps ↦ covered b.slots steps ]

abbrev pub ready_checks : Bound → ℕ → List (Bool × Refusal)
ready_checks b kind =
    (not (is_some b.steps), MissingPipeline) ∷
    (not (buffers_bound b), MissingVertexBuffer) ∷
    (kind == 1 && not (is_some b.index), MissingIndexBuffer) ∷
    (not (nat_lt kind 2), UnknownKind) ∷
    []

-- the family of a kind that is 0 or 1
abbrev pub family_named : ℕ → DrawCommandFamily
family_named kind = cond (kind == 0) Draw DrawIndexed

abbrev pub ready : Bound → ℕ → Result DrawCommandFamily Refusal
ready b kind = first (ready_checks b kind) (Ok (family_named kind))
