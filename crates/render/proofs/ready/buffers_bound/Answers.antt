use Rattle.std.proofs.Common.{◌≡◌, ◌≤◌, Bool, not, ◌&&◌, ◌||◌, List, [], ◌∷◌, length, is_some, Some, None, Option, refl, ap, ◌∙◌, arith, rules}
use Rattle.std.specs.List.{list_all, zip}
use Rattle.std.proofs.lemmas.Iterator.{YieldsList-from_slice, YieldsList-from_zip}
use Rattle.std.proofs.lemmas.Iterator.Search.{all_from_yields_List}
use borrow.Author.Tests.{tests}
use Rattle.render.specs.declared.bindings.VertexSlot.{VertexSlot}
use Rattle.render.specs.declared.steps.VertexStep.{VertexStep}
use Rattle.render.specs.Ready.{covered}
use Rattle.render.proofs.ready.buffers_bound.Goals as goal

-- a step that is absent needs no range
abbrev served : VertexSlot × Option VertexStep → Bool
served p = not (is_some p.1) || is_some p.0.range

each_served : (slots : List VertexSlot) (steps : List (Option VertexStep)) → length steps ≤ length slots → list_all served (zip slots steps) ≡ covered slots steps
unfolding covered
each_served [] [] h = refl
each_served [] (step ∷ steps) h = absurd (omega arith)
each_served (s ∷ slots) [] h = refl
each_served (s ∷ slots) (None ∷ steps) h = each_served slots steps (omega arith)
each_served (s ∷ slots) (Some st ∷ steps) h = ap (λ (b : Bool). is_some s.range && b) (each_served slots steps (omega arith))

pub returns : goal.returns
returns c =
    all_from_yields_List served c.all.new.self _ _ c.all.ensures.ran (YieldsList-from_zip (YieldsList-from_slice c.args.slots.now (cc)) (YieldsList-from_slice c.args.steps.now (cc))) (λ x b q k. search (rules, tests))
    ∙ each_served c.args.slots.now c.args.steps.now (omega arith)
