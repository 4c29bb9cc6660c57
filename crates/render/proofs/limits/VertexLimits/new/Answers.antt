use Rattle.std.proofs.Common.{None, sym, refl, ◌∙◌, rules}
use Rattle.std.specs.Iterator.Adapters.{enumerate_source}
use Rattle.std.proofs.lemmas.Slice.Zip.{either_empty_from_Zip}
use Rattle.render.proofs.Folds.{both, from_end, goes_none, ends_missing, goes_repeated, goes_vertex, goes_instance}
use Rattle.render.proofs.limits.VertexLimits.new.Goals as goal

pub loop-i-preserved-in_default : goal.loop-i-preserved-in_default
loop-i-preserved-in_default c = goes_none c.loop-i.vertex c.loop-i.instance c.in-Some.ensures.steps c.loop-i.invariant c.in_default.is

pub returns-in_default-range : goal.returns-in_default-range
returns-in_default-range c = search rules ∙ ends_missing c.loop-i.vertex c.loop-i.instance c.in-Some.ensures.steps c.loop-i.invariant c.in-Some-step.is c.in_default-range.is

pub loop-i-preserved-in_default-own_limit : goal.loop-i-preserved-in_default-own_limit
loop-i-preserved-in_default-own_limit c =
    goes_repeated c.loop-i.vertex c.loop-i.instance c.in-Some.ensures.steps c.loop-i.invariant c.in-Some-step.is c.in-Some-range.is c.size.ensures.value c.own_limit.ensures c.in_default-own_limit.is

pub loop-i-preserved-in-Vertex : goal.loop-i-preserved-in-Vertex
loop-i-preserved-in-Vertex c =
    rw c.lower.ensures (goes_vertex c.loop-i.vertex c.loop-i.instance c.in-Some.ensures.steps c.loop-i.invariant c.in-Some-step.is c.in-Some-range.is c.size.ensures.value c.own_limit.ensures c.in-Some-own_limit.is c.in-Vertex.is)

pub loop-i-preserved : goal.loop-i-preserved
loop-i-preserved c =
    rw c.lower-in-Instance.ensures (goes_instance c.loop-i.vertex c.loop-i.instance c.in-Some.ensures.steps c.loop-i.invariant c.in-Some-step.is c.in-Some-range.is c.size.ensures.value c.own_limit.ensures c.in-Some-own_limit.is c.in-Instance.is)

pub returns : goal.returns
returns c =
    let done = c.in-None.ensures.steps in
    sym (from_end _ _ _ (both c.loop-i.vertex c.loop-i.instance) (either_empty_from_Zip _ (enumerate_source c.next.new.self) None refl done.0)) ∙ c.loop-i.invariant
