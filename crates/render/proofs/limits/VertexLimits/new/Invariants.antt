use Rattle.std.proofs.Common.{◌≡◌}
use Rattle.std.specs.Iterator.Adapters.{enumerate_count, enumerate_source, zip_first, zip_second}
use Rattle.std.specs.Slice.Iter.{iter_rest}
use Rattle.render.specs.Limits.{limits_from, unlimited}
use Rattle.render.proofs.Folds.{both}
use Rattle.render.proofs.limits.VertexLimits.new.Given as goal

abbrev pub invariant-loop-i : goal.invariant-loop-i
invariant-loop-i l =
    limits_from (iter_rest (zip_first (enumerate_source l.i-iterator))) (iter_rest (zip_second (enumerate_source l.i-iterator))) (enumerate_count l.i-iterator) (both l.vertex l.instance) ≡ limits_from l.slots l.steps 0 unlimited
