use Rattle.std.proofs.Common.{◌≡◌, ◌++◌, length, take, drop, None}
use Rattle.places.specs.Counts.{counts}
use Rattle.frame_exports.specs.Subranges.{places_told}
use Rattle.frame_exports.proofs.subranges.put_places.Given as goal

abbrev pub invariant-loop-i : goal.invariant-loop-i
invariant-loop-i l =
    (take l.i l.places ++ places_told l.buffer_size (drop l.i l.sizes) l.current (counts l.supply.held l.supply.left) ≡ places_told l.buffer_size l.sizes None (counts 0 l.buffers))
    × (drop (length l.sizes) l.places ≡ drop (length l.sizes) l.initial.places)
