use Rattle.std.proofs.Common.{◌≡◌, map, length, take, drop}
use Rattle.frame_exports.proofs.records.put_each.Given as goal

abbrev pub invariant-loop-i : goal.invariant-loop-i
invariant-loop-i g l = (take l.i l.records ≡ map g.told (take l.i l.items)) × (drop (length l.items) l.records ≡ drop (length l.items) l.initial.records)
