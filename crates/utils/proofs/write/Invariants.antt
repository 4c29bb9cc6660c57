use Rattle.std.proofs.Common.{◌≡◌, ◌≤◌, length, take}
use Rattle.utils.proofs.Reading.{Read}
use Rattle.utils.proofs.write.Given as goal
use Rattle.utils.specs.Firsts.{firsts}
use Rattle.utils.specs.Unique.{fronted}

abbrev pub invariant-loop-index : goal.invariant-loop-index
invariant-loop-index l = record {
  same : l.seen.marks.ghost_name ≡ l.initial.seen.marks.ghost_name;
  read : Read (length l.initial.seen.marks.now) (take l.index-index l.indices) l.seen.marks.now;
  count : l.found ≡ length (firsts (take l.index-index l.indices));
  few : l.found ≤ l.index-index;
  written : l.found ≤ length l.initial.out → l.out ≡ fronted (firsts (take l.index-index l.indices)) l.initial.out;
}
