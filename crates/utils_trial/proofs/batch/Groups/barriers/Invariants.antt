use Rattle.std.proofs.Common.{◌≡◌, ◌++◌, length, take, vec_items}
use Rattle.utils.proofs.Reading.{Read}
use Rattle.utils.specs.Firsts.{firsts}
use Rattle.utils_trial.proofs.batch.Groups.barriers.Given as goal
use Rattle.utils_trial.specs.Named.{destinations}

abbrev pub invariant-loop-batch : goal.invariant-loop-batch
invariant-loop-batch l = record {
  same : l.seen.marks.ghost_name ≡ l.initial.seen.marks.ghost_name;
  read : Read (length l.initial.seen.marks.now) (destinations (take l.batch-index l.batches)) l.seen.marks.now;
  listed : vec_items l.out ≡ vec_items l.initial.out ++ firsts (destinations (take l.batch-index l.batches));
}
