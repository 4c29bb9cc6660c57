-- The destinations that a list of batches names, in its order.
use Rattle.std.specs.Prelude.{ℕ, List, map}
use Rattle.utils_trial.specs.declared.batch.Batch.{Batch}

abbrev pub destinations : List Batch → List ℕ
destinations bs = map (λ b. b.destination) bs
