-- Batches by their keys.
use Rattle.std.specs.Prelude.{◌≡◌, ℕ, ◌<◌, Bool, true, false, cond, List, length, take, Some, None, Option, ◌==◌, All, position, slice_index_or}
use Rattle.batcher.specs.declared.records.BatchKey.{BatchKey}
use Rattle.batcher.specs.declared.records.DrawIndirectValidationBatch.{DrawIndirectValidationBatch}
use Rattle.batcher.specs.Records.{no_batch}

abbrev pub same_key : BatchKey → BatchKey → Bool
same_key j k = cond (j.source == k.source) (cond (j.window == k.window) (j.destination == k.destination) false) false

abbrev pub has_key : BatchKey → DrawIndirectValidationBatch → Bool
has_key k b = same_key b.key k

-- the position of the first batch with the key, or nothing
abbrev pub found : BatchKey → List DrawIndirectValidationBatch → Option ℕ
found k bs = position (has_key k) bs

-- the first batch with the key stands there
pub record First (k : BatchKey) (bs : List DrawIndirectValidationBatch) (i : ℕ) : Type 0 where
  pub within : i < length bs
  pub has : has_key k (slice_index_or bs i no_batch) ≡ true
  pub sooner : All (λ b. has_key k b ≡ false) (take i bs)

-- what a search answers: nothing exactly where no batch has the key
abbrev pub Finds : BatchKey → List DrawIndirectValidationBatch → Option ℕ → Type 0
Finds k bs None = All (λ b. has_key k b ≡ false) bs
Finds k bs (Some i) = First k bs i
