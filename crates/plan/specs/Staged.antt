-- What a plan is for.
use Rattle.std.specs.Prelude.{◌≡◌, ℕ, zero, suc, ◌+◌, ◌*◌, ◌<◌, cond, List, [], ◌∷◌, map, ◌==◌}
use Rattle.std.specs.List.{AllByRecursion}
use Rattle.places.specs.Laid.{Span, span, Before, Pairwise, Within, Laid}
use Rattle.batcher.specs.declared.records.DrawIndirectValidationBatch.{DrawIndirectValidationBatch}
use Rattle.plan.specs.Planned.{bytes_of}

abbrev pub staging_span : DrawIndirectValidationBatch → Span
staging_span b = span b.staging (bytes_of b)

abbrev pub metadata_span : DrawIndirectValidationBatch → Span
metadata_span b = span b.metadata (bytes_of b)

-- the bytes that are staged in block k
abbrev pub block_bytes : ℕ → List DrawIndirectValidationBatch → ℕ
block_bytes k [] = 0
block_bytes k (b ∷ bs) = cond (b.staging.index == k) (bytes_of b) 0 + block_bytes k bs

-- the bytes of the first n blocks
abbrev pub all_bytes : ℕ → List DrawIndirectValidationBatch → ℕ
all_bytes zero bs = 0
all_bytes (suc n) bs = block_bytes n bs + all_bytes n bs

-- places in buffers of `room` bytes: laid one after another, so that no two share a byte, and each inside
pub record Spread (room : ℕ) (spans : List Span) : Type 0 where
  pub laid : Laid room spans
  pub apart : Pairwise Before spans
  pub within : AllByRecursion (Within room) spans

-- a frame's batches in `blocks` staging blocks and `buffers` metadata buffers
pub record Staged (block room draws blocks buffers : ℕ) (bs : List DrawIndirectValidationBatch) : Type 0 where
  pub staging : Spread block (map staging_span bs)
  pub metadata : Spread room (map metadata_span bs)
  pub reached : AllByRecursion (λ b. (b.staging.index < blocks) × (b.metadata.index < buffers)) bs
  pub whole : all_bytes blocks bs ≡ draws * 16
