-- What the calls answer that are no commands, and what they make of a device.
use Rattle.std.specs.Prelude.{ℕ, ◌+◌, ◌-◌, ◌*◌, ◌/◌, ◌%◌, Bool, cond, ◌&&◌, List, [], ◌∷◌, ◌++◌, length, replicate, Some, None, Option, ◌==◌, nat_le, nat_lt, slice_index_or, slice_set}
use Rattle.std.proofs.lemmas.List.Edits.{sets}
use Rattle.device.specs.declared.buffers.BufferUses.{BufferUses}
use Rattle.device.specs.declared.buffers.BufferUses.TheVariants.{MapWrite}
use Rattle.device.specs.declared.buffers.PoolKind.{PoolKind}
use Rattle.device.specs.declared.buffers.StagingBlock.{StagingBlock}
use Rattle.device.specs.Meaning.{Meaning, Holdings, Source, Buffer, Block, no_source, no_block, with_sources, with_pool, with_staging, with_blocks, with_makeable, with_holdings, with_mark}
use Rattle.device.specs.Uses.{same_use, resting_use}

-- make: one more pool buffer of zeros, as long as any is left to make, numbered by how many were made before it
abbrev pub can_make : Holdings → Bool
can_make h = nat_lt 0 h.makeable

abbrev pub fresh_buffer : PoolKind → Holdings → Buffer
fresh_buffer k h = record { kind = k; words = replicate (h.properties.buffer_size / 4) 0; state = resting_use k }

abbrev pub grown : PoolKind → Holdings → Holdings
grown k h = with_makeable (with_pool h (h.pool ++ fresh_buffer k h ∷ [])) (h.makeable - 1)

abbrev pub made : PoolKind → Meaning → Meaning
made k m = cond (can_make m.holds) (with_holdings m (grown k m.holds)) m

abbrev pub make_answer : Meaning → Option ℕ
make_answer m = cond (can_make m.holds) (Some (length m.holds.pool)) None

-- open: one more block of zeros for the host to fill, of whole entries of 16 bytes, if there are so many free bytes
abbrev pub can_open : ℕ → Holdings → Bool
can_open bytes h = nat_lt 0 bytes && (bytes % 16 == 0 && nat_le bytes h.staging.free)

abbrev pub fresh_block : ℕ → Block
fresh_block bytes = record { words = replicate (bytes / 4) 0; state = MapWrite }

abbrev pub extended : ℕ → Holdings → Holdings
extended bytes h = with_staging h (h.staging.blocks ++ fresh_block bytes ∷ []) (h.staging.free - bytes)

abbrev pub opened : ℕ → Meaning → Meaning
opened bytes m = cond (can_open bytes m.holds) (with_holdings m (extended bytes m.holds)) m

abbrev pub named : ℕ → StagingBlock
named n = record { number = n }

abbrev pub open_answer : ℕ → Meaning → Option StagingBlock
open_answer bytes m = cond (can_open bytes m.holds) (Some (named (length m.holds.staging.blocks))) None

-- a block that is there, in a given use
abbrev pub block_in : StagingBlock → BufferUses → Holdings → Bool
block_in b u h = nat_lt b.number (length h.staging.blocks) && same_use (slice_index_or h.staging.blocks b.number no_block).state u

abbrev pub block_words : StagingBlock → Holdings → List ℕ
block_words b h = (slice_index_or h.staging.blocks b.number no_block).words

-- fill: four words at a byte offset, inside a block that the host may fill; else only the mark is raised
abbrev pub can_fill : StagingBlock → ℕ → Holdings → Bool
can_fill b offset h = block_in b MapWrite h && (offset % 4 == 0 && nat_le (offset + 16) (4 * length (block_words b h)))

abbrev pub block_of : List ℕ → BufferUses → Block
block_of ws u = record { words = ws; state = u }

abbrev pub written : StagingBlock → ℕ → List ℕ → Holdings → Holdings
written b offset ws h = with_blocks h (slice_set h.staging.blocks b.number (block_of (sets (block_words b h) (offset / 4) ws) (slice_index_or h.staging.blocks b.number no_block).state))

abbrev pub filled : StagingBlock → ℕ → List ℕ → Meaning → Meaning
filled b offset ws m = cond (can_fill b offset m.holds) (with_holdings m (written b offset ws m.holds)) (with_mark m)

-- release: no block is left, and their bytes are free again
abbrev pub block_bytes : List Block → ℕ
block_bytes [] = 0
block_bytes (b ∷ bs) = 4 * length b.words + block_bytes bs

abbrev pub emptied : Holdings → Holdings
emptied h = with_staging h [] (h.staging.free + block_bytes h.staging.blocks)

abbrev pub released : Meaning → Meaning
released m = with_holdings m (emptied m.holds)

-- store: one word of a source, if there is such a word
abbrev pub has_word : ℕ → ℕ → Holdings → Bool
has_word s w h = nat_lt w (length (slice_index_or h.sources s no_source).words)

abbrev pub source_of : ℕ → List ℕ → Source
source_of size ws = record { size = size; words = ws }

abbrev pub replaced : ℕ → ℕ → ℕ → Holdings → Holdings
replaced s w v h = with_sources h (slice_set h.sources s (source_of (slice_index_or h.sources s no_source).size (slice_set (slice_index_or h.sources s no_source).words w v)))

abbrev pub stored : ℕ → ℕ → ℕ → Meaning → Meaning
stored s w v m = cond (has_word s w m.holds) (with_holdings m (replaced s w v m.holds)) m
