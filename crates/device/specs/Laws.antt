-- What a command leaves as it was, on every device; and the error mark, which never falls.
use Rattle.std.specs.Prelude.{◌≡◌, ℕ, ◌+◌, ◌/◌, Bool, true, false, ◌&&◌, ◌||◌, List, [], ◌∷◌, map, length, ◌==◌, nat_le, nat_lt, slice_index, slice_index_or}
use Rattle.entry.specs.declared.metadata.MetadataEntry.{MetadataEntry}
use Rattle.device.specs.declared.buffers.BufferRef.{BufferRef}
use Rattle.device.specs.declared.buffers.BufferRef.TheVariants as buffer
use Rattle.device.specs.declared.buffers.PoolKind.{PoolKind}
use Rattle.device.specs.declared.buffers.StagingBlock.{StagingBlock}
use Rattle.device.specs.declared.commands.Command.{Command}
use Rattle.device.specs.declared.commands.Command.TheVariants.{Transition, Copy, Begin, Dispatch, End}
use Rattle.device.specs.declared.properties.Properties.{Properties}
use Rattle.device.specs.Calls.{made, opened, filled, released, stored}
use Rattle.device.specs.Dispatches.{entries_of, place_at, place_words}
use Rattle.device.specs.Meaning.{Meaning, Holdings, Source, Buffer, Block, no_buffer, no_block, with_mark}
use Rattle.device.specs.Plays.{lawful, played}

-- all that a device's questions can answer
pub record Answers : Type 0 where
  pub sizes : List ℕ
  pub makeable : ℕ
  pub blocks : ℕ
  pub free : ℕ
  pub properties : Properties

abbrev pub size_of : Source → ℕ
size_of s = s.size

abbrev pub answers : Holdings → Answers
answers h = record { sizes = map size_of h.sources; makeable = h.makeable; blocks = length h.staging.blocks; free = h.staging.free; properties = h.properties }

abbrev pub is_pool : BufferRef → ℕ → Bool
is_pool (buffer.Pool j) i = j == i
is_pool (buffer.Staging b) i = false

abbrev pub is_block : BufferRef → ℕ → Bool
is_block (buffer.Pool j) i = false
is_block (buffer.Staging b) i = b.number == i

-- the pool buffer and the block that a command changes, if any
abbrev pub alters_buffer : Command → ℕ → Bool
alters_buffer (Transition b) i = is_pool b.buffer i
alters_buffer (Copy c) i = c.buffer == i
alters_buffer Begin i = false
alters_buffer (Dispatch d) i = d.destination == i
alters_buffer End i = false

abbrev pub alters_block : Command → ℕ → Bool
alters_block (Transition b) i = is_block b.buffer i
alters_block (Copy c) i = false
alters_block Begin i = false
alters_block (Dispatch d) i = false
alters_block End i = false

abbrev pub between : ℕ → ℕ → ℕ → Bool
between at n k = nat_le at k && nat_lt k (at + n)

-- word k lies in the place of one of the entries
abbrev pub in_places : List MetadataEntry → ℕ → Bool
in_places [] k = false
in_places (e ∷ es) k = between (place_at e) (place_words e) k || in_places es k

-- the words of pool buffer i that a command writes: the range of a copy, and the places of a dispatch's entries
abbrev pub writes : Command → Holdings → ℕ → ℕ → Bool
writes (Transition b) h i k = false
writes (Copy c) h i k = c.buffer == i && between (c.dst_offset / 4) (c.size / 4) k
writes Begin h i k = false
writes (Dispatch d) h i k = d.destination == i && in_places (entries_of d h) k
writes End h i k = false

abbrev pub buffer_at : Meaning → ℕ → Buffer
buffer_at m i = slice_index_or m.holds.pool i no_buffer

abbrev pub block_at : Meaning → ℕ → Block
block_at m i = slice_index_or m.holds.staging.blocks i no_block

-- From m to n by command c.
pub record Leaves (c : Command) (m n : Meaning) : Type 0 where
  -- an unlawful command only raises the mark, and a lawful one leaves it
  pub unlawful : lawful c m ≡ false → n ≡ with_mark m
  pub mark : lawful c m ≡ true → n.marked ≡ m.marked
  -- no command changes a source, nor the answer to any question
  pub sources : n.holds.sources ≡ m.holds.sources
  pub answered : answers n.holds ≡ answers m.holds
  -- of the pool buffers only the one that is written or changes its use, and no kind and no length
  pub count : length n.holds.pool ≡ length m.holds.pool
  pub buffers : (i : ℕ) → alters_buffer c i ≡ false → buffer_at n i ≡ buffer_at m i
  pub kinds : (i : ℕ) → (buffer_at n i).kind ≡ (buffer_at m i).kind
  pub lengths : (i : ℕ) → length (buffer_at n i).words ≡ length (buffer_at m i).words
  -- of its words only those in the range of a copy, or in the places of a dispatch's entries
  pub words : (i k : ℕ) → writes c m.holds i k ≡ false → slice_index (buffer_at n i).words k ≡ slice_index (buffer_at m i).words k
  -- of the blocks only the use of the one that is named
  pub blocks : (i : ℕ) → alters_block c i ≡ false → block_at n i ≡ block_at m i
  pub staged : (i : ℕ) → (block_at n i).words ≡ (block_at m i).words

-- From m to n by any list of commands.
pub record LeavesAll (m n : Meaning) : Type 0 where
  pub mark : m.marked ≡ true → n.marked ≡ true
  pub sources : n.holds.sources ≡ m.holds.sources
  pub answered : answers n.holds ≡ answers m.holds

-- The error mark never falls, whatever is asked of a device.
pub record MarkStays (m : Meaning) : Type 0 where
  pub make : (k : PoolKind) → (made k m).marked ≡ true
  pub open_block : (bytes : ℕ) → (opened bytes m).marked ≡ true
  pub fill : (b : StagingBlock) (offset : ℕ) (ws : List ℕ) → (filled b offset ws m).marked ≡ true
  pub release : (released m).marked ≡ true
  pub store : (s w v : ℕ) → (stored s w v m).marked ≡ true
  pub command : (c : Command) → (played c m).marked ≡ true

abbrev pub MarkNeverFalls : Type 0
MarkNeverFalls = (m : Meaning) → m.marked ≡ true → MarkStays m
