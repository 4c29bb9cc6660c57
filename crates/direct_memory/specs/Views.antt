-- What words mean that are cut so.
use Rattle.std.specs.Prelude.{ℕ, ◌+◌, ◌-◌, ◌/◌, ◌%◌, List, [], ◌∷◌, map, length}
use Rattle.device.specs.Calls.{block_of, source_of}
use Rattle.device.specs.Uses.{use_from}
use Rattle.device.specs.Meaning.{Block, Buffer, Holdings, Source}
use Rattle.device.specs.declared.properties.Properties.{Properties}
use Rattle.direct_memory.specs.Cells.{Cell, cell, part, reads}
use Rattle.direct_memory.specs.Layouts.{end_of, words_for}
use Rattle.direct_memory.specs.declared.layout.PoolSlot.{PoolSlot}
use Rattle.direct_memory.specs.declared.layout.SourcePlace.{SourcePlace}

-- the numbers that say how words are cut
pub record Shape : Type 0 where
  pub sources : List SourcePlace
  pub staging : ℕ
  pub size : ℕ
  pub blocks : ℕ
  pub used : ℕ
  pub slots : List PoolSlot
  pub most : ℕ
  pub properties : Properties

-- where the bookkeeping of blocks begins, and where the pool does
abbrev pub books_at : Shape → ℕ
books_at s = s.staging + s.size / 4

abbrev pub pool_at : Shape → ℕ
pool_at s = s.staging + s.size / 4 + s.size / 16

abbrev pub buffer_words : Shape → ℕ
buffer_words s = s.properties.buffer_size / 4

abbrev pub source_cell : SourcePlace → Cell Source
source_cell p = cell p.start (words_for p.size) (source_of p.size)

abbrev pub buffer_of : PoolSlot → List ℕ → Buffer
buffer_of p ws = record { kind = p.kind; words = ws; state = p.state }

abbrev pub pool_cells : List PoolSlot → ℕ → ℕ → List (Cell Buffer)
pool_cells [] at n = []
pool_cells (p ∷ ps) at n = cell at n (buffer_of p) ∷ pool_cells ps (at + n) n

abbrev pub block_from : ℕ → List ℕ → Block
block_from r ws = block_of ws (use_from (r % 16))

-- blocks from byte `from` of the staging that begins at word `at`, by their bookkeeping words
abbrev pub block_cells : ℕ → ℕ → List ℕ → List (Cell Block)
block_cells at from [] = []
block_cells at from (r ∷ rs) = cell (at + from / 4) ((end_of r - from) / 4) (block_from r) ∷ block_cells at (end_of r) rs

abbrev pub books : Shape → List ℕ → List ℕ
books s ws = part (books_at s) s.blocks ws

abbrev pub sources_in : Shape → List ℕ → List Source
sources_in s ws = reads (map source_cell s.sources) ws

abbrev pub pool_in : Shape → List ℕ → List Buffer
pool_in s ws = reads (pool_cells s.slots (pool_at s) (buffer_words s)) ws

abbrev pub blocks_in : Shape → List ℕ → List Block
blocks_in s ws = reads (block_cells s.staging 0 (books s ws)) ws

abbrev pub holdings : Shape → List ℕ → Holdings
holdings s ws = record {
  sources = sources_in s ws;
  pool = pool_in s ws;
  staging = record { blocks = blocks_in s ws; free = s.size - s.used };
  makeable = s.most - length s.slots;
  properties = s.properties;
}
