-- Where a source, a pool buffer or a block lies in the words of a memory.
use Rattle.std.specs.Prelude.{◌≡◌, ℕ, ◌+◌, ◌-◌, ◌*◌, ◌/◌, ◌<◌, ◌≤◌, cond, vec_items, length, ◌==◌, slice_index, slice_index_or}
use Rattle.direct_memory.specs.Held.{shape}
use Rattle.direct_memory.specs.Layouts.{end_of, words_for}
use Rattle.direct_memory.specs.Regions.{Inside}
use Rattle.direct_memory.specs.Tables.{pool_slots, source_places}
use Rattle.direct_memory.specs.Views.{books_at, buffer_words, pool_at}
use Rattle.direct_memory.specs.declared.layout.SourcePlace.{SourcePlace}
use Rattle.direct_memory.specs.declared.memory.Memory.{Memory}
use Rattle.direct_memory.specs.declared.words.Region.{Region}

abbrev pub place_of : Memory → ℕ → SourcePlace
place_of m i = slice_index_or (source_places m.numbers.sources) i (record { start = 0; size = 0 })

pub record SourceLies (m : Memory) (i : ℕ) (g : Region) : Type 0 where
  pub there : i < length (source_places m.numbers.sources)
  pub start : g.start ≡ (place_of m i).start
  pub size : g.size ≡ words_for (place_of m i).size
  pub below : g.start + g.size ≤ m.numbers.staging_start
  pub room : Inside g (vec_items m.words)

pub record BufferLies (m : Memory) (i : ℕ) (g : Region) : Type 0 where
  pub there : i < length (pool_slots m.numbers.pool)
  pub start : g.start ≡ pool_at (shape m.numbers) + i * buffer_words (shape m.numbers)
  pub size : g.size ≡ buffer_words (shape m.numbers)
  pub above : pool_at (shape m.numbers) ≤ g.start
  pub room : Inside g (vec_items m.words)

-- the bookkeeping word of a block, and the byte of staging at which the block begins
abbrev pub book_word : Memory → ℕ → ℕ
book_word m b = slice_index (vec_items m.words) (books_at (shape m.numbers) + b)

abbrev pub begins_at : Memory → ℕ → ℕ
begins_at m b = cond (b == 0) 0 (end_of (book_word m (b - 1)))

pub record BlockLies (m : Memory) (b : ℕ) (g : Region) : Type 0 where
  pub there : b < m.numbers.blocks
  pub start : g.start ≡ m.numbers.staging_start + begins_at m b / 4
  pub size : g.size ≡ (end_of (book_word m b) - begins_at m b) / 4
  pub above : m.numbers.staging_start ≤ g.start
  pub below : g.start + g.size ≤ books_at (shape m.numbers)
  pub room : Inside g (vec_items m.words)
