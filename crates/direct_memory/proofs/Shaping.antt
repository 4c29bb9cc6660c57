-- Words that are cut as a shape says.
use Rattle.std.proofs.Common.{◌≡◌, ℕ, zero, suc, ◌+◌, ◌-◌, ◌*◌, ◌/◌, ◌%◌, ◌^◌, ◌<◌, ◌≤◌, true, ◌&&◌, eqb, ltb, List, [], ◌∷◌, map, length, get_or, set, refl, ap, ◌∙◌, le_of_suc-le-suc, not-suc-le-zero, mul-le-mul_right, add-mul, arith}
use lib.Seq.{sets}
use Rattle.std.proofs.lemmas.List.{length-map, get_or-map, get_or_past}
use Rattle.std.proofs.lemmas.Bool.{and_parts, eqb-true, ltb-true}
use Rattle.device.specs.Calls.{source_of}
use Rattle.device.specs.Meaning.{Buffer, Source, no_buffer, no_source}
use Rattle.device.specs.declared.buffers.BufferUses.TheVariants.{MapWrite}
use Rattle.device.specs.declared.buffers.PoolKind.TheVariants.{Destination}
use Rattle.direct_memory.specs.Cells.{Cell, cell, part, reads}
use Rattle.direct_memory.specs.Layouts.{booked, end_of, laid_sources, words_for}
use Rattle.direct_memory.specs.Views.{Shape, block_cells, blocks_in, books, books_at, buffer_of, buffer_words, pool_at, pool_cells, pool_in, source_cell, sources_in}
use Rattle.direct_memory.specs.declared.layout.PoolSlot.{PoolSlot}
use Rattle.direct_memory.specs.declared.layout.SourcePlace.{SourcePlace}
use Rattle.direct_memory.proofs.Celling.{Laid, laid_end, length_reads, get_d_reads, reads_above, reads_below, reads_in}
use Rattle.direct_memory.proofs.Wording.{length_part, part_sets_above, part_sets_below}

-- what stands where there is nothing
abbrev pub no_place : SourcePlace
no_place = record { start = 0; size = 0 }

abbrev pub no_slot : PoolSlot
no_slot = record { kind = Destination; state = MapWrite }

-- the facts that a direct device's numbers and words keep
pub record Fits (s : Shape) (ws : List ℕ) : Type 0 where
  pub laid : laid_sources 0 s.sources s.staging ≡ true
  pub whole : s.size % 16 ≡ 0
  pub small : s.size < 2 ^ 32
  pub within : s.used ≤ s.size
  pub listed : 16 * s.blocks ≤ s.used
  pub fewer : length s.slots ≤ s.most
  pub room : pool_at s + s.most * buffer_words s ≤ length ws
  pub booked : booked 0 (books s ws) s.used ≡ true

-- sources
laid_parts : (p : SourcePlace) (ps : List SourcePlace) (a b : ℕ) → laid_sources a (p ∷ ps) b ≡ true → (p.start ≡ a) × (p.size < 2 ^ 32) × (laid_sources (a + words_for p.size) ps b ≡ true)
laid_parts p ps a b h =
    let x = and_parts (eqb p.start a) (ltb p.size (2 ^ 32) && laid_sources (a + words_for p.size) ps b) h in
    let y = and_parts (ltb p.size (2 ^ 32)) (laid_sources (a + words_for p.size) ps b) x.1 in
    (eqb-true p.start a x.0, ltb-true p.size (2 ^ 32) y.0, y.1)

sources_from : (ps : List SourcePlace) (a b : ℕ) → laid_sources a ps b ≡ true → Laid a (map source_cell ps) b
sources_from [] a b h = eqb-true a b h
sources_from (p ∷ ps) a b h =
    let x = laid_parts p ps a b h in
    (x.0, sources_from ps (a + words_for p.size) b x.2)

pub source_small : (ps : List SourcePlace) (a b i : ℕ) → laid_sources a ps b ≡ true → i < length ps → (get_or ps i no_place).size < 2 ^ 32
source_small [] a b i h l = absurd (not-suc-le-zero l)
source_small (p ∷ ps) a b zero h l = (laid_parts p ps a b h).1
source_small (p ∷ ps) a b (suc i) h l = source_small ps (a + words_for p.size) b i (laid_parts p ps a b h).2 (le_of_suc-le-suc l)

-- blocks
end_whole : (r : ℕ) → end_of r % 16 ≡ 0
end_whole r = omega arith

pub booked_parts : (r : ℕ) (rs : List ℕ) (from used : ℕ) → booked from (r ∷ rs) used ≡ true → (from < end_of r) × (booked (end_of r) rs used ≡ true)
booked_parts r rs from used h =
    let x = and_parts (ltb from (end_of r)) (booked (end_of r) rs used) h in
    (ltb-true from (end_of r) x.0, x.1)

blocks_from : (at : ℕ) (rs : List ℕ) (from used : ℕ) → from % 16 ≡ 0 → booked from rs used ≡ true → Laid (at + from / 4) (block_cells at from rs) (at + used / 4)
blocks_from at [] from used z h = ap (λ (k : ℕ). at + k / 4) (eqb-true from used h)
blocks_from at (r ∷ rs) from used z h =
    let x = booked_parts r rs from used h in
    let e : at + end_of r / 4 ≡ at + from / 4 + (end_of r - from) / 4 = omega (arith, x.0) in
    (refl, rw (← e) (blocks_from at rs (end_of r) used (end_whole r) x.1))

pub length_block_cells : (at : ℕ) (rs : List ℕ) (from : ℕ) → length (block_cells at from rs) ≡ length rs
length_block_cells at [] from = refl
length_block_cells at (r ∷ rs) from = ap suc (length_block_cells at rs (end_of r))

-- pool buffers
length_pool_cells : (ps : List PoolSlot) (at n : ℕ) → length (pool_cells ps at n) ≡ length ps
length_pool_cells [] at n = refl
length_pool_cells (p ∷ ps) at n = ap suc (length_pool_cells ps (at + n) n)

pool_from : (ps : List PoolSlot) (at n : ℕ) → Laid at (pool_cells ps at n) (at + length ps * n)
pool_from [] at n = omega arith
pool_from (p ∷ ps) at n =
    let e : at + suc (length ps) * n ≡ at + n + length ps * n = omega arith in
    (refl, rw e (pool_from ps (at + n) n))

abbrev no_pool_cell : Cell Buffer
no_pool_cell = cell 0 0 (buffer_of no_slot)

pool_cell : (ps : List PoolSlot) (at n i : ℕ) → i < length ps → get_or (pool_cells ps at n) i no_pool_cell ≡ cell (at + i * n) n (buffer_of (get_or ps i no_slot))
pool_cell [] at n i h = absurd (not-suc-le-zero h)
pool_cell (p ∷ ps) at n zero h = let e : at ≡ at + 0 * n = omega arith in ap (λ (k : ℕ). cell k n (buffer_of p)) e
pool_cell (p ∷ ps) at n (suc i) h =
    let e : at + n + i * n ≡ at + suc i * n = omega arith in
    pool_cell ps (at + n) n i (le_of_suc-le-suc h) ∙ ap (λ (k : ℕ). cell k n (buffer_of (get_or ps i no_slot))) e

module _ (s : Shape) (ws : List ℕ) (f : Fits s ws) where
  pub sources_laid : Laid 0 (map source_cell s.sources) s.staging
  sources_laid = sources_from s.sources 0 s.staging f.laid

  pub blocks_laid : Laid (s.staging + 0 / 4) (block_cells s.staging 0 (books s ws)) (s.staging + s.used / 4)
  blocks_laid = blocks_from s.staging (books s ws) 0 s.used refl f.booked

  pub pool_laid : Laid (pool_at s) (pool_cells s.slots (pool_at s) (buffer_words s)) (pool_at s + length s.slots * buffer_words s)
  pool_laid = pool_from s.slots (pool_at s) (buffer_words s)

  -- a write in staging or above leaves the sources, one below the pool leaves the pool
  pub frame_sources : (vs : List ℕ) (k : ℕ) → s.staging ≤ k → sources_in s (sets ws k vs) ≡ sources_in s ws
  frame_sources vs k h = reads_above (map source_cell s.sources) 0 s.staging vs ws k sources_laid h

  pub frame_pool : (vs : List ℕ) (k : ℕ) → k + length vs ≤ pool_at s → pool_in s (sets ws k vs) ≡ pool_in s ws
  frame_pool vs k h = reads_below (pool_cells s.slots (pool_at s) (buffer_words s)) (pool_at s) (pool_at s + length s.slots * buffer_words s) vs ws k pool_laid h

  -- a write outside the bookkeeping leaves it
  pub frame_books_below : (vs : List ℕ) (k : ℕ) → k + length vs ≤ books_at s → books s (sets ws k vs) ≡ books s ws
  frame_books_below vs k h = part_sets_below (books_at s) s.blocks vs ws k h

  pub books_room : books_at s + s.blocks ≤ pool_at s
  books_room = omega (arith, f.listed, f.within)

  pub frame_books_above : (vs : List ℕ) (k : ℕ) → pool_at s ≤ k → books s (sets ws k vs) ≡ books s ws
  frame_books_above vs k h = part_sets_above (books_at s) s.blocks vs ws k (omega (arith, books_room))

  -- a write below staging, or in the pool, leaves the blocks
  pub frame_blocks_below : (vs : List ℕ) (k : ℕ) → k + length vs ≤ s.staging → blocks_in s (sets ws k vs) ≡ blocks_in s ws
  frame_blocks_below vs k h =
      ap (λ t. reads (block_cells s.staging 0 t) (sets ws k vs)) (frame_books_below vs k (omega arith))
      ∙ reads_below (block_cells s.staging 0 (books s ws)) (s.staging + 0 / 4) (s.staging + s.used / 4) vs ws k blocks_laid (omega arith)

  pub frame_blocks_above : (vs : List ℕ) (k : ℕ) → pool_at s ≤ k → blocks_in s (sets ws k vs) ≡ blocks_in s ws
  frame_blocks_above vs k h =
      ap (λ t. reads (block_cells s.staging 0 t) (sets ws k vs)) (frame_books_above vs k h)
      ∙ reads_above (block_cells s.staging 0 (books s ws)) (s.staging + 0 / 4) (s.staging + s.used / 4) vs ws k blocks_laid (omega (arith, f.within))

  -- sources, by number
  pub count_sources : length (sources_in s ws) ≡ length s.sources
  count_sources = length_reads (map source_cell s.sources) ws ∙ length-map s.sources source_cell

  source_cell_lem : (i : ℕ) → i < length s.sources → get_or (map source_cell s.sources) i (source_cell no_place) ≡ source_cell (get_or s.sources i no_place)
  source_cell_lem i h = get_or-map source_cell s.sources i no_place (source_cell no_place) h

  source_counted : (i : ℕ) → i < length s.sources → i < length (map source_cell s.sources)
  source_counted i h = rw (length-map s.sources source_cell) h

  pub source_at_lem : (i : ℕ) → i < length s.sources → get_or (sources_in s ws) i no_source ≡ source_of (get_or s.sources i no_place).size (part (get_or s.sources i no_place).start (words_for (get_or s.sources i no_place).size) ws)
  source_at_lem i h =
      get_d_reads (map source_cell s.sources) ws i (source_cell no_place) no_source (source_counted i h)
      ∙ ap (λ (c : Cell Source). c.read (part c.start c.size ws)) (source_cell_lem i h)

  pub source_end : (i : ℕ) → i < length s.sources → (get_or s.sources i no_place).start + words_for (get_or s.sources i no_place).size ≤ s.staging
  source_end i h =
      let e = laid_end (map source_cell s.sources) 0 s.staging i (source_cell no_place) sources_laid (source_counted i h) in
      omega (arith, e, ap (λ (c : Cell Source). c.start) (source_cell_lem i h), ap (λ (c : Cell Source). c.size) (source_cell_lem i h))

  pub source_long : (i : ℕ) → i < length s.sources → length (get_or (sources_in s ws) i no_source).words ≡ words_for (get_or s.sources i no_place).size
  source_long i h =
      ap (λ (x : Source). length x.words) (source_at_lem i h)
      ∙ length_part (get_or s.sources i no_place).start (words_for (get_or s.sources i no_place).size) ws (omega (arith, source_end i h, f.room))

  pub source_past : (i : ℕ) → length s.sources ≤ i → get_or (sources_in s ws) i no_source ≡ no_source
  source_past i h = let l : length (sources_in s ws) ≤ i = rw count_sources h in get_or_past (sources_in s ws) i no_source l

  -- pool buffers, by number
  pub count_pool : length (pool_in s ws) ≡ length s.slots
  count_pool = length_reads (pool_cells s.slots (pool_at s) (buffer_words s)) ws ∙ length_pool_cells s.slots (pool_at s) (buffer_words s)

  pub buffer_at_lem : (i : ℕ) → i < length s.slots → get_or (pool_in s ws) i no_buffer ≡ buffer_of (get_or s.slots i no_slot) (part (pool_at s + i * buffer_words s) (buffer_words s) ws)
  buffer_at_lem i h =
      get_d_reads (pool_cells s.slots (pool_at s) (buffer_words s)) ws i no_pool_cell no_buffer (rw (length_pool_cells s.slots (pool_at s) (buffer_words s)) h)
      ∙ ap (λ (c : Cell Buffer). c.read (part c.start c.size ws)) (pool_cell s.slots (pool_at s) (buffer_words s) i h)

  pub buffer_end : (i : ℕ) → i < s.most → pool_at s + i * buffer_words s + buffer_words s ≤ length ws
  buffer_end i h =
      let more : (i + 1) * buffer_words s ≤ s.most * buffer_words s = mul-le-mul_right (buffer_words s) (omega arith) in
      omega (arith, f.room, add-mul i 1 (buffer_words s))

  pub buffer_long : (i : ℕ) → i < length s.slots → length (get_or (pool_in s ws) i no_buffer).words ≡ buffer_words s
  buffer_long i h =
      ap (λ (x : Buffer). length x.words) (buffer_at_lem i h)
      ∙ length_part (pool_at s + i * buffer_words s) (buffer_words s) ws (buffer_end i (omega (arith, f.fewer)))

  -- a write inside a pool buffer
  pub pool_written : (i off k : ℕ) (vs : List ℕ) → i < length s.slots → k ≡ pool_at s + i * buffer_words s + off → off + length vs ≤ buffer_words s
      → pool_in s (sets ws k vs) ≡ set (pool_in s ws) i (buffer_of (get_or s.slots i no_slot) (sets (part (pool_at s + i * buffer_words s) (buffer_words s) ws) off vs))
  pool_written i off k vs h e l =
      let cs = pool_cells s.slots (pool_at s) (buffer_words s) in
      let c : get_or (pool_cells s.slots (pool_at s) (buffer_words s)) i no_pool_cell ≡ cell (pool_at s + i * buffer_words s) (buffer_words s) (buffer_of (get_or s.slots i no_slot)) = pool_cell s.slots (pool_at s) (buffer_words s) i h in
      reads_in cs (pool_at s) (pool_at s + length s.slots * buffer_words s) vs ws i off k no_pool_cell pool_laid (rw (length_pool_cells s.slots (pool_at s) (buffer_words s)) h) (rw c e) (rw c l)
      ∙ ap (λ (x : Cell Buffer). set (pool_in s ws) i (x.read (sets (part x.start x.size ws) off vs))) c

  -- blocks, by number
  pub count_blocks : length (blocks_in s ws) ≡ s.blocks
  count_blocks =
      length_reads (block_cells s.staging 0 (books s ws)) ws ∙ length_block_cells s.staging (books s ws) 0
      ∙ length_part (books_at s) s.blocks ws (omega (arith, books_room, f.room))

  -- a write inside a source
  pub source_written : (i off k : ℕ) (vs : List ℕ) → i < length s.sources → k ≡ (get_or s.sources i no_place).start + off → off + length vs ≤ words_for (get_or s.sources i no_place).size
      → sources_in s (sets ws k vs) ≡ set (sources_in s ws) i (source_of (get_or s.sources i no_place).size (sets (part (get_or s.sources i no_place).start (words_for (get_or s.sources i no_place).size) ws) off vs))
  source_written i off k vs h e l =
      let c : get_or (map source_cell s.sources) i (source_cell no_place) ≡ source_cell (get_or s.sources i no_place) = source_cell_lem i h in
      reads_in (map source_cell s.sources) 0 s.staging vs ws i off k (source_cell no_place) sources_laid (source_counted i h) (rw c e) (rw c l)
      ∙ ap (λ (x : Cell Source). set (sources_in s ws) i (x.read (sets (part x.start x.size ws) off vs))) c
