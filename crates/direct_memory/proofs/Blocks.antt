-- Staging blocks by their bookkeeping.
use Rattle.std.proofs.Common.{◌≡◌, ℕ, zero, suc, ◌+◌, ◌-◌, ◌/◌, ◌%◌, ◌<◌, ◌≤◌, true, List, [], ◌∷◌, length, get_or, drop, set, refl, ap, ◌∙◌, le_of_suc-le-suc, not-suc-le-zero, arith}
use lib.Seq.{sets}
use Rattle.std.proofs.lemmas.List.{get_or-drop, get_or-take}
use Rattle.std.proofs.lemmas.Bool.{eqb-true}
use Rattle.device.specs.Calls.{block_bytes}
use Rattle.device.specs.Meaning.{Block, no_block}
use Rattle.direct_memory.specs.Cells.{Cell, cell, part, reads}
use Rattle.direct_memory.specs.Layouts.{booked, end_of}
use Rattle.direct_memory.specs.Views.{Shape, block_cells, block_from, blocks_in, books, books_at}
use Rattle.direct_memory.proofs.Celling.{get_d_reads, reads_in}
use Rattle.direct_memory.proofs.Shaping.{Fits, blocks_laid, booked_parts, books_room, length_block_cells}
use Rattle.direct_memory.proofs.Wording.{length_part}

-- the byte at which block i begins
abbrev pub start_of : ℕ → List ℕ → ℕ → ℕ
start_of from rs zero = from
start_of from [] (suc i) = from
start_of from (r ∷ rs) (suc i) = start_of (end_of r) rs i

pub start_more : (rs : List ℕ) (from i : ℕ) → i < length rs → start_of from rs (suc i) ≡ end_of (get_or rs i 0)
start_more [] from i h = absurd (not-suc-le-zero h)
start_more (r ∷ rs) from zero h = refl
start_more (r ∷ rs) from (suc i) h = start_more rs (end_of r) i (le_of_suc-le-suc h)

pub start_below : (rs : List ℕ) (from used i : ℕ) → booked from rs used ≡ true → i < length rs → (start_of from rs i < end_of (get_or rs i 0)) × (end_of (get_or rs i 0) ≤ used)
start_below [] from used i h l = absurd (not-suc-le-zero l)
start_below (r ∷ []) from used zero h l =
    let x = booked_parts r [] from used h in
    (x.0, omega (arith, eqb-true (end_of r) used x.1))
start_below (r ∷ q ∷ rs) from used zero h l =
    let x = booked_parts r (q ∷ rs) from used h in
    let y = start_below (q ∷ rs) (end_of r) used zero x.1 (omega arith) in
    (x.0, omega (arith, y.0, y.1))
start_below (r ∷ rs) from used (suc i) h l =
    start_below rs (end_of r) used i (booked_parts r rs from used h).1 (le_of_suc-le-suc l)

pub start_whole : (rs : List ℕ) (from i : ℕ) → from % 16 ≡ 0 → start_of from rs i % 16 ≡ 0
start_whole rs from zero h = h
start_whole [] from (suc i) h = h
start_whole (r ∷ rs) from (suc i) h = start_whole rs (end_of r) i (omega arith)

abbrev no_block_cell : Cell Block
no_block_cell = cell 0 0 (block_from 0)

block_cell : (at : ℕ) (rs : List ℕ) (from i : ℕ) → i < length rs → get_or (block_cells at from rs) i no_block_cell ≡ cell (at + start_of from rs i / 4) ((end_of (get_or rs i 0) - start_of from rs i) / 4) (block_from (get_or rs i 0))
block_cell at [] from i h = absurd (not-suc-le-zero h)
block_cell at (r ∷ rs) from zero h = refl
block_cell at (r ∷ rs) from (suc i) h = block_cell at rs (end_of r) i (le_of_suc-le-suc h)

-- the bytes of all blocks together
bytes_from : (at : ℕ) (rs : List ℕ) (from used : ℕ) (ws : List ℕ) → from % 16 ≡ 0 → booked from rs used ≡ true → at + used / 4 ≤ length ws → from + block_bytes (reads (block_cells at from rs) ws) ≡ used
bytes_from at [] from used ws z h room = omega (arith, eqb-true from used h)
bytes_from at (r ∷ rs) from used ws z h room =
    let x = booked_parts r rs from used h in
    let less = x.0 in
    let rest : end_of r + block_bytes (reads (block_cells at (end_of r) rs) ws) ≡ used = bytes_from at rs (end_of r) used ws (omega arith) x.1 room in
    let long : length (part (at + from / 4) ((end_of r - from) / 4) ws) ≡ (end_of r - from) / 4 = length_part (at + from / 4) ((end_of r - from) / 4) ws (omega arith) in
    omega (arith, long)

module _ (s : Shape) (ws : List ℕ) (f : Fits s ws) where
  pub books_length : length (books s ws) ≡ s.blocks
  books_length = length_part (books_at s) s.blocks ws (omega (arith, books_room s ws f, f.room))

  pub book_at : (i : ℕ) → i < s.blocks → get_or (books s ws) i 0 ≡ get_or ws (books_at s + i) 0
  book_at i h = get_or-take s.blocks (drop (books_at s) ws) i 0 h ∙ get_or-drop (books_at s) ws i 0

  book_counted : (i : ℕ) → i < s.blocks → i < length (books s ws)
  book_counted i h = rw books_length h

  -- where a block lies: from byte a to byte e of staging
  abbrev pub from_byte : ℕ → ℕ
  from_byte i = start_of 0 (books s ws) i

  abbrev pub to_byte : ℕ → ℕ
  to_byte i = end_of (get_or (books s ws) i 0)

  pub block_range : (i : ℕ) → i < s.blocks → (from_byte i < to_byte i) × (to_byte i ≤ s.used)
  block_range i h = start_below (books s ws) 0 s.used i f.booked (book_counted i h)

  pub block_at : (i : ℕ) → i < s.blocks → get_or (blocks_in s ws) i no_block ≡ block_from (get_or (books s ws) i 0) (part (s.staging + from_byte i / 4) ((to_byte i - from_byte i) / 4) ws)
  block_at i h =
      get_d_reads (block_cells s.staging 0 (books s ws)) ws i no_block_cell no_block (rw (length_block_cells s.staging (books s ws) 0) (book_counted i h))
      ∙ ap (λ (c : Cell Block). c.read (part c.start c.size ws)) (block_cell s.staging (books s ws) 0 i (book_counted i h))

  pub block_long : (i : ℕ) → i < s.blocks → length (get_or (blocks_in s ws) i no_block).words ≡ (to_byte i - from_byte i) / 4
  block_long i h =
      let r = block_range i h in
      ap (λ (b : Block). length b.words) (block_at i h)
      ∙ length_part (s.staging + from_byte i / 4) ((to_byte i - from_byte i) / 4) ws (omega (arith, r.0, r.1, f.within, f.room))

  -- a write inside a block
  pub block_written : (i off k : ℕ) (vs : List ℕ) → i < s.blocks → k ≡ s.staging + from_byte i / 4 + off → off + length vs ≤ (to_byte i - from_byte i) / 4
      → reads (block_cells s.staging 0 (books s ws)) (sets ws k vs) ≡ set (blocks_in s ws) i (block_from (get_or (books s ws) i 0) (sets (part (s.staging + from_byte i / 4) ((to_byte i - from_byte i) / 4) ws) off vs))
  block_written i off k vs h e l =
      let cs = block_cells s.staging 0 (books s ws) in
      let c : get_or (block_cells s.staging 0 (books s ws)) i no_block_cell ≡ cell (s.staging + from_byte i / 4) ((to_byte i - from_byte i) / 4) (block_from (get_or (books s ws) i 0)) = block_cell s.staging (books s ws) 0 i (book_counted i h) in
      reads_in cs (s.staging + 0 / 4) (s.staging + s.used / 4) vs ws i off k no_block_cell (blocks_laid s ws f) (rw (length_block_cells s.staging (books s ws) 0) (book_counted i h)) (rw c e) (rw c l)
      ∙ ap (λ (x : Cell Block). set (blocks_in s ws) i (x.read (sets (part x.start x.size ws) off vs))) c

  pub bytes_all : block_bytes (blocks_in s ws) ≡ s.used
  bytes_all =
      let e = bytes_from s.staging (books s ws) 0 s.used ws refl f.booked (omega (arith, f.within, f.room)) in
      omega (arith, e)
