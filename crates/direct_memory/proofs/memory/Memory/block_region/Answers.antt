use Rattle.std.proofs.Common.{◌≡◌, ℕ, zero, suc, ◌+◌, ◌-◌, ◌/◌, ◌<◌, ◌≤◌, get_or, vec_items, refl, sym, ap, ◌∙◌, arith}
use Rattle.std.proofs.lemmas.Bool.{ne_eqb}
use Rattle.direct_memory.specs.Held.{shape}
use Rattle.direct_memory.specs.Layouts.{end_of}
use Rattle.direct_memory.specs.Lies.{begins_at, book_word}
use Rattle.direct_memory.specs.Views.{books}
use Rattle.direct_memory.specs.declared.memory.Memory.{Memory}
use Rattle.direct_memory.proofs.Blocks.{block_range, book_at, books_length, start_more, start_of}
use Rattle.direct_memory.proofs.Keeping.{fits}
use Rattle.direct_memory.proofs.memory.Memory.block_region.Goals as goal

-- what the bookkeeping word of a block says, and where the block begins
module _ (m : Memory) where
  word_is : (b : ℕ) → b < m.numbers.blocks → get_or (books (shape m.numbers) (vec_items m.words)) b 0 ≡ book_word m b
  word_is b h = book_at (shape m.numbers) (vec_items m.words) (fits m) b h

  after : (b i : ℕ) → b ≡ i + 1 → begins_at m b ≡ end_of (book_word m i)
  after b i e =
      let back : b - 1 ≡ i = omega arith in
      rw (ne_eqb b 0 (λ z. omega arith), back)

  begins : (b : ℕ) → b < m.numbers.blocks → start_of 0 (books (shape m.numbers) (vec_items m.words)) b ≡ begins_at m b
  begins zero h = refl
  begins (suc i) h =
      let l : i < m.numbers.blocks = omega arith in
      start_more (books (shape m.numbers) (vec_items m.words)) 0 i (omega (arith, books_length (shape m.numbers) (vec_items m.words) (fits m)))
      ∙ ap end_of (word_is i l)
      ∙ sym (after (suc i) i (omega arith))

  lies : (b : ℕ) → b < m.numbers.blocks → (begins_at m b < end_of (book_word m b)) × (end_of (book_word m b) ≤ m.numbers.used)
  lies b h =
      let r = block_range (shape m.numbers) (vec_items m.words) (fits m) b h in
      rw (begins b h, word_is b h) at r

pub overflow_sub-result : goal.overflow_sub-result
overflow_sub-result c = omega (arith, (lies c.args.self.now c.args.block.number c.if-number-self.false).0, c.book-end.ensures.end, c.block_start-from.ensures)

pub returns : goal.returns
returns c =
    let m = c.args.self.now in
    let r = lies m c.args.block.number c.if-number-self.false in
    let from = c.block_start-from.ensures in
    let end = c.book-end.ensures.end in
    record {
      there = c.if-number-self.false;
      start = ap (λ n. m.numbers.staging_start + n / 4) from;
      size = rw (from, end);
      above = omega arith;
      below = omega (arith, r.0, r.1, end, from, m.numbers.fits);
      room = omega (arith, r.0, r.1, end, from, m.numbers.fits, m.room, m.words.ok.0);
    }
