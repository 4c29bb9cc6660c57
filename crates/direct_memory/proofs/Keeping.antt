-- A memory keeps what its numbers say of its words.
use Rattle.std.proofs.Common.{◌≡◌, ℕ, ◌+◌, ◌^◌, ◌<◌, ◌≤◌, true, List, [], ◌∷◌, length, get_or, drop, set, Some, None, vec_items, sym, ap, ◌∙◌, subst, arith}
use lib.Seq.{sets, length-sets}
use Rattle.std.specs.List.{slice_get}
use Rattle.std.specs.Vec.{with_items}
use Rattle.std.proofs.lemmas.List.{get_or-drop, get_or-take, with_items_is}
use Rattle.std.proofs.lemmas.Option.{get_or_from_slice_get, slice_get_within}
use Rattle.std.proofs.ByRecursion.{All-from_get_or}
use Rattle.std.proofs.lemmas.Bool.{le-ltb, lt-ltb}
use Rattle.device.specs.Meaning.{Sound, SoundSource, Source, no_source, source_size}
use Rattle.direct_memory.specs.Cells.{part}
use Rattle.direct_memory.specs.Held.{shape}
use Rattle.direct_memory.specs.Layouts.{booked, words_for}
use Rattle.direct_memory.specs.Lies.{place_of}
use Rattle.direct_memory.specs.Tables.{source_places}
use Rattle.direct_memory.specs.Views.{books, books_at, pool_at, sources_in}
use Rattle.direct_memory.specs.declared.layout.SourcePlace.{SourcePlace}
use Rattle.direct_memory.specs.declared.memory.Memory.{Memory}
use Rattle.direct_memory.proofs.Shaping.{Fits, count_sources, frame_books_above, frame_books_below, no_place, source_at_lem, source_end, source_small}
use Rattle.direct_memory.proofs.Wording.{length_part}

module _ (m : Memory) where
  pub fits : Fits (shape m.numbers) (vec_items m.words)
  fits = record {
    laid = m.numbers.laid;
    whole = m.numbers.whole;
    small = m.numbers.small;
    within = m.numbers.fits;
    listed = m.numbers.listed;
    fewer = m.numbers.fewer;
    room = omega (arith, m.room, m.words.ok.0);
    booked = m.books;
  }

  -- words that were lent and written to
  pub refilled_sets : (us vs : List ℕ) (k : ℕ) → us ≡ sets (vec_items m.words) k vs → vec_items (with_items m.words us) ≡ sets (vec_items m.words) k vs
  refilled_sets us vs k e = with_items_is m.words us (ap length e ∙ length-sets (vec_items m.words) k vs ∙ sym m.words.ok.0) ∙ e

  -- the bookkeeping after a write in the pool, or below the bookkeeping
  pub booked_above : (us vs : List ℕ) (k : ℕ) → us ≡ sets (vec_items m.words) k vs → pool_at (shape m.numbers) ≤ k → booked 0 (books (shape m.numbers) (vec_items (with_items m.words us))) m.numbers.used ≡ true
  booked_above us vs k e h = rw (refilled_sets us vs k e, frame_books_above (shape m.numbers) (vec_items m.words) fits vs k h) m.books

  pub booked_below : (us vs : List ℕ) (k : ℕ) → us ≡ sets (vec_items m.words) k vs → k + length vs ≤ books_at (shape m.numbers) → booked 0 (books (shape m.numbers) (vec_items (with_items m.words us))) m.numbers.used ≡ true
  booked_below us vs k e h = rw (refilled_sets us vs k e, frame_books_below (shape m.numbers) (vec_items m.words) fits vs k h) m.books

  -- what is found at a source's number is its place
  pub found_in : (i : ℕ) (p : SourcePlace) → Some p ≡ slice_get (source_places m.numbers.sources) i → i < length (source_places m.numbers.sources)
  found_in i p e = slice_get_within (source_places m.numbers.sources) i p (sym e)

  pub found_place : (i : ℕ) (p : SourcePlace) → Some p ≡ slice_get (source_places m.numbers.sources) i → p ≡ place_of m i
  found_place i p e = sym (get_or_from_slice_get (source_places m.numbers.sources) i p no_place (sym e))

  -- the bytes of a source
  pub size_in : (i : ℕ) → i < length (source_places m.numbers.sources) → source_size i (sources_in (shape m.numbers) (vec_items m.words)) ≡ Some (place_of m i).size
  size_in i h =
      rw (count_sources (shape m.numbers) (vec_items m.words) fits, lt-ltb i (length (source_places m.numbers.sources)) h)
      (ap (λ (x : Source). Some x.size) (source_at_lem (shape m.numbers) (vec_items m.words) fits i h))

  pub size_past : (i : ℕ) → length (source_places m.numbers.sources) ≤ i → source_size i (sources_in (shape m.numbers) (vec_items m.words)) ≡ None
  size_past i h = rw (count_sources (shape m.numbers) (vec_items m.words) fits, le-ltb i (length (source_places m.numbers.sources)) h)

  -- every source is sound, since every word has 32 bits
  pub sources_sound : ((i : ℕ) → get_or (vec_items m.words) i 0 < 2 ^ 32) → Sound (sources_in (shape m.numbers) (vec_items m.words))
  sources_sound small = All-from_get_or SoundSource (sources_in (shape m.numbers) (vec_items m.words)) no_source sound_at
    where
      sound_at : (i : ℕ) → i < length (sources_in (shape m.numbers) (vec_items m.words)) → SoundSource (get_or (sources_in (shape m.numbers) (vec_items m.words)) i no_source)
      sound_at i l =
          let h : i < length (source_places m.numbers.sources) = omega (arith, count_sources (shape m.numbers) (vec_items m.words) fits) in
          let p = place_of m i in
          let ws = vec_items m.words in
          let long : length (part p.start (words_for p.size) ws) ≡ words_for p.size = length_part p.start (words_for p.size) ws (omega (arith, source_end (shape m.numbers) ws fits i h, fits.room)) in
          let P : Source → Type 0 = λ s. SoundSource s in
          subst P (sym (source_at_lem (shape m.numbers) ws fits i h)) (record {
            small = source_small (source_places m.numbers.sources) 0 m.numbers.staging_start i m.numbers.laid h;
            whole = long;
            fits = All-from_get_or (λ w. w < 2 ^ 32) (part p.start (words_for p.size) ws) 0 (λ j k. rw (get_or-take (words_for p.size) (drop p.start ws) j 0 (omega (arith, long)), get_or-drop p.start ws j 0) (small (p.start + j)));
          })

  -- the bookkeeping after one word was written below it
  pub booked_set : (k v : ℕ) → k < books_at (shape m.numbers) → booked 0 (books (shape m.numbers) (set (vec_items m.words) k v)) m.numbers.used ≡ true
  booked_set k v h = rw (frame_books_below (shape m.numbers) (vec_items m.words) fits (v ∷ []) k (omega arith)) m.books
