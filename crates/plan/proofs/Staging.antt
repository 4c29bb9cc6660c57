-- A plan spreads the batches over blocks and buffers, and leaves what they are.
use Rattle.std.proofs.Common.{◌≡◌, ℕ, ◌+◌, ◌*◌, ◌<◌, ◌≤◌, Bool, true, false, cond, leb, List, [], ◌∷◌, ◌++◌, map, length, get_or, take, drop, Some, None, Option, sym, refl, ap, ◌∙◌, inl, inr, arith, leb-false, leb-true}
use lib.ListN.{get_or-map}
use Rattle.std.proofs.ByRecursion.{All-weaker}
use Rattle.std.proofs.lemmas.List.Elements.{All-head, All-tail}
use Rattle.std.proofs.lemmas.List.{length-map, length-take-le, length-append, length-drop, take_at}
use Rattle.std.specs.List.{AllByRecursion, AllZip}
use Rattle.places.proofs.Spreading.{laid_apart}
use Rattle.places.specs.Laid.{Span, span, Chained, Follows, Laid}
use Rattle.places.specs.Placed.{entry, following, past}
use Rattle.places.specs.declared.current.CurrentEntry.{CurrentEntry}
use Rattle.batcher.proofs.Bounding.{bounded}
use Rattle.batcher.specs.Holds.{Bounded, Held, Holds, Recorded, key_of}
use Rattle.batcher.specs.Judged.{Batching, Terms, Wanted}
use Rattle.batcher.specs.Records.{no_batch}
use Rattle.batcher.specs.declared.records.BatchKey.{BatchKey}
use Rattle.batcher.specs.declared.records.DrawIndirectValidationBatch.{DrawIndirectValidationBatch}
use Rattle.batcher.specs.declared.records.IndirectDraw.{IndirectDraw}
use Rattle.command.specs.declared.family.DrawCommandFamily.{DrawCommandFamily}
use Rattle.plan.specs.Planned.{bytes_of, ending, measured, next_of, place_of, planned}
use Rattle.plan.specs.Staged.{Spread, Staged, metadata_span, staging_span}
use Rattle.plan.proofs.Placing.{ending_up}
use Rattle.plan.proofs.Summing.{all_total, total, total_draws}

-- what a plan does not touch
pub planned_keys : (block room : ℕ) (bs : List DrawIndirectValidationBatch) (s m : Option CurrentEntry) → map key_of (planned block room bs s m) ≡ map key_of bs
unfolding planned
planned_keys block room [] s m = refl
planned_keys block room (b ∷ bs) s m = ap (λ (ks : List BatchKey). b.key ∷ ks) (planned_keys block room bs (next_of block s b) (next_of room m b))

abbrev count_of : DrawIndirectValidationBatch → ℕ
count_of b = b.count

planned_counts : (block room : ℕ) (bs : List DrawIndirectValidationBatch) (s m : Option CurrentEntry) → map count_of (planned block room bs s m) ≡ map count_of bs
unfolding planned
planned_counts block room [] s m = refl
planned_counts block room (b ∷ bs) s m = ap (λ (ks : List ℕ). b.count ∷ ks) (planned_counts block room bs (next_of block s b) (next_of room m b))

pub planned_length : (block room : ℕ) (bs : List DrawIndirectValidationBatch) (s m : Option CurrentEntry) → length (planned block room bs s m) ≡ length bs
planned_length block room bs s m = sym (length-map (planned block room bs s m) count_of) ∙ ap length (planned_counts block room bs s m) ∙ length-map bs count_of

planned_count : (block room : ℕ) (bs : List DrawIndirectValidationBatch) (s m : Option CurrentEntry) (i : ℕ) → (get_or (planned block room bs s m) i no_batch).count ≡ (get_or bs i no_batch).count
planned_count block room bs s m i =
    sym (get_or-map count_of (planned block room bs s m) i no_batch) ∙ ap (λ (ns : List ℕ). get_or ns i 0) (planned_counts block room bs s m) ∙ get_or-map count_of bs i no_batch

planned_total : (block room : ℕ) (bs : List DrawIndirectValidationBatch) (s m : Option CurrentEntry) → total (planned block room bs s m) ≡ total bs
unfolding planned
planned_total block room [] s m = refl
planned_total block room (b ∷ bs) s m = ap (λ (n : ℕ). bytes_of b + n) (planned_total block room bs (next_of block s b) (next_of room m b))

pub planned_held : (t : Terms) (ws : List Wanted) (cur : Option CurrentEntry) (ds : List IndirectDraw) (bs : List DrawIndirectValidationBatch) (block room : ℕ) (s m : Option CurrentEntry) → Held t ws cur ds bs → Held t ws cur ds (planned block room bs s m)
planned_held t ws cur ds bs block room s m h =
    let keys = planned_keys block room bs s m in
    let long = planned_length block room bs s m in
    record {
      recorded = rw keys h.recorded;
      laid = h.laid;
      ends = h.ends;
      different = rw keys h.different;
      opens = rw long h.opens;
      ranked = h.ranked;
      counts = λ i l. planned_count block room bs s m i ∙ h.counts i (omega (arith, l, long));
    }

-- the places of a plan are laid one after another
follows_place : (room : ℕ) (s : Span) (z : ℕ) (b : Bool) → leb (s.place.offset + s.size + z) room ≡ b → Follows room s (span (cond b (past s.place s.size) (entry (s.place.index + 1) 0)) z)
follows_place room s z true e = inl (refl, refl, leb-true (s.place.offset + s.size + z) room e)
follows_place room s z false e = inr (refl, refl, leb-false (s.place.offset + s.size + z) room e)

module _ (block room : ℕ) where
  staging_chained : (bs : List DrawIndirectValidationBatch) (s : Span) (m : Option CurrentEntry) → Chained block s (map staging_span (planned block room bs (Some (past s.place s.size)) m))
  unfolding planned
  staging_chained [] s m = tt
  staging_chained (b ∷ bs) s m = (
    follows_place block s (bytes_of b) (leb (s.place.offset + s.size + bytes_of b) block) refl,
    staging_chained bs (span (place_of block (Some (past s.place s.size)) b) (bytes_of b)) (next_of room m b),
  )

  metadata_chained : (bs : List DrawIndirectValidationBatch) (s : Span) (c : Option CurrentEntry) → Chained room s (map metadata_span (planned block room bs c (Some (past s.place s.size))))
  unfolding planned
  metadata_chained [] s c = tt
  metadata_chained (b ∷ bs) s c = (
    follows_place room s (bytes_of b) (leb (s.place.offset + s.size + bytes_of b) room) refl,
    metadata_chained bs (span (place_of room (Some (past s.place s.size)) b) (bytes_of b)) (next_of block c b),
  )

  staging_laid : (bs : List DrawIndirectValidationBatch) → Laid block (map staging_span (planned block room bs None None))
  unfolding planned
  staging_laid [] = tt
  staging_laid (b ∷ bs) = (refl, refl, staging_chained bs (span (entry 0 0) (bytes_of b)) (next_of room None b))

  metadata_laid : (bs : List DrawIndirectValidationBatch) → Laid room (map metadata_span (planned block room bs None None))
  unfolding planned
  metadata_laid [] = tt
  metadata_laid (b ∷ bs) = (refl, refl, metadata_chained bs (span (entry 0 0) (bytes_of b)) (next_of block None b))

  -- every place lies in one of the blocks and buffers that were counted
  reached : (bs : List DrawIndirectValidationBatch) (s m : Option CurrentEntry) → AllByRecursion (λ b. (b.staging.index < following (ending block bs s)) × (b.metadata.index < following (ending room bs m))) (planned block room bs s m)
  unfolding planned ending
  reached [] s m = tt
  reached (b ∷ bs) s m = (
    (omega (arith, ending_up block bs (next_of block s b)), omega (arith, ending_up room bs (next_of room m b))),
    reached bs (next_of block s b) (next_of room m b),
  )

  sizes_small : (most : ℕ) (bs : List DrawIndirectValidationBatch) → room ≤ most → Bounded room bs → (s m : Option CurrentEntry) → (f : DrawIndirectValidationBatch → CurrentEntry) → AllByRecursion (λ x. x.size ≤ most) (map (λ b. span (f b) (bytes_of b)) (planned block room bs s m))
  unfolding planned
  sizes_small most [] le a s m f = tt
  sizes_small most (b ∷ bs) le a s m f = (
    omega (arith, All-head (λ (x : DrawIndirectValidationBatch). x.count * 16 ≤ room) b bs a, le),
    sizes_small most bs le (All-tail (λ x. x.count * 16 ≤ room) b bs a) (next_of block s b) (next_of room m b) f,
  )

spread : (room : ℕ) (spans : List Span) → Laid room spans → AllByRecursion (λ s. s.size ≤ room) spans → Spread room spans
spread room spans l z = let a = laid_apart room spans l z in record { laid = l; apart = a.0; within = a.1 }

pub batches_known : (t : Terms) (ks : List BatchKey) (ws : List Wanted) (ds : List IndirectDraw) → AllZip (Recorded t ks) ws ds → AllByRecursion (λ d. d.batch < length ks) ds
batches_known t ks [] [] p = tt
batches_known t ks [] (d ∷ ds) p = absurd p
batches_known t ks (w ∷ ws) [] p = tt
batches_known t ks (w ∷ ws) (d ∷ ds) p = (p.0.within, batches_known t ks ws ds p.1)

pub staged : (t : Terms) (block : ℕ) → t.room ≤ block → ((f : DrawCommandFamily) → 16 ≤ t.dst f) → ((f : DrawCommandFamily) → t.dst f ≤ t.room) → (ws : List Wanted) (cur : Option CurrentEntry) (ds : List IndirectDraw) (bs : List DrawIndirectValidationBatch) → Held t ws cur ds bs → Staged block t.room (length ds) (measured block t.room bs).blocks (measured block t.room bs).metadata (planned block t.room bs None None)
staged t block le least most ws cur ds bs h =
    let room = t.room in
    let small = bounded t least most ws cur ds bs h in
    let known = batches_known t (map key_of bs) ws ds h.recorded in
    let inside = reached block room bs None None in
    record {
      staging = spread block (map staging_span (planned block room bs None None)) (staging_laid block room bs) (sizes_small block room block bs le small None None (λ b. b.staging));
      metadata = spread room (map metadata_span (planned block room bs None None)) (metadata_laid block room bs) (sizes_small block room room bs (omega arith) small None None (λ b. b.metadata));
      reached = inside;
      whole =
          all_total (following (ending block bs None)) (planned block room bs None None) (All-weaker (λ b. (b.staging.index < following (ending block bs None)) × (b.metadata.index < following (ending room bs None))) (λ b. b.staging.index < following (ending block bs None)) (λ b r. r.0) (planned block room bs None None) inside)
          ∙ planned_total block room bs None None
          ∙ total_draws bs ds h.counts (rw length-map at known);
    }

-- the whole table after a plan of its first n
pub front_planned : (block room n : ℕ) (bs : List DrawIndirectValidationBatch) → n ≤ length bs → take n (planned block room (take n bs) None None ++ drop n bs) ≡ planned block room (take n bs) None None
front_planned block room n bs h = take_at (planned block room (take n bs) None None) (drop n bs) n (planned_length block room (take n bs) None None ∙ length-take-le n bs h)

pub whole_planned : (block room n : ℕ) (bs : List DrawIndirectValidationBatch) → n ≤ length bs → length (planned block room (take n bs) None None ++ drop n bs) ≡ length bs
whole_planned block room n bs h =
    length-append (planned block room (take n bs) None None) (drop n bs)
    ∙ omega (arith, planned_length block room (take n bs) None None, length-take-le n bs h, length-drop n bs)

-- a plan of what is recorded, in a table that holds it
module _ (block : ℕ) (t : Terms) (ws : List Wanted) (s : Batching) (ds : List IndirectDraw) (bs : List DrawIndirectValidationBatch) (h : Holds t ws s ds bs) where
  pub planned_holds : (room : ℕ) → Holds t ws s ds (planned block room (take s.batches bs) None None ++ drop s.batches bs)
  planned_holds room = record {
    drawn = h.drawn;
    opened = omega (arith, h.opened, whole_planned block room s.batches bs h.opened);
    held = rw (front_planned block room s.batches bs h.opened) (planned_held t ws s.current (take s.draws ds) (take s.batches bs) block room None None h.held);
  }

  pub planned_staged : t.room ≤ block → ((f : DrawCommandFamily) → 16 ≤ t.dst f) → ((f : DrawCommandFamily) → t.dst f ≤ t.room) → Staged block t.room s.draws (measured block t.room (take s.batches bs)).blocks (measured block t.room (take s.batches bs)).metadata (take s.batches (planned block t.room (take s.batches bs) None None ++ drop s.batches bs))
  planned_staged le least most =
      rw (front_planned block t.room s.batches bs h.opened) (rw (length-take-le s.draws ds h.drawn) at (staged t block le least most ws s.current (take s.draws ds) (take s.batches bs) h.held))
