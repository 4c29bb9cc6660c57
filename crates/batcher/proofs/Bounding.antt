-- No batch has more entries than a buffer holds.
use Rattle.std.proofs.Common.{◌≡◌, ℕ, ◌+◌, ◌*◌, ◌≤◌, Bool, true, false, cond, eqb, List, [], ◌∷◌, map, get_or, take, Option, sym, refl, ap, ◌∙◌, arith, eqb-true}
use Rattle.std.proofs.lemmas.List.Elements.{All-from_get_or}
use Rattle.std.specs.List.{AllByRecursion, AllZip}
use Rattle.command.specs.declared.family.DrawCommandFamily.{DrawCommandFamily}
use Rattle.places.proofs.Spreading.{laid_apart}
use Rattle.places.specs.Laid.{Span, Before, Pairwise, Within}
use Rattle.places.specs.declared.current.CurrentEntry.{CurrentEntry}
use Rattle.batcher.specs.declared.records.BatchKey.{BatchKey}
use Rattle.batcher.specs.declared.records.DrawIndirectValidationBatch.{DrawIndirectValidationBatch}
use Rattle.batcher.specs.declared.records.IndirectDraw.{IndirectDraw}
use Rattle.batcher.specs.Holds.{Recorded, key_of, span_of, tally, Held, Holds, Bounded}
use Rattle.batcher.specs.Judged.{Batching, Terms, Wanted, frame_terms}
use Rattle.batcher.specs.declared.terms.FrameTerms.{FrameTerms}
use Rattle.command.proofs.Lawfuls.{buffer_holds, dst_fits, dst_least}
use Rattle.batcher.specs.Records.{no_key, no_batch}

-- a draw of batch i lies in buffer x, at lo or above
abbrev From : ℕ → ℕ → ℕ → IndirectDraw → Type 0
From i x lo d = d.batch ≡ i → (d.place.index ≡ x) × (lo ≤ d.place.offset)

module _ (t : Terms) (least : (f : DrawCommandFamily) → 16 ≤ t.dst f) (i x : ℕ) where
  past_first : (d : IndirectDraw) (lo : ℕ) → lo ≤ d.place.offset → d.place.index ≡ x → (ds : List IndirectDraw) → AllByRecursion (Before (span_of t d)) (map (span_of t) ds) → AllByRecursion (From i x lo) ds → AllByRecursion (From i x (lo + 16)) ds
  past_first d lo h e [] b f = tt
  past_first d lo h e (z ∷ ds) b f =
      ((λ q. ((f.0 q).0, omega (arith, b.0.1 (e ∙ sym (f.0 q).0), least d.family, h))), past_first d lo h e ds b.1 f.1)

  room_for : (ds : List IndirectDraw) (lo : ℕ) → lo ≤ t.room → Pairwise Before (map (span_of t) ds) → AllByRecursion (Within t.room) (map (span_of t) ds) → AllByRecursion (From i x lo) ds → lo + tally i ds * 16 ≤ t.room
  room_for [] lo le p w f = omega arith
  room_for (d ∷ ds) lo le p w f = at (eqb d.batch i) refl (λ lo' le' f'. room_for ds lo' le' p.1 w.1 f')
    where
      at : (b : Bool) → eqb d.batch i ≡ b → ((lo' : ℕ) → lo' ≤ t.room → AllByRecursion (From i x lo') ds → lo' + tally i ds * 16 ≤ t.room) → lo + (cond b 1 0 + tally i ds) * 16 ≤ t.room
      at true e more =
          let h = f.0 (eqb-true d.batch i e) in
          let le' : lo + 16 ≤ t.room = omega (arith, h.1, w.0, least d.family) in
          omega (arith, more (lo + 16) le' (past_first d lo h.1 h.0 ds p.0 f.1))
      at false e more = omega (arith, more lo le f.1)

  from_all : (ks : List BatchKey) → x ≡ (get_or ks i no_key).destination → (ws : List Wanted) (ds : List IndirectDraw) → AllZip (Recorded t ks) ws ds → AllByRecursion (From i x 0) ds
  from_all ks e [] [] p = tt
  from_all ks e [] (d ∷ ds) p = absurd p
  from_all ks e (w ∷ ws) [] p = tt
  from_all ks e (w ∷ ws) (d ∷ ds) p =
      ((λ q. (ap (λ (k : BatchKey). k.destination) (sym p.0.key) ∙ ap (λ (n : ℕ). (get_or ks n no_key).destination) q ∙ sym e, omega arith)), from_all ks e ws ds p.1)

sizes_fit : (t : Terms) → ((f : DrawCommandFamily) → t.dst f ≤ t.room) → (ds : List IndirectDraw) → AllByRecursion (λ (s : Span). s.size ≤ t.room) (map (span_of t) ds)
sizes_fit t most [] = tt
sizes_fit t most (d ∷ ds) = (most d.family, sizes_fit t most ds)

pub bounded : (t : Terms) → ((f : DrawCommandFamily) → 16 ≤ t.dst f) → ((f : DrawCommandFamily) → t.dst f ≤ t.room) → (ws : List Wanted) (cur : Option CurrentEntry) (ds : List IndirectDraw) (bs : List DrawIndirectValidationBatch) → Held t ws cur ds bs → Bounded t.room bs
bounded t least most ws cur ds bs h =
    All-from_get_or (λ b. b.count * 16 ≤ t.room) bs no_batch (λ i l.
    let x = (get_or (map key_of bs) i no_key).destination in
    let s = laid_apart t.room (map (span_of t) ds) h.laid (sizes_fit t most ds) in
    omega (arith, room_for t least i x ds 0 (omega arith) s.0 s.1 (from_all t least i x (map key_of bs) refl ws ds h.recorded), h.counts i l))

-- over lawful sizes
pub held_bounded : (t : FrameTerms) {s : Batching} {ds : List IndirectDraw} {bs : List DrawIndirectValidationBatch} (ws : List Wanted) → Holds (frame_terms t) ws s ds bs → Bounded t.sizes.buffer (take s.batches bs)
held_bounded t ws h =
    let z = t.sizes in
    bounded (frame_terms t) dst_least (dst_fits z.buffer (buffer_holds z.buffer z.block z.ok)) ws _ _ _ h.held
