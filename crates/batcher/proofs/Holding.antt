-- An accepted draw keeps what the tables hold, and so does a refused one.
use Rattle.std.proofs.Common.{◌≡◌, ℕ, ◌<◌, ◌≤◌, false, All, List, [], ◌∷◌, ◌++◌, map, length, get_or, set, Some, None, Option, sym, refl, ◌∙◌, arith}
use lib.ListN.{get_or-map}
use lib.Seq.{map-set_same}
use Rattle.std.proofs.lemmas.List.{length-set, length_push, length-map, get_or_append_left, get_or_push, map_push}
use Rattle.std.proofs.lemmas.Bool.Decides.{nat_tests}
use Rattle.std.proofs.lemmas.Grind.{common_steps}
use Rattle.std.proofs.lemmas.List.Elements.{All-map}
use Rattle.std.proofs.lemmas.List.Quantifiers.{all_pairs_push}
use Rattle.places.proofs.Laying.{next_placed}
use Rattle.places.specs.Laid.{span, Laid, Ends, Next}
use Rattle.places.specs.Placed.{past}
use Rattle.places.specs.declared.current.CurrentEntry.{CurrentEntry}
use Rattle.batcher.specs.declared.records.BatchKey.{BatchKey}
use Rattle.batcher.specs.declared.records.DrawIndirectValidationBatch.{DrawIndirectValidationBatch}
use Rattle.batcher.specs.declared.records.IndirectDraw.{IndirectDraw}
use Rattle.batcher.specs.Holds.{key_of, Recorded, span_of, tally, Held, Holds}
use Rattle.batcher.specs.Judged.{Terms, Wanted, key_at, draw_at, place_for, opened, counted}
use Rattle.batcher.specs.Keys.{same_key, has_key, First}
use Rattle.batcher.specs.Records.{no_key, no_batch}
use Rattle.batcher.proofs.Pushing.{paired_push, paired_weaker, same_key_lem, ranked_push, opens_old, opens_new, tally_push, tally_none}

keys_length : (bs : List DrawIndirectValidationBatch) → length (map key_of bs) ≡ length bs
keys_length bs = length-map bs key_of

-- a draw with its batch b and rank r, after what is held
module _ (t : Terms) (ws : List Wanted) (cur : Option CurrentEntry) (ds : List IndirectDraw) (bs : List DrawIndirectValidationBatch) (h : Held t ws cur ds bs) (w : Wanted) where
  abbrev place : CurrentEntry
  place = place_for t cur w

  abbrev after : Option CurrentEntry
  after = Some (past place (t.dst w.family))

  module _ (b r : ℕ) where
    abbrev draw : IndirectDraw
    draw = draw_at t w place b r

    next : Next t.room (map (span_of t) ds) after (span place (t.dst w.family))
    next = next_placed t.room (t.dst w.family) cur (map (span_of t) ds) h.laid h.ends

    laid' : Laid t.room (map (span_of t) (ds ++ draw ∷ []))
    laid' = rw (map_push (span_of t) ds draw) next.laid

    ends' : Ends after (map (span_of t) (ds ++ draw ∷ []))
    ends' = rw (map_push (span_of t) ds draw) next.ends

  -- the draw joins the batch of its key
  module _ (i : ℕ) (f : First (key_at t w place) bs i) where
    abbrev joining : IndirectDraw
    joining = draw i (get_or bs i no_batch).count

    abbrev grown : List DrawIndirectValidationBatch
    grown = set bs i (counted (get_or bs i no_batch))

    keys_same : map key_of grown ≡ map key_of bs
    keys_same = map-set_same key_of bs i (counted (get_or bs i no_batch)) no_batch refl

    record_joins : Recorded t (map key_of bs) w joining
    record_joins = record {
      family = refl;
      packed = refl;
      within = omega (arith, f.within, keys_length bs);
      key = get_or-map key_of bs i no_batch ∙ same_key_lem (get_or bs i no_batch).key (key_at t w place) f.has;
    }

    counts_at : (j : ℕ) → j < length bs → (get_or grown j no_batch).count ≡ tally j (ds ++ joining ∷ [])
    counts_at j l =
        let t = tally_push j ds joining in
        let k = h.counts j l in
        grind (arith, nat_tests, common_steps)

    pub held_joins : Held t (ws ++ w ∷ []) after (ds ++ joining ∷ []) grown
    held_joins =
        let same_length = length-set bs i (counted (get_or bs i no_batch)) in
        record {
          recorded = rw keys_same (paired_push (Recorded t (map key_of bs)) ws ds w joining h.recorded record_joins);
          laid = laid' i (get_or bs i no_batch).count;
          ends = ends' i (get_or bs i no_batch).count;
          different = rw keys_same h.different;
          opens = rw same_length (opens_old 0 ds (length bs) joining h.opens f.within);
          ranked = ranked_push [] ds joining h.ranked (h.counts i f.within);
          counts = λ j l. counts_at j (omega (arith, l, same_length));
        }

  -- the draw opens a batch
  module _ (none : All (λ b. has_key (key_at t w place) b ≡ false) bs) where
    abbrev opening : IndirectDraw
    opening = draw (length bs) 0

    abbrev fresh : DrawIndirectValidationBatch
    fresh = opened (key_at t w place)

    keys_more : map key_of (bs ++ fresh ∷ []) ≡ map key_of bs ++ key_at t w place ∷ []
    keys_more = map_push key_of bs fresh

    abbrev more : List BatchKey
    more = map key_of bs ++ key_at t w place ∷ []

    record_opens : Recorded t more w opening
    record_opens = record {
      family = refl;
      packed = refl;
      within = omega (arith, length_push (map key_of bs) (key_at t w place), keys_length bs);
      key = get_or_push (map key_of bs) (key_at t w place) no_key (length bs) (keys_length bs);
    }

    record_stays : (x : Wanted) (d : IndirectDraw) → Recorded t (map key_of bs) x d → Recorded t more x d
    record_stays x d r = record {
      family = r.family;
      packed = r.packed;
      within = omega (arith, r.within, length_push (map key_of bs) (key_at t w place));
      key = get_or_append_left (map key_of bs) (key_at t w place ∷ []) no_key d.batch r.within ∙ r.key;
    }

    counts_new : (j : ℕ) → j ≤ length bs → (get_or (bs ++ fresh ∷ []) j no_batch).count ≡ tally j (ds ++ opening ∷ [])
    counts_new j l =
        let t = tally_push j ds opening in
        let k = h.counts j in
        let z = tally_none 0 ds (length bs) h.opens in
        grind (arith, nat_tests, common_steps)

    pub held_opens : Held t (ws ++ w ∷ []) after (ds ++ opening ∷ []) (bs ++ fresh ∷ [])
    held_opens =
        let longer = length_push bs fresh in
        record {
          recorded = rw keys_more (paired_push (Recorded t more) ws ds w opening (paired_weaker (Recorded t (map key_of bs)) (Recorded t more) record_stays ws ds h.recorded) record_opens);
          laid = laid' (length bs) 0;
          ends = ends' (length bs) 0;
          different = rw keys_more (all_pairs_push (λ j k. same_key j k ≡ false) (map key_of bs) (key_at t w place) h.different (All-map (λ j. same_key j (key_at t w place) ≡ false) key_of bs none));
          opens = rw longer (opens_new 0 ds (length bs) opening h.opens refl);
          ranked = ranked_push [] ds opening h.ranked (sym (tally_none 0 ds (length bs) h.opens));
          counts = λ j l. counts_new j (omega (arith, l, longer));
        }

-- nothing is recorded, whatever the tables hold
pub holds_nothing : (t : Terms) (ds : List IndirectDraw) (bs : List DrawIndirectValidationBatch) → Holds t [] (record { draws = 0; batches = 0; current = None }) ds bs
holds_nothing t ds bs = record {
  drawn = omega arith;
  opened = omega arith;
  held = record { recorded = tt; laid = tt; ends = tt; different = λ i j d l m. absurd (omega (arith, m)); opens = refl; ranked = tt; counts = λ i l. absurd (omega (arith, l)) };
}
