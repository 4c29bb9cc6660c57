-- What stands after one more of the batches, and after all.
use Rattle.std.proofs.Common.{◌≡◌, ℕ, ◌+◌, ◌<◌, ◌≤◌, cond, List, ◌∷◌, [], length, get_or, drop, Option}
use Rattle.std.proofs.lemmas.List.{at_drop_more, at_drop_all}
use Rattle.batcher.specs.Records.{no_batch}
use Rattle.batcher.specs.declared.records.DrawIndirectValidationBatch.{DrawIndirectValidationBatch}
use Rattle.places.specs.Placed.{fits}
use Rattle.places.specs.declared.current.CurrentEntry.{CurrentEntry}
use Rattle.plan.specs.Planned.{bytes_of, next_of, ending, place_of, planned, put, supplied}

pub ending_more : (room : ℕ) (bs : List DrawIndirectValidationBatch) (i : ℕ) (c : Option CurrentEntry) → i < length bs → ending room (drop i bs) c ≡ ending room (drop (i + 1) bs) (next_of room c (get_or bs i no_batch))
unfolding ending
ending_more room bs i c h = at_drop_more (λ (l : List DrawIndirectValidationBatch). ending room l c) bs i no_batch h

pub ending_all : (room : ℕ) (bs : List DrawIndirectValidationBatch) (i : ℕ) (c : Option CurrentEntry) → length bs ≤ i → ending room (drop i bs) c ≡ c
unfolding ending
ending_all room bs i c h = at_drop_all (λ (l : List DrawIndirectValidationBatch). ending room l c) bs i h

pub planned_more : (block room : ℕ) (bs : List DrawIndirectValidationBatch) (i : ℕ) (s m : Option CurrentEntry) → i < length bs → planned block room (drop i bs) s m ≡ put (get_or bs i no_batch) (place_of block s (get_or bs i no_batch)) (place_of room m (get_or bs i no_batch)) ∷ planned block room (drop (i + 1) bs) (next_of block s (get_or bs i no_batch)) (next_of room m (get_or bs i no_batch))
unfolding planned
planned_more block room bs i s m h = at_drop_more (λ (l : List DrawIndirectValidationBatch). planned block room l s m) bs i no_batch h

pub planned_all : (block room : ℕ) (bs : List DrawIndirectValidationBatch) (i : ℕ) (s m : Option CurrentEntry) → length bs ≤ i → planned block room (drop i bs) s m ≡ []
unfolding planned
planned_all block room bs i s m h = at_drop_all (λ (l : List DrawIndirectValidationBatch). planned block room l s m) bs i h

pub supplied_more : {V : Type 0} (ensured : V → ℕ → V) (room : ℕ) (bs : List DrawIndirectValidationBatch) (i : ℕ) (c : Option CurrentEntry) (v : V) → i < length bs → supplied ensured room (drop i bs) c v ≡ supplied ensured room (drop (i + 1) bs) (next_of room c (get_or bs i no_batch)) (cond (fits c (bytes_of (get_or bs i no_batch)) room) v (ensured v (place_of room c (get_or bs i no_batch)).index))
unfolding supplied
supplied_more ensured room bs i c v h = at_drop_more (λ (l : List DrawIndirectValidationBatch). supplied ensured room l c v) bs i no_batch h

pub supplied_all : {V : Type 0} (ensured : V → ℕ → V) (room : ℕ) (bs : List DrawIndirectValidationBatch) (i : ℕ) (c : Option CurrentEntry) (v : V) → length bs ≤ i → supplied ensured room (drop i bs) c v ≡ v
unfolding supplied
supplied_all ensured room bs i c v h = at_drop_all (λ (l : List DrawIndirectValidationBatch). supplied ensured room l c v) bs i h
