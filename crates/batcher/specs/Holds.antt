-- What stands in the tables, by the draws that were accepted.
use Rattle.std.specs.Prelude.{◌≡◌, ℕ, ◌+◌, ◌*◌, ◌<◌, ◌≤◌, false, cond, ◌⊎◌, List, [], ◌∷◌, ◌++◌, map, length, take, Some, None, Option, ◌==◌, All, AllPairs, slice_index_or}
use Rattle.std.specs.List.{AllZip}
use Rattle.command.specs.Family.{family_of}
use Rattle.command.specs.declared.family.DrawCommandFamily.{DrawCommandFamily}
use Rattle.places.specs.Laid.{Span, span, Laid, Ends}
use Rattle.places.specs.declared.current.CurrentEntry.{CurrentEntry}
use Rattle.batcher.specs.Judged.{Terms, Batching, Wanted, wanted, key_at, entry_at}
use Rattle.batcher.specs.Keys.{same_key}
use Rattle.batcher.specs.Records.{no_key, no_batch}
use Rattle.batcher.specs.declared.records.BatchKey.{BatchKey}
use Rattle.batcher.specs.declared.records.DrawIndirectValidationBatch.{DrawIndirectValidationBatch}
use Rattle.batcher.specs.declared.records.DrawRequest.{DrawRequest}
use Rattle.batcher.specs.declared.records.IndirectDraw.{IndirectDraw}

abbrev pub key_of : DrawIndirectValidationBatch → BatchKey
key_of b = b.key

-- the record of an accepted draw: its entry is packed for its place, and its batch has its key
pub record Recorded (t : Terms) (ks : List BatchKey) (w : Wanted) (d : IndirectDraw) : Type 0 where
  pub family : d.family ≡ w.family
  pub packed : d.entry ≡ entry_at t w d.place
  pub within : d.batch < length ks
  pub key : slice_index_or ks d.batch no_key ≡ key_at t w d.place

abbrev pub span_of : Terms → IndirectDraw → Span
span_of t d = span d.place (t.dst d.family)

-- how many of the draws belong to batch i
abbrev pub tally : ℕ → List IndirectDraw → ℕ
tally i [] = 0
tally i (d ∷ ds) = cond (d.batch == i) 1 0 + tally i ds

-- a draw's rank is the number of earlier draws of its batch
abbrev pub Ranked : List IndirectDraw → List IndirectDraw → Type 0
Ranked earlier [] = Unit {0}
Ranked earlier (d ∷ ds) = (d.rank ≡ tally d.batch earlier) × Ranked (earlier ++ d ∷ []) ds

-- batches are numbered as the draws first ask for them: each draw names one that is there, or the next
abbrev pub Opens : ℕ → List IndirectDraw → ℕ → Type 0
Opens n [] m = n ≡ m
Opens n (d ∷ ds) m = ((d.batch < n) × Opens n ds m) ⊎ ((d.batch ≡ n) × Opens (n + 1) ds m)

-- the records of both tables, for the draws that were accepted, in their order
pub record Held (t : Terms) (ws : List Wanted) (current : Option CurrentEntry) (ds : List IndirectDraw) (bs : List DrawIndirectValidationBatch) : Type 0 where
  pub recorded : AllZip (Recorded t (map key_of bs)) ws ds
  pub laid : Laid t.room (map (span_of t) ds)
  pub ends : Ends current (map (span_of t) ds)
  pub different : AllPairs (λ j k. same_key j k ≡ false) (map key_of bs)
  pub opens : Opens 0 ds (length bs)
  pub ranked : Ranked [] ds
  pub counts : (i : ℕ) → i < length bs → (slice_index_or bs i no_batch).count ≡ tally i ds

-- the tables are those in which a batcher recorded, unaltered
pub record Holds (t : Terms) (ws : List Wanted) (s : Batching) (ds : List IndirectDraw) (bs : List DrawIndirectValidationBatch) : Type 0 where
  pub drawn : s.draws ≤ length ds
  pub opened : s.batches ≤ length bs
  pub held : Held t ws s.current (take s.draws ds) (take s.batches bs)

-- what a request asks for, where its kind and source are known
abbrev pub asked_of : DrawRequest → Option DrawCommandFamily → Option ℕ → List Wanted
asked_of q None z = []
asked_of q (Some f) None = []
asked_of q (Some f) (Some z) = wanted q f z ∷ []

abbrev pub asked : DrawRequest → List Wanted
asked q = asked_of q (family_of q.kind) q.size

-- no batch has more entries of 16 bytes than a buffer holds
abbrev pub Bounded : ℕ → List DrawIndirectValidationBatch → Type 0
Bounded room bs = All (λ b. b.count * 16 ≤ room) bs
