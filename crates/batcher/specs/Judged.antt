-- What one request for an indirect draw answers and writes.
use Rattle.std.specs.Prelude.{ℕ, ◌+◌, ◌-◌, ◌^◌, max, Bool, true, cond, List, [], ◌∷◌, length, get_or, take, Some, None, Ok, Err, Option, Result, nat_le, nat_lt, slice_index_or, slice_set}
use Rattle.command.specs.Checks.{first, and_then}
use Rattle.command.specs.Family.{argument_answer, family_of, is_indexed, src_stride, dst_stride}
use Rattle.command.specs.declared.family.DrawCommandFamily.{DrawCommandFamily}
use Rattle.command.specs.declared.refusal.Refusal.{Refusal}
use Rattle.command.specs.declared.refusal.Refusal.TheVariants.{UnknownKind, NoSuchSource, TableFull, NoBuffer}
use Rattle.command.specs.declared.settings.Settings.{Settings}
use Rattle.command.specs.declared.sizes.Sizes.{Sizes}
use Rattle.entry.specs.Entries.{packed}
use Rattle.entry.specs.Window.{dynamic_offset_of, window_offset}
use Rattle.entry.specs.declared.metadata.MetadataEntry.{MetadataEntry}
use Rattle.places.specs.Placed.{fits, placed, past}
use Rattle.places.specs.Supplies.{grants}
use Rattle.places.specs.declared.current.CurrentEntry.{CurrentEntry}
use Rattle.batcher.specs.Keys.{found}
use Rattle.batcher.specs.Records.{no_batch}
use Rattle.batcher.specs.declared.batcher.judge.Chosen.{Chosen}
use Rattle.batcher.specs.declared.batcher.judge.Prepared.{Prepared}
use Rattle.batcher.specs.declared.records.BatchKey.{BatchKey}
use Rattle.batcher.specs.declared.records.DrawIndirectValidationBatch.{DrawIndirectValidationBatch}
use Rattle.batcher.specs.declared.records.DrawRequest.{DrawRequest}
use Rattle.batcher.specs.declared.records.IndirectDraw.{IndirectDraw}
use Rattle.batcher.specs.declared.terms.FrameTerms.{FrameTerms}

-- what places and windows are cut by: alignment and largest binding, bytes of a pool buffer, bytes of a draw by kind
pub record Terms : Type 0 where
  pub alignment : ℕ
  pub largest : ℕ
  pub room : ℕ
  pub src : DrawCommandFamily → ℕ
  pub dst : DrawCommandFamily → ℕ

abbrev pub terms : Settings → Sizes → Terms
terms s z = record { alignment = s.alignment; largest = s.largest_binding; room = z.buffer; src = src_stride; dst = dst_stride }

abbrev pub frame_terms : FrameTerms → Terms
frame_terms t = terms t.settings t.sizes

-- a batcher's own state: how many records stand in each table, and the place after the last draw
pub record Batching : Type 0 where
  pub draws : ℕ
  pub batches : ℕ
  pub current : Option CurrentEntry

-- a request whose kind and source are known
pub record Wanted : Type 0 where
  pub family : DrawCommandFamily
  pub source : ℕ
  pub size : ℕ
  pub offset : ℕ
  pub limit : ℕ
  pub instances : ℕ

abbrev pub wanted : DrawRequest → DrawCommandFamily → ℕ → Wanted
wanted q f z = record { family = f; source = q.source; size = z; offset = q.offset; limit = q.limit; instances = q.instances }

-- the batch to which a draw belongs, once its place is known
abbrev pub key_at : Terms → Wanted → CurrentEntry → BatchKey
key_at t w p = record { source = w.source; window = dynamic_offset_of t.alignment t.largest w.size w.offset; destination = p.index }

abbrev pub entry_at : Terms → Wanted → CurrentEntry → MetadataEntry
entry_at t w p = packed (is_indexed w.family) (window_offset t.alignment t.largest w.size w.offset) p.offset w.limit w.instances

abbrev pub draw_at : Terms → Wanted → CurrentEntry → ℕ → ℕ → IndirectDraw
draw_at t w p batch rank = record { family = w.family; place = p; entry = entry_at t w p; batch = batch; rank = rank }

abbrev pub place_for : Terms → Option CurrentEntry → Wanted → CurrentEntry
place_for t c w = placed c (t.dst w.family) t.room

abbrev pub prepared : Terms → Option CurrentEntry → Wanted → Prepared
prepared t c w = record {
  family = w.family;
  key = key_at t w (place_for t c w);
  place = place_for t c w;
  entry = entry_at t w (place_for t c w);
  asks = cond (fits c (t.dst w.family) t.room) None (Some (place_for t c w).index);
  current = past (place_for t c w) (t.dst w.family);
}

abbrev pub opened : BatchKey → DrawIndirectValidationBatch
opened k = record { key = k; count = 1; staging = no_batch.staging; metadata = no_batch.metadata }

abbrev pub counted : DrawIndirectValidationBatch → DrawIndirectValidationBatch
counted b = record { key = b.key; count = b.count + 1; staging = b.staging; metadata = b.metadata }

abbrev pub chosen : Prepared → ℕ → ℕ → DrawIndirectValidationBatch → Chosen
chosen p batch rank b = record {
  draw = record { family = p.family; place = p.place; entry = p.entry; batch = batch; rank = rank };
  batch = b;
  asks = p.asks;
  current = p.current;
}

-- the draw joins the batch of its key, or opens one
abbrev pub joined : Prepared → ℕ → List DrawIndirectValidationBatch → Option ℕ → Result Chosen Refusal
joined p n bs (Some i) = first ((nat_le (2 ^ 32 - 1) (get_or bs i no_batch).count, TableFull) ∷ []) (Ok (chosen p i (get_or bs i no_batch).count (counted (slice_index_or bs i no_batch))))
joined p n bs None = first ((nat_le (length bs) n, TableFull) ∷ []) (Ok (chosen p n 0 (opened p.key)))

abbrev pub table_checks : Batching → List IndirectDraw → List DrawIndirectValidationBatch → List (Bool × Refusal)
table_checks s ds bs =
    (nat_le (length ds) s.draws, TableFull)
    ∷ (nat_lt (length bs) s.batches, TableFull)
    ∷ []

abbrev pub judged_wanted : Terms → Batching → List IndirectDraw → List DrawIndirectValidationBatch → Wanted → Result Chosen Refusal
judged_wanted t s ds bs w =
    let p = prepared t s.current w in
    and_then (argument_answer t.src w.family w.size w.offset) (λ _. first (table_checks s ds bs) (joined p s.batches bs (found p.key (take s.batches bs))))

abbrev pub by_size : Terms → Batching → List IndirectDraw → List DrawIndirectValidationBatch → DrawRequest → DrawCommandFamily → Option ℕ → Result Chosen Refusal
by_size t s ds bs q f None = Err NoSuchSource
by_size t s ds bs q f (Some z) = judged_wanted t s ds bs (wanted q f z)

abbrev pub by_family : Terms → Batching → List IndirectDraw → List DrawIndirectValidationBatch → DrawRequest → Option DrawCommandFamily → Result Chosen Refusal
by_family t s ds bs q None = Err UnknownKind
by_family t s ds bs q (Some f) = by_size t s ds bs q f q.size

-- the records to write, or the first refusal that applies, before any supply is asked
abbrev pub judged : Terms → Batching → List IndirectDraw → List DrawIndirectValidationBatch → DrawRequest → Result Chosen Refusal
judged t s ds bs q = by_family t s ds bs q (family_of q.kind)

-- the buffer that is asked for, if any, can be had
abbrev pub given : Option ℕ → (ℕ → Bool) → Bool
given None can = true
given (Some i) can = can i

-- a new buffer is the last thing that can fail
abbrev pub granted : Result Chosen Refusal → (ℕ → Bool) → Result Chosen Refusal
granted (Ok c) can = cond (given c.asks can) (Ok c) (Err NoBuffer)
granted (Err e) can = Err e

abbrev pub outcome : Terms → Batching → List IndirectDraw → List DrawIndirectValidationBatch → DrawRequest → (ℕ → Bool) → Result Chosen Refusal
outcome t s ds bs q can = granted (judged t s ds bs q) can

-- the answer, and what stands after it
abbrev pub place_of : Result Chosen Refusal → Result CurrentEntry Refusal
place_of (Ok c) = Ok c.draw.place
place_of (Err e) = Err e

abbrev pub draws_after : Result Chosen Refusal → Batching → List IndirectDraw → List IndirectDraw
draws_after (Ok c) s ds = slice_set ds s.draws c.draw
draws_after (Err e) s ds = ds

abbrev pub batches_after : Result Chosen Refusal → List DrawIndirectValidationBatch → List DrawIndirectValidationBatch
batches_after (Ok c) bs = slice_set bs c.draw.batch c.batch
batches_after (Err e) bs = bs

-- a draw belongs to a batch that is there, or to the next one
abbrev pub batching_after : Result Chosen Refusal → Batching → Batching
batching_after (Ok c) s = record { draws = s.draws + 1; batches = max s.batches (c.draw.batch + 1); current = Some c.current }
batching_after (Err e) s = s

abbrev pub asked_for : {V : Type 0} → (V → ℕ → V) → Option ℕ → V → V
asked_for ensured None v = v
asked_for ensured (Some i) v = ensured v i

abbrev pub supply_after : {V : Type 0} → (V → ℕ → V) → Result Chosen Refusal → V → V
supply_after ensured (Ok c) v = asked_for ensured c.asks v
supply_after ensured (Err e) v = v

-- a batcher's state, what its supply of destination buffers is to it, and both tables
pub record Recording (V : Type 0) : Type 0 where
  pub batching : Batching
  pub supply : V
  pub draws : List IndirectDraw
  pub batches : List DrawIndirectValidationBatch

-- what one more request writes, over a supply that holds so many buffers and can give so many more
abbrev pub outcome_in : {V : Type 0} → (V → ℕ) → (V → ℕ) → Terms → Recording V → DrawRequest → Result Chosen Refusal
outcome_in held more t r q = outcome t r.batching r.draws r.batches q (grants (held r.supply) (more r.supply))

abbrev pub answer_in : {V : Type 0} → (V → ℕ) → (V → ℕ) → Terms → Recording V → DrawRequest → Result CurrentEntry Refusal
answer_in held more t r q = place_of (outcome_in held more t r q)

abbrev pub recorded_in : {V : Type 0} → (V → ℕ) → (V → ℕ) → (V → ℕ → V) → Terms → Recording V → DrawRequest → Recording V
recorded_in held more ensured t r q = record {
  batching = batching_after (outcome_in held more t r q) r.batching;
  supply = supply_after ensured (outcome_in held more t r q) r.supply;
  draws = draws_after (outcome_in held more t r q) r.batching r.draws;
  batches = batches_after (outcome_in held more t r q) r.batches;
}
