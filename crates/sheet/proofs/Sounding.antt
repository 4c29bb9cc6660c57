-- However a sheet's draws are answered, no more is recorded than its tables hold.
use Rattle.std.proofs.Common.{◌≡◌, ℕ, ◌≤◌, List, [], ◌∷◌, ◌++◌, length, replicate, Ok, Err, Result, MatchResult}
use Rattle.batcher.proofs.Holding.{holds_nothing}
use Rattle.batcher.proofs.Keeping.{keeps}
use Rattle.batcher.specs.Holds.{Holds, asked}
use Rattle.batcher.specs.Judged.{Recording, Terms, Wanted}
use Rattle.batcher.specs.Records.{no_batch, no_draw}
use Rattle.batcher.specs.View.{batching}
use Rattle.batcher.specs.declared.records.DrawIndirectValidationBatch.{DrawIndirectValidationBatch}
use Rattle.batcher.specs.declared.records.IndirectDraw.{IndirectDraw}
use Rattle.batcher.specs.declared.tables.Tables.{Tables}
use Rattle.places.specs.Counts.{Counts, counts}
use Rattle.sheet.specs.View.{recording_of}
use Rattle.sheet.specs.declared.frame.Frame.{Frame}
use Rattle.command.specs.declared.refusal.Refusal.{Refusal}
use Rattle.page.specs.declared.line.DrawLine.{DrawLine}
use Rattle.places.specs.Supplies.{grants}
use Rattle.places.specs.declared.current.CurrentEntry.{CurrentEntry}
use Rattle.sheet.specs.Frames.{answer_of, fresh, recorded, recorded_all, request_of}

abbrev pub Sound : Terms → Recording Counts → Type 0
Sound t f = (ws : List Wanted) × Holds t ws f.batching f.draws f.batches

either_sound : (t : Terms) (f : Recording Counts) (vs ws : List Wanted) (r : Result CurrentEntry Refusal) → MatchResult r (λ _. Holds t vs f.batching f.draws f.batches) (λ _. Holds t ws f.batching f.draws f.batches) → Sound t f
either_sound t f vs ws (Ok p) h = (vs, h)
either_sound t f vs ws (Err e) h = (ws, h)

pub sound_step : (t : Terms) (sources : List ℕ) (f : Recording Counts) (d : DrawLine) → Sound t f → Sound t (recorded t sources f d)
sound_step t sources f d s =
    either_sound t (recorded t sources f d) (s.0 ++ asked (request_of sources d)) s.0 (answer_of t sources f d)
    (keeps t f.batching f.draws f.batches s.0 s.1 (request_of sources d) (grants f.supply.holds f.supply.left))

pub sound_all : (t : Terms) (sources : List ℕ) (f : Recording Counts) (ds : List DrawLine) → Sound t f → Sound t (recorded_all t sources f ds)
unfolding recorded_all
sound_all t sources f [] s = s
sound_all t sources f (d ∷ ds) s = sound_all t sources (recorded t sources f d) ds (sound_step t sources f d s)

pub sound_fresh : (t : Terms) → Sound t fresh
sound_fresh t = ([], holds_nothing t fresh.draws fresh.batches)

abbrev pub Inside : Recording Counts → Type 0
Inside f = (f.batching.draws ≤ length f.draws) × (f.batching.batches ≤ length f.batches)

pub inside : (t : Terms) (sources : List ℕ) (ds : List DrawLine) → Inside (recorded_all t sources fresh ds)
inside t sources ds = let s = sound_all t sources fresh ds (sound_fresh t) in (s.1.drawn, s.1.opened)

-- what a frame begins with, and tables of records that stand for nothing
pub begun_with : (f : Frame) (d : IndirectDraw) (b : DrawIndirectValidationBatch) → batching f.batcher ≡ fresh.batching → counts f.destinations.held f.destinations.left ≡ fresh.supply → d ≡ no_draw → b ≡ no_batch → ◌≡◌ {A = Recording Counts} (record { batching = batching f.batcher; supply = counts f.destinations.held f.destinations.left; draws = replicate 1024 d; batches = replicate 256 b }) fresh
begun_with f d b eb es ed ec = λ i. record { batching = eb i; supply = es i; draws = replicate 1024 (ed i); batches = replicate 256 (ec i) }

-- a frame that begins in such tables, for whoever holds both; tables that a function makes have no name in its goals, so
-- that its proof cites the lemma above
pub begun : (f : Frame) (t : Tables) (d : IndirectDraw) (b : DrawIndirectValidationBatch) → batching f.batcher ≡ fresh.batching → counts f.destinations.held f.destinations.left ≡ fresh.supply → t.draws.now ≡ replicate 1024 d → t.batches.now ≡ replicate 256 b → d ≡ no_draw → b ≡ no_batch → recording_of f t ≡ fresh
begun f t d b eb es td tb ed ec = rw (td, tb) (begun_with f d b eb es ed ec)
