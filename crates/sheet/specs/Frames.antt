-- The draws of a sheet, recorded one after another.
use Rattle.std.specs.Prelude.{ℕ, List, [], ◌∷◌, replicate, None, Result}
use Rattle.std.specs.List.{slice_get}
use Rattle.command.specs.declared.refusal.Refusal.{Refusal}
use Rattle.places.specs.Counts.{Counts, counts, counted}
use Rattle.places.specs.declared.current.CurrentEntry.{CurrentEntry}
use Rattle.batcher.specs.Judged.{Recording, Terms, outcome_in, place_of, recorded_in}
use Rattle.batcher.specs.Records.{no_batch, no_draw}
use Rattle.batcher.specs.declared.batcher.judge.Chosen.{Chosen}
use Rattle.batcher.specs.declared.records.DrawRequest.{DrawRequest}
use Rattle.page.specs.declared.line.DrawLine.{DrawLine}

-- nothing recorded, 256 buffers to be had, room for 1,024 draws and 256 batches
abbrev pub fresh : Recording Counts
fresh = record {
  batching = record { draws = 0; batches = 0; current = None };
  supply = counts 0 256;
  draws = replicate 1024 no_draw;
  batches = replicate 256 no_batch;
}

-- what a line asks for, over the sources of the sheet
abbrev pub request_of : List ℕ → DrawLine → DrawRequest
request_of sources d = record { kind = d.kind; source = d.source; size = slice_get sources d.source; offset = d.offset; limit = d.first_limit; instances = d.instance_limit }

abbrev pub outcome_of : Terms → List ℕ → Recording Counts → DrawLine → Result Chosen Refusal
outcome_of t sources f d = outcome_in (λ c. c.holds) (λ c. c.left) t f (request_of sources d)

abbrev pub answer_of : Terms → List ℕ → Recording Counts → DrawLine → Result CurrentEntry Refusal
answer_of t sources f d = place_of (outcome_of t sources f d)

abbrev pub recorded : Terms → List ℕ → Recording Counts → DrawLine → Recording Counts
recorded t sources f d = recorded_in (λ c. c.holds) (λ c. c.left) counted t f (request_of sources d)

unfoldable pub recorded_all : Terms → List ℕ → Recording Counts → List DrawLine → Recording Counts
recorded_all t sources f [] = f
recorded_all t sources f (d ∷ ds) = recorded_all t sources (recorded t sources f d) ds
