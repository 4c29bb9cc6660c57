-- What is printed of a sheet, in the words of the sheet.
use Rattle.std.specs.Prelude.{◌≡◌, ℕ, ◌<◌, true, List, [], ◌∷◌, ◌++◌, map, length, Ok, Err, Result, slice_index_or}
use Rattle.std.specs.List.{AllByRecursion}
use Rattle.batcher.specs.Holds.{tally}
use Rattle.batcher.specs.Records.{no_batch}
use Rattle.batcher.specs.declared.records.DrawIndirectValidationBatch.{DrawIndirectValidationBatch}
use Rattle.batcher.specs.declared.records.IndirectDraw.{IndirectDraw}
use Rattle.command.specs.Lawful.{lawful}
use Rattle.command.specs.declared.refusal.Refusal.{Refusal}
use Rattle.page.specs.Sheets.{Sheet, good, read_page}
use Rattle.places.specs.declared.current.CurrentEntry.{CurrentEntry}
use Rattle.sheet.specs.Printed.{answer_line, batch_lines}

-- a line for each answer
abbrev pub answers_text : List (Result CurrentEntry Refusal) → List ℕ
answers_text [] = []
answers_text (r ∷ rs) = answer_line r ++ answers_text rs

-- the places among the answers
abbrev pub places_in : List (Result CurrentEntry Refusal) → List CurrentEntry
places_in [] = []
places_in (Ok p ∷ rs) = p ∷ places_in rs
places_in (Err e ∷ rs) = places_in rs

abbrev pub place_of_draw : IndirectDraw → CurrentEntry
place_of_draw d = d.place

-- One answer a draw line; the accepted draws stand at the answered places; each of them is an entry of one batch,
-- and a batch's count is the number of its entries, so that every accepted draw's entry is printed once.
pub record Told (s : Sheet) (text : List ℕ) : Type 0 where
  pub answers : List (Result CurrentEntry Refusal)
  pub draws : List IndirectDraw
  pub batches : List DrawIndirectValidationBatch
  pub lines : text ≡ answers_text answers ++ batch_lines 0 draws batches
  pub each : length answers ≡ length s.draws
  pub places : map place_of_draw draws ≡ places_in answers
  pub owned : AllByRecursion (λ d. d.batch < length batches) draws
  pub counts : (k : ℕ) → k < length batches → (slice_index_or batches k no_batch).count ≡ tally k draws

-- the sheet that a text is, with settings that fit one another, is told whole
abbrev pub Tells : List ℕ → List ℕ → Type 0
Tells input text = (s : Sheet) → read_page input ≡ good s → lawful s.align s.binding ≡ true → Told s text
