-- What is printed of a sheet.
use Rattle.std.specs.Prelude.{ℕ, ◌+◌, cond, List, [], ◌∷◌, ◌++◌, filter, take, Ok, Err, codes, decimal, Result, ◌==◌}
use Rattle.std.specs.List.{flat_map}
use Rattle.command.specs.Family.{src_stride, dst_stride}
use Rattle.command.specs.Lawful.{lawful}
use Rattle.command.specs.Refusals.{number_of}
use Rattle.command.specs.declared.refusal.Refusal.{Refusal}
use Rattle.command.specs.declared.refusal.Refusal.TheVariants.{UnlawfulSettings}
use Rattle.entry.specs.declared.metadata.MetadataEntry.{MetadataEntry}
use Rattle.places.specs.declared.current.CurrentEntry.{CurrentEntry}
use Rattle.batcher.specs.Judged.{Recording, Terms}
use Rattle.places.specs.Counts.{Counts}
use Rattle.batcher.specs.declared.records.DrawIndirectValidationBatch.{DrawIndirectValidationBatch}
use Rattle.batcher.specs.declared.records.IndirectDraw.{IndirectDraw}
use Rattle.page.specs.Sheets.{Parsed, Sheet, bad, good, read_page}
use Rattle.page.specs.declared.line.DrawLine.{DrawLine}
use Rattle.plan.specs.Planned.{batches_after, plan_answer}
use Rattle.plan.specs.declared.frame.FramePlan.{FramePlan}
use Rattle.sheet.specs.declared.print.AnswerLine.{AnswerLine}
use Rattle.sheet.specs.declared.print.AnswerLine.TheVariants.{Bad, Batch, Entry, Place, Refused}
use Rattle.sheet.specs.Frames.{answer_of, fresh, recorded, recorded_all}

abbrev pub newline : List ℕ
newline = 10 ∷ []

abbrev pub comma : List ℕ
comma = codes ","

-- a place: its buffer or block, and the offset in it
abbrev pub at_text : CurrentEntry → List ℕ
at_text p = decimal p.index ++ (comma ++ decimal p.offset)

-- a line without its newline; of a batch source, window, destination buffer, count, and the places of its staging and
-- its metadata
abbrev pub line_text : AnswerLine → List ℕ
line_text (Bad n) = codes "bad=" ++ decimal n
line_text (Refused r) = codes "refused=" ++ decimal (number_of r)
line_text (Place p) = codes "place=" ++ at_text p
line_text (Batch b) = codes "batch=" ++ (decimal b.key.source ++ (comma ++ (decimal b.key.window ++ (comma ++ (decimal b.key.destination ++ (comma ++ (decimal b.count ++ (comma ++ (at_text b.staging ++ (comma ++ at_text b.metadata))))))))))
line_text (Entry e) = codes "entry=" ++ (decimal e.src_offset ++ (comma ++ (decimal e.dst_offset ++ (comma ++ (decimal e.vertex_or_index_limit ++ (comma ++ decimal e.instance_limit))))))

abbrev pub bad_line : ℕ → List ℕ
bad_line n = line_text (Bad n) ++ newline

abbrev pub refused_line : Refusal → List ℕ
refused_line r = line_text (Refused r) ++ newline

-- the place of a draw, or why it was refused
abbrev pub line_of : Result CurrentEntry Refusal → AnswerLine
line_of (Ok p) = Place p
line_of (Err r) = Refused r

abbrev pub answer_line : Result CurrentEntry Refusal → List ℕ
answer_line r = line_text (line_of r) ++ newline

unfoldable pub answer_lines : Terms → List ℕ → Recording Counts → List DrawLine → List ℕ
answer_lines t sources f [] = []
answer_lines t sources f (d ∷ ds) = answer_line (answer_of t sources f d) ++ answer_lines t sources (recorded t sources f d) ds

abbrev pub batch_line : DrawIndirectValidationBatch → List ℕ
batch_line b = line_text (Batch b) ++ newline

abbrev pub entry_line : MetadataEntry → List ℕ
entry_line e = line_text (Entry e) ++ newline

-- the entries of batch k, in the order of their draws
unfoldable pub entry_lines : ℕ → List IndirectDraw → List ℕ
entry_lines k ds = flat_map (λ d. entry_line d.entry) (filter (λ d. d.batch == k) ds)

-- each batch with its entries, the first numbered k
unfoldable pub batch_lines : ℕ → List IndirectDraw → List DrawIndirectValidationBatch → List ℕ
batch_lines k ds [] = []
batch_lines k ds (b ∷ bs) = (batch_line b ++ entry_lines k ds) ++ batch_lines (k + 1) ds bs

-- the plan of what was recorded, over 256 metadata buffers
abbrev pub plan_lines : ℕ → ℕ → Recording Counts → Result FramePlan Refusal → List ℕ
plan_lines block room f (Ok p) = batch_lines 0 (take f.batching.draws f.draws) (take f.batching.batches (batches_after block room f.batching.batches (Ok p) f.batches))
plan_lines block room f (Err r) = refused_line r

abbrev pub planned_text : ℕ → ℕ → Recording Counts → List ℕ
planned_text block room f = plan_lines block room f (plan_answer block room f.batching.batches f.batches 256)

abbrev pub frame_text : Terms → ℕ → List ℕ → List DrawLine → List ℕ
frame_text t block sources ds = answer_lines t sources fresh ds ++ planned_text block t.room (recorded_all t sources fresh ds)

-- the sizes that wgpu-core uses
abbrev pub terms_of : ℕ → ℕ → Terms
terms_of a m = record { alignment = a; largest = m; room = 1048560; src = src_stride; dst = dst_stride }

abbrev pub sheet_text : Sheet → List ℕ
sheet_text s = cond (lawful s.align s.binding) (frame_text (terms_of s.align s.binding) 67108864 s.sources s.draws) (refused_line UnlawfulSettings)

abbrev pub parsed_text : Parsed → List ℕ
parsed_text (good s) = sheet_text s
parsed_text (bad n) = bad_line n

abbrev pub printed : List ℕ → List ℕ
printed text = parsed_text (read_page text)
