-- Entries and verdicts as a host sees them.
use Rattle.std.specs.Prelude.{ℕ, ◌^◌, cond, ◌&&◌, List, [], ◌∷◌, Some, None, Ok, Err, Option, Result, ◌==◌, nat_lt, slice_index}
use Rattle.command.specs.declared.family.DrawCommandFamily.{DrawCommandFamily}
use Rattle.command.specs.declared.family.DrawCommandFamily.TheVariants.{Draw, DrawIndexed}
use Rattle.command.specs.declared.refusal.Refusal.TheVariants.{UnknownKind}
use Rattle.entry.specs.Entries.{entry_of}
use Rattle.entry.specs.Verdicts.{word_count}
use Rattle.entry.specs.declared.metadata.MetadataEntry.{MetadataEntry}
use Rattle.exports.specs.declared.entries.Entry.{Entry}
use Rattle.exports.specs.declared.entries.Verdict.{Verdict}
use Rattle.exports.specs.declared.status.Failure.{Failure}
use Rattle.exports.specs.declared.status.Failure.TheVariants.{Refused, OutsideWindow, WideOffset}

-- 7 for a kind that there is not, then 65 where an offset does not fit 32 bits
abbrev pub entry_status : (kind src dst : ℕ) → ℕ
entry_status kind src dst = cond (nat_lt kind 2) (cond (nat_lt src (2 ^ 32) && nat_lt dst (2 ^ 32)) 0 65) 7

abbrev pub words_of : MetadataEntry → Entry
words_of e = record { src_offset = e.src_offset; dst_offset = e.dst_offset; vertex_or_index_limit = e.vertex_or_index_limit; instance_limit = e.instance_limit }

abbrev pub metadata_of : Entry → MetadataEntry
metadata_of e = record { src_offset = e.src_offset; dst_offset = e.dst_offset; vertex_or_index_limit = e.vertex_or_index_limit; instance_limit = e.instance_limit }

abbrev pub written : Option MetadataEntry → Entry → Entry
written None old = old
written (Some e) old = words_of e

abbrev pub or_wide : Option MetadataEntry → Result Entry Failure
or_wide None = Err WideOffset
or_wide (Some e) = Ok (words_of e)

abbrev pub entry_answer : (kind src dst l1 l2 : ℕ) → Result Entry Failure
entry_answer kind src dst l1 l2 = cond (nat_lt kind 2) (or_wide (entry_of (kind == 1) src dst l1 l2)) (Err (Refused UnknownKind))

abbrev pub entry_written : (kind src dst l1 l2 : ℕ) → Entry → Entry
entry_written kind src dst l1 l2 old = cond (nat_lt kind 2) (written (entry_of (kind == 1) src dst l1 l2) old) old

-- 64 where the entry reads outside its window
abbrev pub verdict_status : Option (List ℕ) → ℕ
verdict_status None = 64
verdict_status (Some ws) = 0

-- a plain draw has four words, after which stands a 0
abbrev pub five_words : DrawCommandFamily → List ℕ → List ℕ
five_words Draw ws = slice_index ws 0 ∷ slice_index ws 1 ∷ slice_index ws 2 ∷ slice_index ws 3 ∷ 0 ∷ []
five_words DrawIndexed ws = slice_index ws 0 ∷ slice_index ws 1 ∷ slice_index ws 2 ∷ slice_index ws 3 ∷ slice_index ws 4 ∷ []

abbrev pub verdict_of : DrawCommandFamily → List ℕ → Verdict
verdict_of f ws = record { count = word_count f; words = five_words f ws }

abbrev pub verdict_written : DrawCommandFamily → Option (List ℕ) → Verdict → Verdict
verdict_written f None old = old
verdict_written f (Some ws) old = verdict_of f ws

abbrev pub verdict_answer : DrawCommandFamily → Option (List ℕ) → Result Verdict Failure
verdict_answer f None = Err OutsideWindow
verdict_answer f (Some ws) = Ok (verdict_of f ws)
