-- What becomes of one indirect draw, from its request to the words that are drawn.
use Rattle.std.specs.Prelude.{◌≡◌, ℕ, ◌+◌, ◌/◌, ◌%◌, ◌^◌, ◌≤◌, Bool, true, not, ◌&&◌, List, [], ◌∷◌, length, take, drop, Ok, Result, ◌==◌, nat_lt}
use Rattle.command.specs.Family.{is_indexed, src_stride}
use Rattle.command.specs.declared.family.DrawCommandFamily.{DrawCommandFamily}
use Rattle.command.specs.declared.family.DrawCommandFamily.TheVariants.{Draw, DrawIndexed}
use Rattle.command.specs.declared.refusal.Refusal.{Refusal}
use Rattle.command.specs.declared.refusal.Refusal.TheVariants.{NoSuchSource, UnalignedIndirectBufferOffset, IndirectBufferOverrun}
use Rattle.command.specs.declared.settings.Settings.{Settings}
use Rattle.render.specs.declared.direct.DrawLimits.{DrawLimits}
use Rattle.render.specs.Bound.{Bound}
use Rattle.render.specs.Draws.{limits_answer}
use Rattle.command.specs.Checks.{first, and_then}
use Rattle.entry.specs.declared.metadata.MetadataEntry.{MetadataEntry}
use Rattle.entry.specs.declared.validate.Arguments.{Arguments}
use Rattle.entry.specs.declared.validate.Arguments.TheVariants as arguments
use Rattle.entry.specs.Entries.{packed}
use Rattle.entry.specs.Verdicts.{word_count, judged}
use Rattle.entry.specs.Window.{binding_size_of, dynamic_offset_of, window_offset, src_offsets}
use Rattle.validation.specs.declared.follow.Followed.{Followed}
use Rattle.validation.specs.declared.follow.Request.{Request}
use Rattle.validation.specs.declared.follow.Rules.{Rules}
use Rattle.validation.specs.declared.follow.Source.{Source}

-- a source's bytes are counted in 32 bits, and its words are as many as these bytes take, the last perhaps in part
abbrev pub is_source : Source → Bool
is_source s = nat_lt s.size (2 ^ 32) && length s.words.now == (s.size + 3) / 4

-- the arguments of a draw stand in a source, from this byte on
pub record Stands (s : Source) (f : DrawCommandFamily) (offset : ℕ) : Type 0 where
  pub source : is_source s ≡ true
  pub four : offset % 4 ≡ 0
  pub lies : offset + src_stride f ≤ s.size

-- what is refused once the limits are known, in this order
abbrev pub source_checks : DrawCommandFamily → Source → (offset : ℕ) → List (Bool × Refusal)
source_checks f s offset =
    (not (is_source s), NoSuchSource) ∷
    (not (offset % 4 == 0), UnalignedIndirectBufferOffset) ∷
    (nat_lt s.size (offset + src_stride f), IndirectBufferOverrun) ∷
    []

-- the words of a draw whose arguments begin at this byte of a source
abbrev pub arguments_at : DrawCommandFamily → Request → List ℕ
arguments_at f q = take (word_count f) (drop (q.offset / 4) q.source.words.now)

-- how many bytes a window has, where it begins that serves a request, and where the request's arguments lie in it
abbrev pub binding_size : Settings → Request → ℕ
binding_size s q = binding_size_of s.alignment s.largest_binding q.source.size

abbrev pub dynamic_offset : Settings → Request → ℕ
dynamic_offset s q = dynamic_offset_of s.alignment s.largest_binding q.source.size q.offset

abbrev pub offset_in_window : Settings → Request → ℕ
offset_in_window s q = window_offset s.alignment s.largest_binding q.source.size q.offset

-- the whole words of the window that serves a request
abbrev pub window_words : Settings → Request → List ℕ
window_words s q = take (binding_size s q / 4) (drop (dynamic_offset s q / 4) q.source.words.now)

-- a draw's packed entry: its place in its window, its place in the destination, its limits
abbrev pub entry_for : DrawLimits → (src dst : ℕ) → MetadataEntry
entry_for l src dst = packed (is_indexed l.family) src dst l.vertex_or_index_limit l.instance_limit

abbrev pub arguments_of : DrawCommandFamily → List ℕ → Arguments
arguments_of Draw ws = arguments.Draw ws
arguments_of DrawIndexed ws = arguments.DrawIndexed ws

-- the words of a draw as they are to be drawn
abbrev pub drawn : Rules → DrawLimits → Request → List ℕ
drawn r l q = judged r.first_instance_allowed l.family l.vertex_or_index_limit l.instance_limit (arguments_at l.family q)

-- a draw that nothing refuses
abbrev pub followed : Rules → DrawLimits → Request → Followed
followed r l q =
    record { limits = l; binding_size = binding_size r.settings q; window = src_offsets r.settings.alignment r.settings.largest_binding q.source.size q.offset; entry = entry_for l (offset_in_window r.settings q) q.dst_offset; arguments = arguments_of l.family (drawn r l q) }

-- a draw of these limits, and one of its kind with what is bound
abbrev pub limited_answer : Rules → DrawLimits → Request → Result Followed Refusal
limited_answer r l q = and_then (first (source_checks l.family q.source q.offset) (Ok (tt {0}))) (λ _. Ok (followed r l q))

abbrev pub follow_answer : Bound → Rules → Request → Result Followed Refusal
follow_answer b r q = and_then (limits_answer b q.kind) (λ l. limited_answer r l q)
