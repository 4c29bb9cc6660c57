-- The four words of one entry: how a draw is packed into them, and what they say.
use Rattle.std.specs.Prelude.{◌≡◌, ℕ, ◌+◌, ◌*◌, ◌/◌, ◌%◌, ◌^◌, ◌<◌, min, Bool, cond, ◌&&◌, List, [], ◌∷◌, Some, None, Option, ◌==◌, nat_le, nat_lt, slice_index}
use Rattle.command.specs.declared.family.DrawCommandFamily.{DrawCommandFamily}
use Rattle.command.specs.declared.family.DrawCommandFamily.TheVariants.{Draw, DrawIndexed}
use Rattle.entry.specs.declared.metadata.MetadataEntry.{MetadataEntry}
use Rattle.entry.specs.declared.metadata.Unpacked.{Unpacked}

-- no first and count of 32 bits have a larger sum
abbrev pub cut : ℕ → ℕ
cut l = min l 8589934590

abbrev pub kind_bit : Bool → ℕ
kind_bit indexed = cond indexed 1 0

-- offsets in words below bits of other meaning: the kind, and bit 32 of each limit
abbrev pub packed : Bool → (src dst l1 l2 : ℕ) → MetadataEntry
packed indexed src dst l1 l2 = record { src_offset = src / 4 + kind_bit indexed * 2 ^ 31; dst_offset = dst / 4 + cut l1 / 2 ^ 32 * 2 ^ 30 + cut l2 / 2 ^ 32 * 2 ^ 31; vertex_or_index_limit = cut l1 % 2 ^ 32; instance_limit = cut l2 % 2 ^ 32 }

-- there is an entry only of offsets that 32 bits hold
abbrev pub entry_of : Bool → (src dst l1 l2 : ℕ) → Option MetadataEntry
entry_of indexed src dst l1 l2 = cond (nat_lt src (2 ^ 32) && nat_lt dst (2 ^ 32)) (Some (packed indexed src dst l1 l2)) None

abbrev pub entry_words : MetadataEntry → List ℕ
entry_words e = e.src_offset ∷ e.dst_offset ∷ e.vertex_or_index_limit ∷ e.instance_limit ∷ []

abbrev pub entry_from : List ℕ → MetadataEntry
entry_from ws = record { src_offset = slice_index ws 0; dst_offset = slice_index ws 1; vertex_or_index_limit = slice_index ws 2; instance_limit = slice_index ws 3 }

abbrev pub family_by : Bool → DrawCommandFamily
family_by indexed = cond indexed DrawIndexed Draw

-- an offset in bytes of the low 30 bits of a word
abbrev pub byte_offset : ℕ → ℕ
byte_offset w = w % 2 ^ 30 * 4

-- bit 31 of the first word is the kind, its bit 30 says nothing
abbrev pub unpacked : MetadataEntry → Unpacked
unpacked e = record { family = family_by (e.src_offset / 2 ^ 31 == 1); src_offset = byte_offset e.src_offset; dst_offset = byte_offset e.dst_offset; vertex_or_index_limit = e.dst_offset / 2 ^ 30 % 2 * 2 ^ 32 + e.vertex_or_index_limit; instance_limit = e.dst_offset / 2 ^ 31 * 2 ^ 32 + e.instance_limit }

-- limits that no sum of two words tells apart
abbrev pub Alike : ℕ → ℕ → Type 0
Alike l k = (first count : ℕ) → first < 2 ^ 32 → count < 2 ^ 32 → nat_le (first + count) l ≡ nat_le (first + count) k

-- What is read back of a draw: its kind, offsets that are multiples of four, and its limits as far as two words can reach.
pub record Recovers (indexed : Bool) (src dst l1 l2 : ℕ) (u : Unpacked) : Type 0 where
  pub kind : u.family ≡ family_by indexed
  pub source : src % 4 ≡ 0 → u.src_offset ≡ src
  pub destination : dst % 4 ≡ 0 → u.dst_offset ≡ dst
  pub limit : u.vertex_or_index_limit ≡ cut l1
  pub instances : u.instance_limit ≡ cut l2
  pub same_limit : Alike u.vertex_or_index_limit l1
  pub same_instances : Alike u.instance_limit l2
