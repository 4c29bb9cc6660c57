-- A dispatch: when it is lawful, and what a lawful one writes.
use Rattle.std.specs.Prelude.{ℕ, zero, suc, ◌+◌, ◌*◌, ◌/◌, ◌%◌, min, Bool, true, cond, ◌&&◌, List, [], ◌∷◌, length, get_or, take, drop, ◌==◌, nat_le, nat_lt, slice_index_or}
use Rattle.std.proofs.lemmas.List.Edits.{sets}
use Rattle.std.specs.Option.{unwrap_or}
use Rattle.command.specs.Family.{dst_stride}
use Rattle.entry.specs.Entries.{entry_from, unpacked}
use Rattle.entry.specs.Verdicts.{word_count, verdict}
use Rattle.entry.specs.declared.metadata.MetadataEntry.{MetadataEntry}
use Rattle.device.specs.declared.buffers.BufferUses.{BufferUses}
use Rattle.device.specs.declared.buffers.BufferUses.TheVariants.{StorageReadOnly, StorageReadWrite}
use Rattle.device.specs.declared.commands.ValidationDispatch.{ValidationDispatch}
use Rattle.device.specs.Meaning.{Holdings, Source, no_buffer, no_source}
use Rattle.device.specs.Uses.{same_use}

-- a pool buffer that is there, in a given use
abbrev pub pool_in : ℕ → BufferUses → Holdings → Bool
pool_in i u h = nat_lt i (length h.pool) && same_use (get_or h.pool i no_buffer).state u

abbrev pub pool_words : ℕ → Holdings → List ℕ
pool_words i h = (get_or h.pool i no_buffer).words

abbrev pub source_at : ValidationDispatch → Holdings → Source
source_at d h = slice_index_or h.sources d.source no_source

-- only 0 is a multiple of 0
abbrev pub multiple : ℕ → ℕ → Bool
multiple a n = cond (a == 0) (n == 0) (n % a == 0)

-- the window begins at a multiple of the alignment and at a whole word, is no longer than the largest binding, and lies
-- inside its source
abbrev pub window_lies : ValidationDispatch → Holdings → Bool
window_lies d h =
    multiple h.properties.alignment d.dynamic_offset
    && (d.dynamic_offset % 4 == 0
    && (nat_le d.binding_size h.properties.largest_binding
    && (nat_lt d.source (length h.sources)
    && nat_le (d.dynamic_offset + d.binding_size) (source_at d h).size)))

-- the words that an entry can read: those that lie wholly in the window
abbrev pub window : ValidationDispatch → Holdings → List ℕ
window d h = take (d.binding_size / 4) (drop (d.dynamic_offset / 4) (source_at d h).words)

-- all the entries that are named lie in their buffer, at four words each
abbrev pub entries_lie : ValidationDispatch → Holdings → Bool
entries_lie d h = nat_le (4 * (d.start + d.count)) (length (pool_words d.metadata h))

-- each group handles up to 64 entries
abbrev pub handled : ValidationDispatch → ℕ
handled d = min d.count (64 * d.groups)

-- the first n entries of a list of words
abbrev pub entries_from : List ℕ → ℕ → List MetadataEntry
entries_from ws zero = []
entries_from ws (suc n) = entry_from ws ∷ entries_from (drop 4 ws) n

abbrev pub entries_of : ValidationDispatch → Holdings → List MetadataEntry
entries_of d h = entries_from (drop (4 * d.start) (pool_words d.metadata h)) (handled d)

-- where an entry's place begins in its destination, in words, and how many it has
abbrev pub place_at : MetadataEntry → ℕ
place_at e = (unpacked e).dst_offset / 4

abbrev pub place_words : MetadataEntry → ℕ
place_words e = dst_stride (unpacked e).family / 4

-- an entry reads inside a window of w words, and its place lies inside a destination of n words
abbrev pub inside : ℕ → ℕ → MetadataEntry → Bool
inside w n e = nat_le ((unpacked e).src_offset / 4 + word_count (unpacked e).family) w && nat_le (place_at e + place_words e) n

abbrev pub all_inside : ℕ → ℕ → List MetadataEntry → Bool
all_inside w n [] = true
all_inside w n (e ∷ es) = inside w n e && all_inside w n es

-- The metadata can be read and the destination written, window and entries lie where they should, and every entry that
-- is handled reads and writes inside.
abbrev pub dispatch_lies : ValidationDispatch → Holdings → Bool
dispatch_lies d h =
    pool_in d.metadata StorageReadOnly h
    && (pool_in d.destination StorageReadWrite h
    && (window_lies d h
    && (entries_lie d h
    && all_inside (length (window d h)) (length (pool_words d.destination h)) (entries_of d h))))

-- the words that an entry writes
abbrev pub drawn : Bool → List ℕ → MetadataEntry → List ℕ
drawn allowed w e = unwrap_or (verdict allowed (unpacked e) w) []

-- the destination once each entry has written its words, one after another
abbrev pub ran : Bool → List ℕ → List MetadataEntry → List ℕ → List ℕ
ran allowed w [] ws = ws
ran allowed w (e ∷ es) ws = ran allowed w es (sets ws (place_at e) (drawn allowed w e))

abbrev pub dispatched : ValidationDispatch → Holdings → List ℕ
dispatched d h = ran h.properties.first_instances (window d h) (entries_of d h) (pool_words d.destination h)
