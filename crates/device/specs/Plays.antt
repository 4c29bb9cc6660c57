-- Commands: which are lawful, and what lawful ones do.
use Rattle.std.specs.Prelude.{ℕ, ◌+◌, ◌*◌, ◌/◌, ◌%◌, Bool, true, false, cond, not, ◌&&◌, List, [], ◌∷◌, length, take, drop, ◌==◌, nat_le, slice_index_or, slice_set}
use Rattle.std.proofs.lemmas.List.Edits.{sets}
use Rattle.device.specs.declared.buffers.BufferRef.{BufferRef}
use Rattle.device.specs.declared.buffers.BufferRef.TheVariants as buffer
use Rattle.device.specs.declared.buffers.BufferUses.{BufferUses}
use Rattle.device.specs.declared.buffers.BufferUses.TheVariants.{CopySrc, CopyDst}
use Rattle.device.specs.declared.commands.BufferCopy.{BufferCopy}
use Rattle.device.specs.declared.commands.Command.{Command}
use Rattle.device.specs.declared.commands.Command.TheVariants.{Transition, Copy, Begin, Dispatch, End}
use Rattle.device.specs.Calls.{block_in, block_words, block_of}
use Rattle.device.specs.Dispatches.{pool_in, pool_words, dispatch_lies, dispatched}
use Rattle.device.specs.Meaning.{Meaning, Holdings, Buffer, no_buffer, with_pool, with_blocks, with_mark}

-- a buffer in a given use
abbrev pub is_in : BufferRef → BufferUses → Holdings → Bool
is_in (buffer.Pool i) u h = pool_in i u h
is_in (buffer.Staging b) u h = block_in b u h

abbrev pub with_state : BufferUses → Buffer → Buffer
with_state u b = record { kind = b.kind; words = b.words; state = u }

abbrev pub with_words : List ℕ → Buffer → Buffer
with_words ws b = record { kind = b.kind; words = ws; state = b.state }

abbrev pub put_state : BufferRef → BufferUses → Holdings → Holdings
put_state (buffer.Pool i) u h = with_pool h (slice_set h.pool i (with_state u (slice_index_or h.pool i no_buffer)))
put_state (buffer.Staging b) u h = with_blocks h (slice_set h.staging.blocks b.number (block_of (block_words b h) u))

abbrev pub put_words : ℕ → List ℕ → Holdings → Holdings
put_words i ws h = with_pool h (slice_set h.pool i (with_words ws (slice_index_or h.pool i no_buffer)))

-- the block can be read and the buffer written, and both ranges lie inside, in whole words
abbrev pub copy_lies : BufferCopy → Holdings → Bool
copy_lies c h =
    block_in c.block CopySrc h
    && (pool_in c.buffer CopyDst h
    && (c.src_offset % 4 == 0
    && (c.dst_offset % 4 == 0
    && (c.size % 4 == 0
    && (nat_le (c.src_offset + c.size) (4 * length (block_words c.block h))
    && nat_le (c.dst_offset + c.size) (4 * length (pool_words c.buffer h)))))))

abbrev pub copied : BufferCopy → Holdings → List ℕ
copied c h = sets (pool_words c.buffer h) (c.dst_offset / 4) (take (c.size / 4) (drop (c.src_offset / 4) (block_words c.block h)))

-- which commands belong between begin and end
abbrev pub in_pass : Command → Bool
in_pass (Transition b) = false
in_pass (Copy c) = false
in_pass Begin = false
in_pass (Dispatch d) = true
in_pass End = true

-- what a command needs of the buffers that it names
abbrev pub lies : Command → Holdings → Bool
lies (Transition b) h = is_in b.buffer b.from h
lies (Copy c) h = copy_lies c h
lies Begin h = true
lies (Dispatch d) h = dispatch_lies d h
lies End h = true

abbrev pub lawful : Command → Meaning → Bool
lawful c m = cond m.pass_open (in_pass c) (not (in_pass c)) && lies c m.holds

-- what a lawful command makes of what the device holds, and whether a pass is open after it
abbrev pub carried : Command → Holdings → Holdings
carried (Transition b) h = put_state b.buffer b.to h
carried (Copy c) h = put_words c.buffer (copied c h) h
carried Begin h = h
carried (Dispatch d) h = put_words d.destination (dispatched d h) h
carried End h = h

abbrev pub pass_after : Command → Bool → Bool
pass_after (Transition b) o = o
pass_after (Copy c) o = o
pass_after Begin o = true
pass_after (Dispatch d) o = o
pass_after End o = false

abbrev pub obeyed : Command → Meaning → Meaning
obeyed c m = record { holds = carried c m.holds; pass_open = pass_after c m.pass_open; marked = m.marked }

-- a lawful command is carried out; any other only raises the mark
abbrev pub played : Command → Meaning → Meaning
played c m = cond (lawful c m) (obeyed c m) (with_mark m)

abbrev pub play_all : List Command → Meaning → Meaning
play_all [] m = m
play_all (c ∷ cs) m = play_all cs (played c m)
