-- How many bytes a range has, and an index takes.
use Rattle.std.specs.Prelude.{ℕ, ◌-◌}
use Rattle.render.specs.declared.bindings.BufferRange.{BufferRange}
use Rattle.render.specs.declared.bindings.IndexFormat.{IndexFormat}
use Rattle.render.specs.declared.bindings.IndexFormat.TheVariants.{Uint16, Uint32}

abbrev pub size_of : BufferRange → ℕ
size_of range = range.end - range.start

abbrev pub index_bytes : IndexFormat → ℕ
index_bytes Uint16 = 2
index_bytes Uint32 = 4
