-- The buffers of one kind: the members in order, and the free stack, its top last.
use Rattle.std.specs.Prelude.{ℕ, ◌-◌, [], ◌∷◌, ◌++◌, length, take}
use Rattle.pool_trial.specs.declared.tables.Tables.{Tables}

abbrev pub popped : Tables → Tables
popped s = record { members = s.members; free = take (length s.free - 1) s.free }

abbrev pub pushed : Tables → ℕ → Tables
pushed s b = record { members = s.members ++ b ∷ []; free = s.free }
