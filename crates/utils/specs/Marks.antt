-- Mark bytes: one for each index, 0 until the index is named.
use Rattle.std.specs.Prelude.{ℕ, Bool, cond, List, length, replicate, Some, None, Option, ◌==◌, nat_lt, slice_index}

-- As many marks, all of them clear.
abbrev pub wiped : List ℕ → List ℕ
wiped marks = replicate (length marks) 0

-- Whether the index was not yet named, or none where it has no mark.
abbrev pub insertion : List ℕ → ℕ → Option Bool
insertion marks index = cond (nat_lt index (length marks)) (Some (slice_index marks index == 0)) None
