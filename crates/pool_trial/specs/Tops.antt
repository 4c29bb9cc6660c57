-- The top of a stack of buffers is its last one.
use Rattle.std.specs.Prelude.{ℕ, ◌-◌, cond, List, length, Some, None, Option, nat_lt, slice_index}

abbrev pub top : List ℕ → ℕ
top l = slice_index l (length l - 1)

abbrev pub top_of : List ℕ → Option ℕ
top_of l = cond (nat_lt 0 (length l)) (Some (top l)) None
