-- What a supply of buffers answers, by how many it holds and how many more it can give.
use Rattle.std.specs.Prelude.{ℕ, ◌+◌, ◌-◌, Bool, true, false, cond, ◌==◌, nat_lt}

-- the buffer asked for is the next one, and there is one to give
abbrev pub gives : ℕ → ℕ → ℕ → Bool
gives held more i = cond (i == held) (nat_lt 0 more) false

abbrev pub grants : ℕ → ℕ → ℕ → Bool
grants held more i = cond (nat_lt i held) true (gives held more i)

abbrev pub held_after : ℕ → ℕ → ℕ → ℕ
held_after held more i = cond (gives held more i) (held + 1) held

-- a new one leaves one fewer
abbrev pub more_after : ℕ → ℕ → ℕ → ℕ
more_after held more i = cond (gives held more i) (more - 1) more
