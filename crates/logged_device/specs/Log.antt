-- The log of an encoder.
use Rattle.std.specs.Prelude.{ℕ, ◌+◌, ◌-◌, ◌^◌, min, cond, List, [], ◌∷◌, ◌++◌, nat_lt}
use Rattle.device.specs.declared.commands.Command.{Command}

-- the first commands, and how many there were in all
pub record Log : Type 0 where
  pub kept : List Command
  pub count : ℕ

abbrev pub log : List Command → ℕ → Log
log cs n = record { kept = cs; count = n }

-- one more command: it is kept while fewer than 1,024 were passed on, and counted as far as 64 bits count
abbrev pub logged : Command → Log → Log
logged c l = record { kept = cond (nat_lt l.count 1024) (l.kept ++ c ∷ []) l.kept; count = min (l.count + 1) (2 ^ 64 - 1) }
