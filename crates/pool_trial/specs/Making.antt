-- A device that makes buffers: those made, in order, and how many more it can make.
use Rattle.std.specs.Prelude.{ℕ, ◌-◌, cond, List, [], ◌∷◌, ◌++◌, length, Some, None, Option, nat_lt}
use Rattle.device.specs.declared.buffers.PoolKind.{PoolKind}

pub record Making : Type 0 where
  pub made : List PoolKind
  pub makeable : ℕ

abbrev pub makes : Making → Option ℕ
makes m = cond (nat_lt 0 m.makeable) (Some (length m.made)) None

abbrev pub one_made : PoolKind → Making → Making
one_made k m = record { made = m.made ++ k ∷ []; makeable = m.makeable - 1 }

abbrev pub making : PoolKind → Making → Making
making k m = cond (nat_lt 0 m.makeable) (one_made k m) m
