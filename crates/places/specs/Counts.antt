-- A supply that only counts.
use Rattle.std.specs.Prelude.{ℕ}
use Rattle.places.specs.Supplies.{held_after, more_after}

pub record Counts : Type 0 where
  pub holds : ℕ
  pub left : ℕ

abbrev pub counts : ℕ → ℕ → Counts
counts h m = record { holds = h; left = m }

abbrev pub counted : Counts → ℕ → Counts
counted c i = counts (held_after c.holds c.left i) (more_after c.holds c.left i)
