-- Regions of a list of words.
use Rattle.std.specs.Prelude.{ℕ, ◌+◌, ◌≤◌, ◌⊎◌, List, length}
use Rattle.direct_memory.specs.Cells.{part}
use Rattle.direct_memory.specs.declared.words.Region.{Region}

abbrev pub Inside : Region → List ℕ → Type 0
Inside g ws = g.start + g.size ≤ length ws

abbrev pub words_of : Region → List ℕ → List ℕ
words_of g ws = part g.start g.size ws

-- one ends before the other begins
abbrev pub Apart : Region → Region → Type 0
Apart g h = (g.start + g.size ≤ h.start) ⊎ (h.start + h.size ≤ g.start)
