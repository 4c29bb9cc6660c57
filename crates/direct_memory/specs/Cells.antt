-- A list of words cut into cells, each of which is read as something.
use Rattle.std.specs.Prelude.{ℕ, List, [], ◌∷◌, take, drop}

-- n words from a place on
abbrev pub part : ℕ → ℕ → List ℕ → List ℕ
part at n ws = take n (drop at ws)

pub record Cell (X : Type 0) : Type 0 where
  pub start : ℕ
  pub size : ℕ
  pub read : List ℕ → X

abbrev pub cell : {X : Type 0} → ℕ → ℕ → (List ℕ → X) → Cell X
cell at n read = record { start = at; size = n; read = read }

abbrev pub reads : {X : Type 0} → List (Cell X) → List ℕ → List X
reads [] ws = []
reads (c ∷ cs) ws = c.read (part c.start c.size ws) ∷ reads cs ws
