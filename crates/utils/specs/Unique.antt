-- When the distinct indices of a list can be written, and what is left then.
use Rattle.std.specs.Prelude.{ℕ, Bool, true, cond, ◌&&◌, List, [], ◌∷◌, ◌++◌, length, drop, Some, None, Option, nat_le, nat_lt}
use Rattle.utils.specs.Firsts.{firsts}

abbrev pub all_below : ℕ → List ℕ → Bool
all_below n [] = true
all_below n (x ∷ xs) = nat_lt x n && all_below n xs

-- How many distinct indices are named, or none where one has no mark.
abbrev pub counted : ℕ → List ℕ → Option ℕ
counted marks named = cond (all_below marks named) (Some (length (firsts named))) None

-- The indices in front, and the rest as it was.
abbrev pub fronted : List ℕ → List ℕ → List ℕ
fronted found room = found ++ drop (length found) room

-- Each index has a mark, and there is room for the distinct ones.
abbrev pub fits : ℕ → List ℕ → List ℕ → Bool
fits marks named room = all_below marks named && nat_le (length (firsts named)) (length room)
