-- How the words of a direct device are cut.
use Rattle.std.specs.Prelude.{ℕ, ◌+◌, ◌*◌, ◌/◌, ◌^◌, Bool, ◌&&◌, List, [], ◌∷◌, ◌==◌, nat_lt}
use Rattle.direct_memory.specs.declared.layout.SourcePlace.{SourcePlace}

-- the words of so many bytes, the last of them perhaps in part
abbrev pub words_for : ℕ → ℕ
words_for n = (n + 3) / 4

-- sources of fewer than 2^32 bytes, one after another, from word a to word b
abbrev pub laid_sources : ℕ → List SourcePlace → ℕ → Bool
laid_sources a [] b = a == b
laid_sources a (s ∷ ss) b = s.start == a && (nat_lt s.size (2 ^ 32) && laid_sources (a + words_for s.size) ss b)

-- what the bookkeeping word of a staging block says: the byte at which the block ends, and its use
abbrev pub end_of : ℕ → ℕ
end_of r = r / 16 * 16

-- blocks one after another, none of them empty, from a byte to the last that is used
abbrev pub booked : ℕ → List ℕ → ℕ → Bool
booked from [] used = from == used
booked from (r ∷ rs) used = nat_lt from (end_of r) && booked (end_of r) rs used
