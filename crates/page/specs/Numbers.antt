-- decimal numbers of 1 to 20 digits, below 2^64
use Rattle.std.specs.Prelude.{ℕ, ◌+◌, ◌-◌, ◌*◌, ◌^◌, Bool, true, cond, ◌&&◌, List, [], ◌∷◌, length, Some, None, Option, nat_le, nat_lt}

abbrev pub is_digit : ℕ → Bool
is_digit c = nat_le 48 c && nat_le c 57

unfoldable pub digits_only : List ℕ → Bool
digits_only [] = true
digits_only (c ∷ cs) = is_digit c && digits_only cs

-- the value of the digits that follow the number n
unfoldable pub value_after : ℕ → List ℕ → ℕ
value_after n [] = n
value_after n (c ∷ cs) = value_after (n * 10 + (c - 48)) cs

abbrev pub value_of : List ℕ → ℕ
value_of bs = value_after 0 bs

abbrev pub number_length : ℕ → Bool
number_length n = nat_le 1 n && nat_le n 20

abbrev pub below_bound : ℕ → Option ℕ
below_bound v = cond (nat_lt v (2 ^ 64)) (Some v) None

-- the number that a text is, if it is one
abbrev pub number_of : List ℕ → Option ℕ
number_of bs = cond (number_length (length bs) && digits_only bs) (below_bound (value_of bs)) None
