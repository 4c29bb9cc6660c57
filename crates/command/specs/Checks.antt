-- Refusals in their order.
use Rattle.std.specs.Prelude.{Bool, cond, List, [], ◌∷◌, Ok, Err, Result}
use Rattle.command.specs.declared.refusal.Refusal.{Refusal}

-- the first check that strikes says what is refused; where none does, the answer stands
abbrev pub first : {X : Type 0} → List (Bool × Refusal) → Result X Refusal → Result X Refusal
first [] x = x
first (c ∷ cs) x = cond c.0 (Err c.1) (first cs x)

-- what comes after an answer, unless it is a refusal
abbrev pub and_then : {X Y : Type 0} → Result X Refusal → (X → Result Y Refusal) → Result Y Refusal
and_then (Ok x) f = f x
and_then (Err e) f = Err e
