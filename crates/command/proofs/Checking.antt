-- No check struck where something was accepted.
use Rattle.std.proofs.Common.{◌≡◌, ℕ, Bool, true, false, cond, List, [], ◌∷◌, Ok, Err, Result, refl, arith}
use Rattle.std.specs.List.{AllByRecursion}
use Rattle.command.specs.Checks.{first, and_then}
use Rattle.command.specs.declared.refusal.Refusal.{Refusal}

passed : {X : Type 0} (b : Bool) (r : Refusal) (rest : Result X Refusal) (c : X) → cond b (Err r) rest ≡ Ok c → (b ≡ false) × (rest ≡ Ok c)
passed true r rest c e = let z : ◌≡◌ {A = ℕ} 0 1 = cc in absurd (omega arith)
passed false r rest c e = (refl, e)

pub first_ok : {X : Type 0} (cs : List (Bool × Refusal)) (x : Result X Refusal) (c : X) → first cs x ≡ Ok c → AllByRecursion (λ p. p.0 ≡ false) cs × (x ≡ Ok c)
first_ok [] x c e = (tt, e)
first_ok (p ∷ cs) x c e =
    let h = passed p.0 p.1 (first cs x) c e in
    let t = first_ok cs x c h.1 in
    ((h.0, t.0), t.1)

pub then_ok : {X Y : Type 0} (r : Result X Refusal) (x : Result Y Refusal) (c : Y) → and_then r (λ _. x) ≡ Ok c → x ≡ Ok c
then_ok (Ok y) x c e = e
then_ok (Err r) x c e = let z : ◌≡◌ {A = ℕ} 0 1 = cc in absurd (omega arith)
