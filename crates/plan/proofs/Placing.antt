-- One more batch of a plan.
use Rattle.std.proofs.Common.{◌≡◌, ℕ, ◌+◌, ◌^◌, ◌<◌, ◌≤◌, true, cond, List, [], ◌∷◌, is_ok, IfOk, Some, None, Ok, Option, Result, sym, ap, ◌∙◌, subst, arith}
use Rattle.std.proofs.lemmas.Bool.Decides.{nat_tests}
use Rattle.command.specs.declared.refusal.Refusal.{Refusal}
use Rattle.batcher.specs.declared.records.DrawIndirectValidationBatch.{DrawIndirectValidationBatch}
use Rattle.places.proofs.Laying.{answered_ok}
use Rattle.places.specs.Placed.{Stocked, answered, current_after, fits, following, past, placed, supply_after}
use Rattle.places.specs.Supplies.{grants}
use Rattle.places.specs.declared.current.CurrentEntry.{CurrentEntry}
use Rattle.plan.specs.Planned.{bytes_of, next_of, ending}

-- the number of buffers only grows
next_up : (room : ℕ) (c : Option CurrentEntry) (b : DrawIndirectValidationBatch) → following c ≤ following (next_of room c b)
next_up room None b = omega arith
next_up room (Some c) b = grind (arith, nat_tests)

-- each batch opens at most one
pub next_bound : (room : ℕ) (c : Option CurrentEntry) (b : DrawIndirectValidationBatch) (i : ℕ) → following c ≤ i → following (next_of room c b) ≤ i + 1
next_bound room None b i h = omega arith
next_bound room (Some c) b i h = grind (arith, nat_tests)

pub ending_up : (room : ℕ) (bs : List DrawIndirectValidationBatch) (c : Option CurrentEntry) → following c ≤ following (ending room bs c)
unfolding ending
ending_up room [] c = omega arith
ending_up room (b ∷ bs) c = omega (arith, next_up room c b, ending_up room bs (next_of room c b))

-- a supply that has enough for all that is to come refuses nothing
pub enough : (c : Option CurrentEntry) (b : DrawIndirectValidationBatch) (room held more : ℕ) → following c ≤ held → following c < 2 ^ 64 → following (next_of room c b) ≤ held + more → is_ok (answered c (bytes_of b) room (grants held more)) ≡ true
enough None b room held more h l e = grind (arith, nat_tests)
enough (Some c) b room held more h l e = grind (arith, nat_tests)

-- what an answer with a place says of the current place and the supply
pub record Had (c : Option CurrentEntry) (z room held more : ℕ) (r : Result CurrentEntry Refusal) (p : CurrentEntry) : Type 1 where
  pub place : p ≡ placed c z room
  pub current : current_after r z c ≡ Some (past (placed c z room) z)
  pub supply : {V : Type 0} (ensured : V → ℕ → V) (v : V) → supply_after ensured r (fits c z room) v ≡ cond (fits c z room) v (ensured v (placed c z room).index)
  pub inside : (held' more' : ℕ) → Stocked c held more held' more' r → following c ≤ held → p.index < held'

pub had : (c : Option CurrentEntry) (z room held more : ℕ) (r : Result CurrentEntry Refusal) (p : CurrentEntry) → r ≡ answered c z room (grants held more) → r ≡ Ok p → Had c z room held more r p
had c z room held more r p e ok =
    let place : p ≡ placed c z room = sym (answered_ok c z room (grants held more) p (sym e ∙ ok)) in
    record {
      place = place;
      current = ap (λ (x : Result CurrentEntry Refusal). current_after x z c) ok ∙ ap (λ (x : CurrentEntry). Some (past x z)) place;
      supply = λ ensured v. ap (λ (x : Result CurrentEntry Refusal). supply_after ensured x (fits c z room) v) ok ∙ ap (λ (x : CurrentEntry). cond (fits c z room) v (ensured v x.index)) place;
      inside = λ held' more' s h. subst (λ (x : Result CurrentEntry Refusal). IfOk x (λ y. y.index < held')) ok (s.within h);
    }
