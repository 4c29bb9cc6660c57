-- A frame has no more draws and batches than its requests and its tables allow.
use Rattle.std.proofs.Common.{◌≡◌, ℕ, ◌+◌, ◌≤◌, List, [], ◌∷◌, map, length, take, Ok, Err, Result, refl, arith}
use Rattle.std.proofs.lemmas.List.{length-map}
use Rattle.batcher.proofs.Accepting.{accepted, names}
use Rattle.batcher.specs.Judged.{Batching, Recording, Terms, batching_after, prepared}
use Rattle.batcher.specs.Keys.{found}
use Rattle.batcher.specs.declared.batcher.judge.Chosen.{Chosen}
use Rattle.command.specs.declared.refusal.Refusal.{Refusal}
use Rattle.page.specs.declared.line.DrawLine.{DrawLine}
use Rattle.places.specs.Counts.{Counts}
use Rattle.places.specs.Supplies.{grants}
use Rattle.sheet.specs.Frames.{fresh, outcome_of, recorded, recorded_all, request_of}

abbrev Grown : Batching → Batching → ℕ → Type 0
Grown s s' n = (s'.draws ≤ s.draws + n) × (s'.batches ≤ s.batches + n)

module _ (t : Terms) (ss : List ℕ) (f : Recording Counts) (d : DrawLine) where
  grown_by : (o : Result Chosen Refusal) → outcome_of t ss f d ≡ o → Grown f.batching (batching_after o f.batching) 1
  grown_by (Ok c) e =
      let a = (accepted t f.batching f.draws f.batches (request_of ss d) (grants f.supply.holds f.supply.left) c e) in
      let p = prepared t f.batching.current a.0 in
      let n = names p f.batching.batches f.batches (found p.key (take f.batching.batches f.batches)) c refl a.2.joins in
      (omega arith, omega (arith, n))
  grown_by (Err r) e = (omega arith, omega arith)

grown_all : (t : Terms) (ss : List ℕ) (f : Recording Counts) (ds : List DrawLine) → Grown f.batching (recorded_all t ss f ds).batching (length ds)
unfolding recorded_all
grown_all t ss f [] = (omega arith, omega arith)
grown_all t ss f (d ∷ ds) =
    let one = grown_by t ss f d (outcome_of t ss f d) refl in
    let all = grown_all t ss (recorded t ss f d) ds in
    (omega (arith, one, all), omega (arith, one, all))

-- each request is recorded at most once, and opens at most one batch
pub few : {Q : Type 0} (line : Q → DrawLine) (t : Terms) (ss : List ℕ) (qs : List Q) → ((recorded_all t ss fresh (map line qs)).batching.draws ≤ length qs) × ((recorded_all t ss fresh (map line qs)).batching.batches ≤ length qs)
few line t ss qs =
    let g = grown_all t ss fresh (map line qs) in
    let n = length-map qs line in
    (omega (arith, g, n), omega (arith, g, n))
