-- What is known of a request that was accepted.
use Rattle.std.proofs.Common.{◌-◌, ◌^◌, ◌≤◌, leb, get_or, ap, arith, ◌≡◌, ℕ, ◌<◌, Bool, true, false, cond, List, [], ◌∷◌, length, take, Some, None, Ok, Err, Option, Result, refl, leb-false}
use Rattle.std.proofs.lemmas.List.{length-take}
use Rattle.command.proofs.Checking.{first_ok, then_ok}
use Rattle.command.specs.Checks.{first}
use Rattle.command.specs.Family.{argument_answer, family_of}
use Rattle.command.specs.declared.family.DrawCommandFamily.{DrawCommandFamily}
use Rattle.command.specs.declared.refusal.Refusal.{Refusal}
use Rattle.command.specs.declared.refusal.Refusal.TheVariants.{NoBuffer, TableFull}
use Rattle.batcher.specs.declared.batcher.judge.Chosen.{Chosen}
use Rattle.batcher.specs.declared.batcher.judge.Prepared.{Prepared}
use Rattle.batcher.specs.declared.records.DrawIndirectValidationBatch.{DrawIndirectValidationBatch}
use Rattle.batcher.specs.declared.records.DrawRequest.{DrawRequest}
use Rattle.batcher.specs.declared.records.IndirectDraw.{IndirectDraw}
use Rattle.batcher.specs.Holds.{asked, asked_of}
use Rattle.batcher.specs.Judged.{Terms, Batching, Wanted, wanted, prepared, chosen, counted, opened, joined, table_checks, judged, judged_wanted, by_size, by_family, given, granted, outcome}
use Rattle.batcher.specs.Keys.{found}
use Rattle.batcher.specs.Records.{no_batch}
use Rattle.batcher.proofs.Finding.{finds}

module _ (t : Terms) (s : Batching) (ds : List IndirectDraw) (bs : List DrawIndirectValidationBatch) where
  -- the draw found room in its table, and joined a batch or opened one
  pub record Joins (w : Wanted) (c : Chosen) : Type 0 where
    pub room : s.draws < length ds
    pub joins : joined (prepared t s.current w) s.batches bs (found (prepared t s.current w).key (take s.batches bs)) ≡ Ok c

  -- the request asked for a draw that did
  abbrev pub Accepted : List Wanted → Chosen → Type 0
  Accepted ws c = (w : Wanted) × (ws ≡ w ∷ []) × Joins w c

  joins_wanted : (w : Wanted) (c : Chosen) → judged_wanted t s ds bs w ≡ Ok c → Joins w c
  joins_wanted w c e =
      let p = prepared t s.current w in
      let rest = joined p s.batches bs (found p.key (take s.batches bs)) in
      let j = then_ok (argument_answer t.src w.family w.size w.offset) (first (table_checks s ds bs) rest) c e in
      let f = first_ok (table_checks s ds bs) rest c j in
      record { room = leb-false (length ds) s.draws f.0.0; joins = f.1 }

  accepted_size : (q : DrawRequest) (f : DrawCommandFamily) (z : Option ℕ) (c : Chosen) → by_size t s ds bs q f z ≡ Ok c → Accepted (asked_of q (Some f) z) c
  accepted_size q f None c e = cc
  accepted_size q f (Some z) c e = (wanted q f z, refl, joins_wanted (wanted q f z) c e)

  accepted_family : (q : DrawRequest) (f : Option DrawCommandFamily) (c : Chosen) → by_family t s ds bs q f ≡ Ok c → Accepted (asked_of q f q.size) c
  accepted_family q None c e = cc
  accepted_family q (Some f) c e = accepted_size q f q.size c e

  pub accepted_judged : (q : DrawRequest) (c : Chosen) → judged t s ds bs q ≡ Ok c → Accepted (asked q) c
  accepted_judged q c e = accepted_family q (family_of q.kind) c e

granted_ok : (r : Result Chosen Refusal) (can : ℕ → Bool) (c : Chosen) → granted r can ≡ Ok c → r ≡ Ok c
granted_ok (Err e) can c q = q
granted_ok (Ok d) can c q = at (given d.asks can) q
  where
    at : (b : Bool) → cond b (Ok d) (Err NoBuffer) ≡ Ok c → ◌≡◌ {A = Result Chosen Refusal} (Ok d) (Ok c)
    at true q = q
    at false q = cc

pub accepted : (t : Terms) (s : Batching) (ds : List IndirectDraw) (bs : List DrawIndirectValidationBatch) (q : DrawRequest) (can : ℕ → Bool) (c : Chosen) → outcome t s ds bs q can ≡ Ok c → Accepted t s ds bs (asked q) c
accepted t s ds bs q can c e = accepted_judged t s ds bs q c (granted_ok (judged t s ds bs q) can c e)

-- the batch that the draw joined, or the next one, in a table that has room for it
abbrev pub JoinedAs : Prepared → ℕ → List DrawIndirectValidationBatch → Option ℕ → Chosen → Type 0
JoinedAs p n bs (Some i) c = chosen p i (get_or bs i no_batch).count (counted (get_or bs i no_batch)) ≡ c
JoinedAs p n bs None c = (n < length bs) × (chosen p n 0 (opened p.key) ≡ c)

pub joined_as : (p : Prepared) (n : ℕ) (bs : List DrawIndirectValidationBatch) (r : Option ℕ) (c : Chosen) → joined p n bs r ≡ Ok c → JoinedAs p n bs r c
joined_as p n bs (Some i) c j =
    let f = first_ok ((leb (2 ^ 32 - 1) (get_or bs i no_batch).count, TableFull) ∷ []) (Ok (chosen p i (get_or bs i no_batch).count (counted (get_or bs i no_batch)))) c j in
    cc
joined_as p n bs None c j =
    let f = first_ok ((leb (length bs) n, TableFull) ∷ []) (Ok (chosen p n 0 (opened p.key))) c j in
    (leb-false (length bs) n f.0.0, cc)

-- a draw names a batch that is there, or the next one
pub names : (p : Prepared) (n : ℕ) (bs : List DrawIndirectValidationBatch) (r : Option ℕ) (c : Chosen) → found p.key (take n bs) ≡ r → joined p n bs r ≡ Ok c → c.draw.batch ≤ n
names p n bs (Some i) c e j =
    omega (arith, (finds p.key (take n bs) (Some i) e).within, length-take n bs, ap (λ (x : Chosen). x.draw.batch) (joined_as p n bs (Some i) c j))
names p n bs None c e j = omega (arith, ap (λ (x : Chosen). x.draw.batch) (joined_as p n bs None c j).1)
