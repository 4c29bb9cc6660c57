-- Whatever a request answers, the tables hold what was accepted.
use Rattle.std.proofs.Common.{◌≡◌, ℕ, ◌+◌, ◌<◌, max, Bool, false, All, List, [], ◌∷◌, ◌++◌, length, get_or, take, Some, None, Ok, Err, Option, Result, sym, refl, subst, arith, MatchResult}
use Rattle.std.proofs.Math.Seq.{take-set-lt}
use Rattle.std.proofs.lemmas.List.{length-set, take_more_set, length-take-le, get_or-take}
use Rattle.command.specs.declared.refusal.Refusal.{Refusal}
use Rattle.batcher.specs.declared.batcher.judge.Chosen.{Chosen}
use Rattle.batcher.specs.declared.batcher.judge.Prepared.{Prepared}
use Rattle.batcher.specs.declared.records.DrawIndirectValidationBatch.{DrawIndirectValidationBatch}
use Rattle.batcher.specs.declared.records.DrawRequest.{DrawRequest}
use Rattle.batcher.specs.declared.records.IndirectDraw.{IndirectDraw}
use Rattle.batcher.specs.Holds.{Holds, asked}
use Rattle.batcher.specs.Judged.{Terms, Batching, Wanted, prepared, chosen, counted, opened, draw_at, place_for, joined, judged, outcome, place_of, draws_after, batches_after, batching_after}
use Rattle.batcher.specs.Keys.{found, has_key, First}
use Rattle.batcher.specs.Records.{no_batch}
use Rattle.batcher.proofs.Accepting.{Accepted, accepted, accepted_judged, joined_as}
use Rattle.batcher.proofs.Finding.{finds}
use Rattle.batcher.proofs.Holding.{held_joins, held_opens}

module _ (t : Terms) (s : Batching) (ds : List IndirectDraw) (bs : List DrawIndirectValidationBatch) (ws : List Wanted) (h : Holds t ws s ds bs) where
  abbrev After : List Wanted → Chosen → Type 0
  After vs c = Holds t (ws ++ vs) (batching_after (Ok c) s) (draws_after (Ok c) s ds) (batches_after (Ok c) bs)

  module _ (w : Wanted) (lt : s.draws < length ds) where
    abbrev ready : Prepared
    ready = prepared t s.current w

    -- the draw joins batch i
    keeps_joined : (i : ℕ) → First ready.key (take s.batches bs) i → After (w ∷ []) (chosen ready i (get_or bs i no_batch).count (counted (get_or bs i no_batch)))
    keeps_joined i f =
        let long = length-take-le s.batches bs h.opened in
        let l : i < s.batches = omega (arith, f.within, long) in
        let d = draw_at t w (place_for t s.current w) i (get_or bs i no_batch).count in
        let same : get_or (take s.batches bs) i no_batch ≡ get_or bs i no_batch = get_or-take s.batches bs i no_batch l in
        let many : max s.batches (i + 1) ≡ s.batches = omega arith in
        let held = rw same at (held_joins t ws s.current (take s.draws ds) (take s.batches bs) h.held w i f) in
        record {
          drawn = omega (arith, length-set ds s.draws d);
          opened = omega (arith, length-set bs i (counted (get_or bs i no_batch)), h.opened);
          held = rw (many, take_more_set ds s.draws d lt, take-set-lt s.batches bs i (counted (get_or bs i no_batch)) l) held;
        }

    -- the draw opens the next batch
    keeps_opened : All (λ b. has_key ready.key b ≡ false) (take s.batches bs) → s.batches < length bs → After (w ∷ []) (chosen ready s.batches 0 (opened ready.key))
    keeps_opened none l =
        let long : length (take s.batches bs) ≡ s.batches = length-take-le s.batches bs h.opened in
        let d = draw_at t w (place_for t s.current w) s.batches 0 in
        let many : max s.batches (s.batches + 1) ≡ s.batches + 1 = omega arith in
        let held = rw long at (held_opens t ws s.current (take s.draws ds) (take s.batches bs) h.held w none) in
        record {
          drawn = omega (arith, length-set ds s.draws d);
          opened = omega (arith, length-set bs s.batches (opened ready.key));
          held = rw (many, take_more_set ds s.draws d lt, take_more_set bs s.batches (opened ready.key) l) held;
        }

    keeps_found : (r : Option ℕ) → found ready.key (take s.batches bs) ≡ r → (c : Chosen) → joined ready s.batches bs r ≡ Ok c → After (w ∷ []) c
    keeps_found (Some i) e c j = subst (After (w ∷ [])) (joined_as ready s.batches bs (Some i) c j) (keeps_joined i (finds ready.key (take s.batches bs) (Some i) e))
    keeps_found None e c j =
        let k = joined_as ready s.batches bs None c j in
        subst (After (w ∷ [])) k.1 (keeps_opened (finds ready.key (take s.batches bs) None e) k.0)

  keeps_accepted : (vs : List Wanted) (c : Chosen) → Accepted t s ds bs vs c → After vs c
  keeps_accepted vs c a =
      subst (λ (l : List Wanted). After l c) (sym a.1) (keeps_found a.0 a.2.room (found (prepared t s.current a.0).key (take s.batches bs)) refl c a.2.joins)

  pub keeps_judged : (q : DrawRequest) (c : Chosen) → judged t s ds bs q ≡ Ok c → After (asked q) c
  keeps_judged q c e = keeps_accepted (asked q) c (accepted_judged t s ds bs q c e)

  keeps_at : (q : DrawRequest) (can : ℕ → Bool) (o : Result Chosen Refusal) → outcome t s ds bs q can ≡ o → MatchResult (place_of o) (λ _. Holds t (ws ++ asked q) (batching_after o s) (draws_after o s ds) (batches_after o bs)) (λ _. Holds t ws (batching_after o s) (draws_after o s ds) (batches_after o bs))
  keeps_at q can (Err r) e = h
  keeps_at q can (Ok c) e = keeps_accepted (asked q) c (accepted t s ds bs q can c e)

  pub keeps : (q : DrawRequest) (can : ℕ → Bool) → MatchResult (place_of (outcome t s ds bs q can)) (λ _. Holds t (ws ++ asked q) (batching_after (outcome t s ds bs q can) s) (draws_after (outcome t s ds bs q can) s ds) (batches_after (outcome t s ds bs q can) bs)) (λ _. Holds t ws (batching_after (outcome t s ds bs q can) s) (draws_after (outcome t s ds bs q can) s ds) (batches_after (outcome t s ds bs q can) bs))
  keeps q can = keeps_at q can (outcome t s ds bs q can) refl
