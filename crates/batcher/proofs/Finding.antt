-- What the search for a key finds.
use Rattle.std.proofs.Common.{◌≡◌, ℕ, ◌≤◌, Bool, true, false, cond, ltb, List, length, take, Some, None, Option, refl, arith, ltb-false}
use Rattle.std.proofs.lemmas.List.{length-take-le, get_or-take}
use Rattle.std.proofs.lemmas.List.Elements.{All-from_get_or}
use Rattle.std.proofs.lemmas.List.Quantifiers.{position-Some}
use Rattle.std.proofs.lemmas.List.Sums.{fails_before_first}
use Rattle.std.specs.List.{position_or_len}
use Rattle.batcher.specs.declared.records.BatchKey.{BatchKey}
use Rattle.batcher.specs.declared.records.DrawIndirectValidationBatch.{DrawIndirectValidationBatch}
use Rattle.batcher.specs.Keys.{found, has_key, Finds}
use Rattle.batcher.specs.Records.{no_batch}

nothing : (b : Bool) (n : ℕ) → ◌≡◌ {A = Option ℕ} (cond b (Some n) None) None → b ≡ false
nothing true n e = cc
nothing false n e = refl

pub finds : (k : BatchKey) (bs : List DrawIndirectValidationBatch) (r : Option ℕ) → found k bs ≡ r → Finds k bs r
finds k bs None e =
    let past : length bs ≤ position_or_len (has_key k) bs = ltb-false _ _ (nothing (ltb (position_or_len (has_key k) bs) (length bs)) (position_or_len (has_key k) bs) e) in
    λ i d l. fails_before_first (has_key k) bs i d (omega arith)
finds k bs (Some i) e =
    let h = position-Some (has_key k) bs i no_batch e in
    let long : length (take i bs) ≡ i = length-take-le i bs (omega (arith, h)) in
    record {
      within = h.0;
      has = h.1;
      sooner = All-from_get_or (λ b. has_key k b ≡ false) (take i bs) no_batch (λ j l. rw (get_or-take i bs j no_batch (omega (arith, l, long))) (h.2 j (omega (arith, l, long))));
    }
