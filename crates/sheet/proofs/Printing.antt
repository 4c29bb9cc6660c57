-- One more line of each sort.
use Rattle.std.proofs.Common.{Bor, [], ◌∷◌, map, ◌≡◌, ℕ, ◌+◌, ◌<◌, ◌≤◌, List, ◌++◌, length, get_or, drop, Result, sym, ap, ◌∙◌, append_assoc, append-nil}
use Rattle.std.proofs.lemmas.List.{drop_more, drop_all, map_push}
use Rattle.std.proofs.lemmas.List.Concat.{flat_map-append}
use Rattle.std.specs.List.{flat_map}
use Rattle.batcher.specs.Records.{no_batch}
use Rattle.batcher.specs.declared.records.DrawIndirectValidationBatch.{DrawIndirectValidationBatch}
use Rattle.batcher.specs.declared.records.IndirectDraw.{IndirectDraw}
use Rattle.command.specs.declared.refusal.Refusal.{Refusal}
use Rattle.places.specs.declared.current.CurrentEntry.{CurrentEntry}
use Rattle.batcher.specs.Judged.{Recording, Terms}
use Rattle.places.specs.Counts.{Counts}
use Rattle.page.specs.declared.line.DrawLine.{DrawLine}
use Rattle.sheet.specs.Frames.{answer_of, recorded, recorded_all}
use Rattle.sheet.specs.Printed.{answer_line, answer_lines, batch_line, batch_lines, entry_lines}

-- the lines of what was printed so far and of one more
pub lines_push : {X : Type 0} (line : X → List ℕ) (pre : List ℕ) (xs : List (Bor X)) (x : Bor X) → (pre ++ flat_map line (map (λ y. y.now) xs)) ++ line x.now ≡ pre ++ flat_map line (map (λ y. y.now) (xs ++ (x ∷ [])))
lines_push line pre xs x =
    append_assoc pre (flat_map line (map (λ y. y.now) xs)) (line x.now)
    ∙ ap (λ l. pre ++ l) (sym (ap (flat_map line) (map_push (λ y. y.now) xs x) ∙ flat_map-append line (map (λ y. y.now) xs) (x.now ∷ []) ∙ ap (λ l. flat_map line (map (λ y. y.now) xs) ++ l) (append-nil (line x.now))))

module _ (pre : List ℕ) (ds : List IndirectDraw) (bs : List DrawIndirectValidationBatch) (i : ℕ) where
  pub batches_more : i < length bs → pre ++ batch_lines i ds (drop i bs) ≡ ((pre ++ batch_line (get_or bs i no_batch)) ++ entry_lines i ds) ++ batch_lines (i + 1) ds (drop (i + 1) bs)
  unfolding batch_lines
  batches_more h =
      ap (λ (l : List DrawIndirectValidationBatch). pre ++ batch_lines i ds l) (drop_more bs i no_batch h)
      ∙ sym (append_assoc pre (batch_line (get_or bs i no_batch) ++ entry_lines i ds) (batch_lines (i + 1) ds (drop (i + 1) bs)))
      ∙ ap (λ (l : List ℕ). l ++ batch_lines (i + 1) ds (drop (i + 1) bs)) (sym (append_assoc pre (batch_line (get_or bs i no_batch)) (entry_lines i ds)))

  pub batches_all : length bs ≤ i → pre ++ batch_lines i ds (drop i bs) ≡ pre
  unfolding batch_lines
  batches_all h = ap (λ (l : List DrawIndirectValidationBatch). pre ++ batch_lines i ds l) (drop_all i bs h) ∙ append-nil pre

module _ (t : Terms) (sources : List ℕ) (f : Recording Counts) (ls : List DrawLine) (i : ℕ) (d : DrawLine) where
  -- one more answer, which is said and recorded
  module _ (r : Result CurrentEntry Refusal) (g : Recording Counts) (h : i < length ls) (er : r ≡ answer_of t sources f (get_or ls i d)) (eg : g ≡ recorded t sources f (get_or ls i d)) where
    pub answers_more : (pre out : List ℕ) → out ≡ pre ++ answer_line r → out ++ answer_lines t sources g (drop (i + 1) ls) ≡ pre ++ answer_lines t sources f (drop i ls)
    unfolding answer_lines
    answers_more pre out e =
        (λ k. (e ∙ ap (λ x. pre ++ answer_line x) er) k ++ answer_lines t sources (eg k) (drop (i + 1) ls))
        ∙ append_assoc pre (answer_line (answer_of t sources f (get_or ls i d))) (answer_lines t sources (recorded t sources f (get_or ls i d)) (drop (i + 1) ls))
        ∙ sym (ap (λ (l : List DrawLine). pre ++ answer_lines t sources f l) (drop_more ls i d h))

    pub recorded_more : recorded_all t sources g (drop (i + 1) ls) ≡ recorded_all t sources f (drop i ls)
    unfolding recorded_all
    recorded_more = ap (λ (x : Recording Counts). recorded_all t sources x (drop (i + 1) ls)) eg ∙ sym (ap (λ (l : List DrawLine). recorded_all t sources f l) (drop_more ls i d h))

  pub answers_all : (pre : List ℕ) → length ls ≤ i → pre ++ answer_lines t sources f (drop i ls) ≡ pre
  unfolding answer_lines
  answers_all pre h = ap (λ (l : List DrawLine). pre ++ answer_lines t sources f l) (drop_all i ls h) ∙ append-nil pre

  pub recorded_all_lem : length ls ≤ i → recorded_all t sources f (drop i ls) ≡ f
  unfolding recorded_all
  recorded_all_lem h = ap (λ (l : List DrawLine). recorded_all t sources f l) (drop_all i ls h)
