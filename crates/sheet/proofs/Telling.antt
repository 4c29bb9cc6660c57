-- What is printed of a sheet tells every draw and every batch.
use Rattle.std.proofs.Common.{◌≡◌, ℕ, ◌+◌, ◌<◌, ◌≤◌, Bool, true, false, cond, ltb, List, [], ◌∷◌, ◌++◌, map, length, take, None, Ok, Err, Option, Result, sym, refl, ap, ◌∙◌, subst, append_assoc, append-nil, arith}
use Rattle.std.proofs.lemmas.List.{length-set, length-take-le, length-replicate, map_push, take_more_set}
use Rattle.std.proofs.lemmas.Bool.Decides.{nat_tests}
use Rattle.std.specs.List.{AllByRecursion}
use Rattle.batcher.proofs.Accepting.{accepted}
use Rattle.batcher.specs.Holds.{Held, Holds}
use Rattle.batcher.specs.Judged.{Recording, Terms, draws_after, place_of}
use Rattle.places.specs.Counts.{Counts}
use Rattle.batcher.specs.declared.batcher.judge.Chosen.{Chosen}
use Rattle.batcher.specs.declared.records.DrawIndirectValidationBatch.{DrawIndirectValidationBatch}
use Rattle.batcher.specs.declared.records.IndirectDraw.{IndirectDraw}
use Rattle.command.specs.Lawful.{lawful}
use Rattle.command.specs.declared.refusal.Refusal.{Refusal}
use Rattle.command.specs.declared.refusal.Refusal.TheVariants.{UnlawfulSettings}
use Rattle.page.specs.Sheets.{Sheet}
use Rattle.page.specs.declared.line.DrawLine.{DrawLine}
use Rattle.places.specs.Placed.{following}
use Rattle.places.specs.Supplies.{grants}
use Rattle.places.specs.declared.current.CurrentEntry.{CurrentEntry}
use Rattle.plan.proofs.Placing.{next_bound}
use Rattle.plan.proofs.Staging.{batches_known, front_planned, planned_held}
use Rattle.plan.specs.Planned.{ending, measured, next_of, plan_answer, planned}
use Rattle.sheet.specs.Frames.{answer_of, fresh, outcome_of, recorded, recorded_all, request_of}
use Rattle.sheet.specs.Laws.{Tells, Told, answers_text, place_of_draw, places_in}
use Rattle.sheet.specs.Printed.{answer_line, answer_lines, batch_lines, frame_text, parsed_text, plan_lines, planned_text, printed, refused_line, terms_of}
use Rattle.sheet.proofs.Sounding.{sound_all, sound_fresh}

module _ (t : Terms) (ss : List ℕ) where
  answers_of : Recording Counts → List DrawLine → List (Result CurrentEntry Refusal)
  answers_of f [] = []
  answers_of f (d ∷ ds) = answer_of t ss f d ∷ answers_of (recorded t ss f d) ds

  lines_of : (f : Recording Counts) (ds : List DrawLine) → answer_lines t ss f ds ≡ answers_text (answers_of f ds)
  unfolding answers_of answer_lines
  lines_of f [] = refl
  lines_of f (d ∷ ds) = ap (λ (l : List ℕ). answer_line (answer_of t ss f d) ++ l) (lines_of (recorded t ss f d) ds)

  as_many : (f : Recording Counts) (ds : List DrawLine) → length (answers_of f ds) ≡ length ds
  unfolding answers_of
  as_many f [] = refl
  as_many f (d ∷ ds) = ap Prim.Native.Nat.suc (as_many (recorded t ss f d) ds)

  abbrev standing : Recording Counts → List CurrentEntry
  standing f = map place_of_draw (take f.batching.draws f.draws)

  place_step : (f : Recording Counts) (d : DrawLine) (o : Result Chosen Refusal) → outcome_of t ss f d ≡ o → map place_of_draw (take (Rattle.batcher.specs.Judged.batching_after o f.batching).draws (draws_after o f.batching f.draws)) ≡ standing f ++ places_in (place_of o ∷ [])
  place_step f d (Err r) e = sym (append-nil (standing f))
  place_step f d (Ok c) e =
      let l = (accepted t f.batching f.draws f.batches (request_of ss d) (grants f.supply.holds f.supply.left) c e).2.room in
      ap (λ (x : List IndirectDraw). map place_of_draw x) (take_more_set f.draws f.batching.draws c.draw l) ∙ map_push place_of_draw (take f.batching.draws f.draws) c.draw

  one_more : (r : Result CurrentEntry Refusal) (rs : List (Result CurrentEntry Refusal)) → places_in (r ∷ []) ++ places_in rs ≡ places_in (r ∷ rs)
  one_more (Ok p) rs = refl
  one_more (Err e) rs = refl

  places_of : (f : Recording Counts) (ds : List DrawLine) → standing (recorded_all t ss f ds) ≡ standing f ++ places_in (answers_of f ds)
  unfolding answers_of recorded_all
  places_of f [] = sym (append-nil (standing f))
  places_of f (d ∷ ds) =
      places_of (recorded t ss f d) ds
      ∙ ap (λ (l : List CurrentEntry). l ++ places_in (answers_of (recorded t ss f d) ds)) (place_step f d (outcome_of t ss f d) refl)
      ∙ append_assoc (standing f) (places_in (answer_of t ss f d ∷ [])) (places_in (answers_of (recorded t ss f d) ds))
      ∙ ap (λ (l : List CurrentEntry). standing f ++ l) (one_more (answer_of t ss f d) (answers_of (recorded t ss f d) ds))

  -- the tables keep their lengths
  long_step : (f : Recording Counts) (d : DrawLine) (o : Result Chosen Refusal) → length (Rattle.batcher.specs.Judged.batches_after o f.batches) ≡ length f.batches
  long_step f d (Err r) = refl
  long_step f d (Ok c) = length-set f.batches c.draw.batch c.batch

  pub long : (f : Recording Counts) (ds : List DrawLine) → length (recorded_all t ss f ds).batches ≡ length f.batches
  unfolding recorded_all
  long f [] = refl
  long f (d ∷ ds) = long (recorded t ss f d) ds ∙ long_step f d (outcome_of t ss f d)

-- no more buffers than batches
few : (room : ℕ) (bs : List DrawIndirectValidationBatch) (c : Option CurrentEntry) (n : ℕ) → following c ≤ n → following (ending room bs c) ≤ n + length bs
unfolding ending
few room [] c n h = omega (arith, h)
few room (b ∷ bs) c n h = omega (arith, few room bs (next_of room c b) (n + 1) (next_bound room c b n h))

planned_ok : (block room n : ℕ) (bs : List DrawIndirectValidationBatch) → n ≤ length bs → n ≤ 256 → plan_answer block room n bs 256 ≡ Ok (measured block room (take n bs))
planned_ok block room n bs h k =
    let m = few room (take n bs) None 0 (omega arith) in
    let l : ltb (length bs) n ≡ false = grind (arith, nat_tests) in
    let e : ltb 256 (measured block room (take n bs)).metadata ≡ false = grind (arith, nat_tests, m, length-take-le n bs h) in
    simp (l, e)

-- the text of a frame, told
told_frame : (s : Sheet) (t : Terms) (block : ℕ) → Told s (frame_text t block s.sources s.draws)
told_frame s t block =
    let ss = s.sources in
    let ls = s.draws in
    let f = recorded_all t ss fresh ls in
    let n = f.batching.batches in
    let sound = sound_all t ss fresh ls (sound_fresh t) in
    let h : Holds t sound.0 f.batching f.draws f.batches = sound.1 in
    let bs = take n f.batches in
    let size : length f.batches ≡ 256 = long t ss fresh ls ∙ length-replicate 256 Rattle.batcher.specs.Records.no_batch in
    let ok = planned_ok block t.room n f.batches h.opened (omega (arith, h.opened, size)) in
    let held : Held t sound.0 f.batching.current (take f.batching.draws f.draws) (planned block t.room bs None None) = planned_held t sound.0 f.batching.current (take f.batching.draws f.draws) bs block t.room None None h.held in
    record {
      answers = answers_of t ss fresh ls;
      draws = take f.batching.draws f.draws;
      batches = planned block t.room bs None None;
      lines =
          ap (λ (l : List ℕ). l ++ planned_text block t.room f) (lines_of t ss fresh ls)
          ∙ ap (λ (r : Result Rattle.plan.specs.declared.frame.FramePlan.FramePlan Refusal). answers_text (answers_of t ss fresh ls) ++ plan_lines block t.room f r) ok
          ∙ ap (λ (l : List DrawIndirectValidationBatch). answers_text (answers_of t ss fresh ls) ++ batch_lines 0 (take f.batching.draws f.draws) l) (front_planned block t.room n f.batches h.opened);
      each = as_many t ss fresh ls;
      places = places_of t ss fresh ls;
      owned = subst (λ (k : ℕ). AllByRecursion (λ d. d.batch < k) (take f.batching.draws f.draws)) (Rattle.std.proofs.lemmas.List.length-map (planned block t.room bs None None) Rattle.batcher.specs.Holds.key_of) (batches_known t (map Rattle.batcher.specs.Holds.key_of (planned block t.room bs None None)) sound.0 (take f.batching.draws f.draws) held.recorded);
      counts = held.counts;
    }

told_sheet : (s : Sheet) (b : Bool) → b ≡ true → Told s (cond b (frame_text (terms_of s.align s.binding) 67108864 s.sources s.draws) (refused_line UnlawfulSettings))
told_sheet s true e = told_frame s (terms_of s.align s.binding) 67108864
told_sheet s false e = let z : ◌≡◌ {A = ℕ} 0 1 = cc in absurd (omega arith)

pub told : (input text : List ℕ) → text ≡ printed input → Tells input text
told input text e s p l =
    subst (Told s) (sym (e ∙ ap parsed_text p)) (told_sheet s (lawful s.align s.binding) l)
