use Rattle.std.proofs.Common.{◌≡◌, ℕ, ◌≤◌, map, length, sym, ap, ◌∙◌, subst, arith}
use Rattle.std.proofs.lemmas.List.{length-replicate}
use Rattle.batcher.specs.Judged.{Recording, frame_terms}
use Rattle.batcher.specs.Records.{no_batch}
use Rattle.places.specs.Counts.{Counts}
use Rattle.sheet.proofs.Sounding.{Inside, begun_with, inside}
use Rattle.sheet.proofs.Telling.{long}
use Rattle.sheet.specs.Frames.{fresh}
use Rattle.frame_exports.specs.Frames.{batches_written, counts_told, draws_written, plan_of}
use Rattle.frame_exports.specs.Records.{line_of}
use Rattle.frame_exports.proofs.Bounding.{few}
use Rattle.frame_exports.proofs.frames.put_lawful.Goals as goal

abbrev Few : ℕ → Recording Counts → Type 0
Few n f = (f.batching.draws ≤ n) × (f.batching.batches ≤ n) × (length f.batches ≡ 256)

pub put_plan-requires : goal.put_plan-requires
put_plan-requires c =
    let t = frame_terms c.args.terms in
    let ss = c.args.sources.now in
    let qs = c.args.requests.now in
    let w = c.with_terms-frame.ensures in
    let b = begun_with c.with_terms-frame.result c.empty-draw_table.result c.empty-batch_table.result w.batcher w.destinations c.empty-draw_table.ensures c.empty-batch_table.ensures in
    let after = rw (w.terms, b) at c.put_answers.ensures.after in
    let i = subst Inside (sym after) (inside t ss (map line_of qs)) in
    let n = few line_of t ss qs in
    let f = subst (Few (length qs)) (sym after) (n.0, n.1, long t ss fresh (map line_of qs) ∙ length-replicate 256 no_batch) in
    record { table = i.0; tables = i.1; draws = omega (arith, f.0, c.requires.draws); batches = omega (arith, f.1, i.1, f.2, c.requires.batches) }

pub returns : goal.returns
returns c =
    let qs = c.args.requests.now in
    let w = c.with_terms-frame.ensures in
    let p = c.put_plan.ensures in
    let z = c.put_answers.ensures.terms ∙ w.terms in
    let b = begun_with c.with_terms-frame.result c.empty-draw_table.result c.empty-batch_table.result w.batcher w.destinations c.empty-draw_table.ensures c.empty-batch_table.ensures in
    let e = rw (w.terms, b) at c.put_answers.ensures.after in
    record {
      plan = p.plan ∙ (λ i. plan_of (z i).sizes.block (z i).sizes.buffer (e i));
      answers = p.answers ∙ (rw (w.terms, b) at c.put_answers.ensures.answers);
      draws = p.draws ∙ ap (λ (f : Recording Counts). draws_written f c.args.outputs.now.draws.now) e;
      batches = p.batches ∙ (λ i. batches_written (z i).sizes.block (z i).sizes.buffer (e i) c.args.outputs.now.batches.now);
      counts = p.counts ∙ (λ i. counts_told (e i).batching (plan_of (z i).sizes.block (z i).sizes.buffer (e i)));
      memory = p.memory;
    }
