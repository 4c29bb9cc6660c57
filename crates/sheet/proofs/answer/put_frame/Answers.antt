use Rattle.std.proofs.Common.{◌≡◌, ℕ, List, ◌++◌, ap, ◌∙◌, append_assoc}
use Rattle.std.proofs.lemmas.Result.{on_ok_weaker}
use Rattle.batcher.specs.Judged.{Recording, Terms, frame_terms}
use Rattle.batcher.specs.declared.terms.FrameTerms.{FrameTerms}
use Rattle.command.specs.Family.{src_stride, dst_stride}
use Rattle.command.specs.declared.settings.Settings.{Settings}
use Rattle.page.specs.declared.line.DrawLine.{DrawLine}
use Rattle.places.specs.Counts.{Counts}
use Rattle.sheet.specs.Frames.{recorded_all}
use Rattle.sheet.specs.Printed.{answer_lines, planned_text, terms_of}
use Rattle.sheet.specs.View.{recording_of}
use Rattle.sheet.proofs.Sounding.{begun_with}
use Rattle.sheet.proofs.answer.put_frame.Goals as goal

same_terms : (t : FrameTerms) (s : Settings) → t.settings ≡ s → (t.sizes.buffer ≡ 1048560) × (t.sizes.block ≡ 67108864) → frame_terms t ≡ terms_of s.alignment s.largest_binding
same_terms t s es ez = λ i. record { alignment = (es i).alignment; largest = (es i).largest_binding; room = ez.0 i; src = src_stride; dst = dst_stride }

-- both parts of the text, over equal frames
joined : (out : List ℕ) (t u : Terms) (ss : List ℕ) (f g r : Recording Counts) (block block' room room' : ℕ) (ls : List DrawLine) → t ≡ u → f ≡ g → r ≡ recorded_all t ss f ls → block ≡ block' → room ≡ room' → (out ++ answer_lines t ss f ls) ++ planned_text block room r ≡ out ++ (answer_lines u ss g ls ++ planned_text block' room' (recorded_all u ss g ls))
joined out t u ss f g r block block' room room' ls et ef er eb em =
    let e : r ≡ recorded_all u ss g ls = er ∙ (λ i. recorded_all (et i) ss (ef i) ls) in
    let p : (out ++ answer_lines t ss f ls) ++ planned_text block room r ≡ (out ++ answer_lines u ss g ls) ++ planned_text block' room' (recorded_all u ss g ls) = λ i. (out ++ answer_lines (et i) ss (ef i) ls) ++ planned_text (eb i) (em i) (e i) in
    p ∙ append_assoc out (answer_lines u ss g ls) (planned_text block' room' (recorded_all u ss g ls))

pub returns : goal.returns
returns c =
    let n = c.new-frame.ensures in
    let d = c.in_ok-put_draws.ensures in
    let b = begun_with c.new-frame.result c.empty-draws.result c.empty-batches.result n.batcher n.destinations c.empty-draws.ensures c.empty-batches.ensures in
    let et = same_terms c.new-frame.result.terms c.args.settings n.settings n.sizes in
    let block : c.put_draws.new.frame.terms.sizes.block ≡ 67108864 = ap (λ (t : FrameTerms). t.sizes.block) d.terms ∙ n.sizes.1 in
    let room : c.put_draws.new.frame.terms.sizes.buffer ≡ 1048560 = ap (λ (t : FrameTerms). t.sizes.buffer) d.terms ∙ n.sizes.0 in
    on_ok_weaker c.put_plan.result (λ e. e ∙ ap (λ (x : List ℕ). x ++ planned_text c.put_draws.new.frame.terms.sizes.block c.put_draws.new.frame.terms.sizes.buffer (recording_of c.put_draws.new.frame c.put_draws.new.tables)) d.text ∙ joined _ _ _ _ _ _ _ _ _ _ _ _ et b d.after block room) c.put_plan.ensures
