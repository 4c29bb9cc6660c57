use Rattle.std.proofs.Common.{ℕ, ◌+◌, List, get_or, take, ◌∙◌, sym, ap, arith, rules}
use Rattle.std.proofs.lemmas.List.{map_more, get_or-map, length-map}
use Rattle.std.proofs.lemmas.Grind.{common_steps}
use Rattle.utils.proofs.Reading.{Turn, read_more, read_past}
use Rattle.utils.specs.Marks.{insertion}
use Rattle.utils_trial.proofs.batch.Groups.barriers.Goals as goal
use Rattle.utils_trial.proofs.batch.Groups.barriers.Goals.{then-branch+in_ok-push, else-branch}
use Rattle.utils_trial.specs.declared.batch.Batch.{Batch}
use Rattle.utils_trial.specs.Named.{destinations}

pub returns-in_err-ok_or-clause-past : goal.returns-in_err-ok_or-clause-past
returns-in_err-ok_or-clause-past c =
    let none : Batch = record { destination = 0; count = 0 } in
    let named = get_or-map (λ (b : Batch). b.destination) c.args.batches.now c.loop-batch.batch-index none 0 c.loop-batch-test.true in
    let past = read_past _ _ _ (destinations c.args.batches.now) _ c.loop-batch.batch-index c.new-seen.ensures.clear (search (rules, length-map)) c.loop-batch.invariant.read
    (sym c.in_err-ok_or.ensures.ok_part ∙ c.insert.ensures.answer ∙ ap (insertion c.loop-batch.seen.marks.now) (sym named)) in
    λ e. grind (arith, common_steps)

pub loop-batch-preserved : goal.loop-batch-preserved
loop-batch-preserved c =
    let bs : List Batch = c.args.batches.now in
    let i : ℕ = c.loop-batch.batch-index in
    let t : Turn _ (destinations (take i bs)) (destinations (take (i + 1) bs)) _ (get_or bs i (record { destination = 0; count = 0 })).destination _ =
    read_more _ _ _ _ _ _ _ (map_more (λ b. b.destination) bs i (record { destination = 0; count = 0 }) c.loop-batch-test.true) c.loop-batch.invariant.read (sym c.in_ok-ok_or.ensures.ok_part ∙ c.insert.ensures.answer) c.insert.ensures.after in
    record {
      same = search rules;
      read = t.read;
      listed = elim c.if-branch.branch [
        | then-branch+in_ok-push w ↦ grind (arith, common_steps, t.first w.if-branch.true)
        | else-branch w ↦ grind (arith, common_steps, t.again w.if-branch.false)
      ];
    }
