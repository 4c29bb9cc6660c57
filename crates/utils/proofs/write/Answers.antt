use Rattle.std.proofs.Common.{ℕ, ◌+◌, List, get_or, take, arith, rules}
use Rattle.std.proofs.lemmas.List.{take_more}
use Rattle.std.proofs.lemmas.Grind.{common_steps}
use Rattle.utils.proofs.Reading.{Turn, read_more, read_past}
use Rattle.utils.proofs.Room.{fronted_more}
use Rattle.utils.proofs.write.Goals as goal
use Rattle.utils.proofs.write.Goals.{then-branch, then-found-out, else-found-out, else-branch}

pub returns-in_err-insert-clause-answer : goal.returns-in_err-insert-clause-answer
returns-in_err-insert-clause-answer c =
    let past = read_past _ _ _ _ _ _ c.new-seen.ensures.clear c.loop-index-test.true c.loop-index.invariant.read c.in_err-insert.ensures.answer in
    grind (arith, common_steps)

pub loop-index-preserved : goal.loop-index-preserved
loop-index-preserved c =
    let xs : List ℕ = c.args.indices.now in
    let i : ℕ = c.loop-index.index-index in
    let t : Turn _ (take i xs) (take (i + 1) xs) _ (get_or xs i 0) _ =
    read_more _ _ _ _ _ _ _ (take_more xs i 0 c.loop-index-test.true) c.loop-index.invariant.read c.in_ok-insert.ensures.answer c.insert.ensures.after in
    record {
      same = search rules;
      read = t.read;
      count = elim c.if-branch.branch [
        | then-branch w ↦ grind (arith, common_steps, t.first w.if-branch.true)
        | else-branch w ↦ grind (arith, common_steps, t.again w.if-branch.false)
      ];
      few = search rules;
      written = λ h. elim c.if-branch.branch [
        | then-branch w ↦
            let f = t.first w.if-branch.true in
            elim w.if-found-out.branch [
              | then-found-out v ↦ grind (arith, common_steps, fronted_more)
              | else-found-out v ↦ grind (arith, common_steps)
            ]
        | else-branch w ↦ grind (arith, common_steps, t.again w.if-branch.false)
      ];
    }
