use Rattle.std.proofs.Common.{◌≡◌, false, eqb, Some, None, rules, tests}
use Rattle.std.proofs.lemmas.Iterator.{IsFirst-from_position, YieldsList-from_slice}
use Rattle.page.proofs.Parts.{first_place}
use Rattle.page.proofs.text.cut.Goals as goal

pub returns-in_err-at : goal.returns-in_err-at
returns-in_err-at c =
    rw c.from_residual.ensures
    (first_place c.args.mark c.args.text.now None (IsFirst-from_position _ _ None (λ x. x ≡ c.args.mark) (λ x. eqb x c.args.mark ≡ false) c.in_err-at.ensures.ran (YieldsList-from_slice c.args.text.now cc) (λ x q k. search (rules, tests)) (λ x q k. search (rules, tests))))

pub returns : goal.returns
returns c =
    first_place c.args.mark c.args.text.now (Some c.in_ok-at.at) (IsFirst-from_position _ _ (Some c.in_ok-at.at) (λ x. x ≡ c.args.mark) (λ x. eqb x c.args.mark ≡ false) c.in_ok-at.ensures.ran (YieldsList-from_slice c.args.text.now cc) (λ x q k. search (rules, tests)) (λ x q k. search (rules, tests)))
