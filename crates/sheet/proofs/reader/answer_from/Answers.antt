use Rattle.std.proofs.Common.{◌≡◌, Ok, Err, Result, string_bytes, ap, ◌∙◌}
use Rattle.std.proofs.lemmas.Result.{IfOk-weaker, err_from_is_err_and}
use Rattle.std.specs.Result.{IfOk, IsErrAnd, MatchResult}
use Rattle.sheet.specs.Printed.{printed}
use Rattle.sheet.proofs.Whole.{printed_whole, told_whole}
use Rattle.sheet.proofs.reader.answer_from.Goals as goal

-- what is known of a value is known of it where only the error is made another
with_other_error : {T D E : Type 0} (r : Result T D) (m : Result T E) (P : T → Type 0) (Q : D → E → Type 0) → MatchResult r (λ x. m ≡ Ok x) (λ e. IsErrAnd m (Q e)) → IfOk r P → IfOk m P
with_other_error (Ok x) m P Q h p = rw h p
with_other_error (Err e) m P Q h p = let y = err_from_is_err_and m h in rw y.1 tt

pub returns : goal.returns
returns g c =
    let taken = rw (c.take.ensures.limit, c.take.ensures.inner, c.new-text.ensures.items) at c.in_ok-read_to_end.ensures.bytes in
    let o = g.R.Read.remaining c.args.reader in
    let whole = IfOk-weaker c.answer.result _ _ (λ s e. printed_whole o c.read_to_end.new.buf.items (string_bytes s) taken (e ∙ ap printed c.deref.ensures.value)) c.answer.ensures.text in
    let text = with_other_error c.answer.result c.map_err.result _ _ c.map_err.ensures.cases whole in
    record { text = text; tells = IfOk-weaker c.map_err.result _ _ (λ s. told_whole o (string_bytes s)) text }
