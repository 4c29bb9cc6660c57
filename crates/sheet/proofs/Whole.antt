-- of a text that is too long the first bytes are enough
use Rattle.std.proofs.Common.{◌≡◌, ℕ, List, length, take, true, Some, None, Option, IfSome, option_map, inl, inr, sym, ap, ◌∙◌, arith}
use Rattle.std.proofs.lemmas.Bool.{cases_Bool, cond-true, lt-ltb, ltb-true, ltb-false}
use Rattle.std.proofs.lemmas.List.{length-take-le, take_all}
use Rattle.page.specs.Sheets.{too_long}
use Rattle.sheet.specs.Laws.{Tells}
use Rattle.sheet.specs.Printed.{parsed_text, printed}
use Rattle.sheet.proofs.Telling.{told}

printed_take : (text : List ℕ) → printed (take 65537 text) ≡ printed text
printed_take text =
    elim (cases_Bool (too_long text)) as (λ _. printed (take 65537 text) ≡ printed text) [
      | inl long ↦
          let h = ltb-true 65536 (length text) long in
          let cut : too_long (take 65537 text) ≡ true = lt-ltb 65536 (length (take 65537 text)) (omega (arith, length-take-le 65537 text (omega (arith, h)))) in
          ap parsed_text (cond-true (too_long (take 65537 text)) _ _ cut ∙ sym (cond-true (too_long text) _ _ long))
      | inr short ↦ ap printed (take_all 65537 text (omega (arith, ltb-false 65536 (length text) short)))
    ]

-- what is printed of the first bytes of a text, if it is known, is printed of all of it
pub printed_whole : (o : Option (List ℕ)) (bs out : List ℕ) → IfSome (option_map (take 65537) o) (λ xs. bs ≡ xs) → out ≡ printed bs → IfSome o (λ text. out ≡ printed text)
printed_whole None bs out h e = tt
printed_whole (Some text) bs out h e = e ∙ ap printed h ∙ printed_take text

pub told_whole : (o : Option (List ℕ)) (out : List ℕ) → IfSome o (λ text. out ≡ printed text) → IfSome o (λ text. Tells text out)
told_whole None out h = tt
told_whole (Some text) out h = told text out h
