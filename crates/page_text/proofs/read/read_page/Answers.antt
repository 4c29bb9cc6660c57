use Rattle.std.proofs.Common.{ℕ, List, IfOk, IfErr, Ok, Err, Result}
use Rattle.page.specs.declared.page.Page.{Page}
use Rattle.page.specs.declared.read.ReadError.{ReadError}
use Rattle.page.specs.declared.read.ReadError.TheVariants.{Bad, Memory, TooLong}
use Rattle.page_text.specs.Laws.{Says, Spells}
use Rattle.page.specs.Sheets.{Reads, read_page, sheet_of}
use Rattle.page_text.proofs.Accepting.{spells}
use Rattle.page_text.proofs.Stopping.{first_bad}
use Rattle.page_text.proofs.read.read_page.Goals as goal

module _ (text : List ℕ) where
  spelt : (r : Result Page ReadError) → Reads r (read_page text) → IfOk r (λ p. Spells text (sheet_of p))
  spelt (Ok p) h = spells text (sheet_of p) h
  spelt (Err e) h = tt

  first : (r : Result Page ReadError) → Reads r (read_page text) → IfErr r (λ e. Says e text)
  first (Ok p) h = tt
  first (Err (Bad n)) h = first_bad text n h.0
  first (Err TooLong) h = first_bad text 0 h
  first (Err (Memory _)) h = tt

pub returns : goal.returns
returns c =
    let h = c.read.ensures.answer in
    record { answer = h; spelt = spelt c.args.text.now c.read.result h; first = first c.args.text.now c.read.result h }
