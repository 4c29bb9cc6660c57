use Rattle.std.proofs.Common.{◌≡◌, ℕ, ◌-◌, ◌<◌, ◌≤◌, true, false, List, length, get_or, sym, ◌∙◌, arith}
use Rattle.std.proofs.lemmas.Bool.Decides.{nat_tests}
use Rattle.page.specs.Numbers.{is_digit}
use Rattle.page.proofs.Parts.{as_number, digit_range, digits_end, digits_more, digits_stop, not_digits, small_more, value_end, value_more}
use Rattle.page.proofs.text.number.Goals as goal

pub returns-then-not-is_ascii_digit : goal.returns-then-not-is_ascii_digit
returns-then-not-is_ascii_digit c =
    let d : is_digit (get_or c.args.text.now c.loop-byte.byte-index 0) ≡ false = grind (arith, nat_tests) in
    not_digits c.args.text.now (c.loop-byte.invariant.1 ∙ digits_stop c.args.text.now c.loop-byte.byte-index c.loop-byte-test.true d)

pub loop-byte-preserved : goal.loop-byte-preserved
loop-byte-preserved c =
    let xs : List ℕ = c.args.text.now in
    let i : ℕ = c.loop-byte.byte-index in
    let h : i < length xs = c.loop-byte-test.true in
    let d : is_digit (get_or xs i 0) ≡ true = grind (arith, nat_tests) in
    rw c.from.ensures
    (sym (value_more xs i h c.loop-byte.value) ∙ c.loop-byte.invariant.0, c.loop-byte.invariant.1 ∙ digits_more xs i h d, small_more c.loop-byte.value i (get_or xs i 0 - 48) c.loop-byte.invariant.2 (omega (arith, digit_range (get_or xs i 0) d)))

pub returns : goal.returns
returns c =
    let xs : List ℕ = c.args.text.now in
    let i : ℕ = c.loop-byte.byte-index in
    let end : length xs ≤ i = c.loop-byte-test.false in
    as_number xs c.loop-byte.value c.ok.result (grind (arith, nat_tests)) (grind (arith, nat_tests)) (c.loop-byte.invariant.1 ∙ digits_end xs i end) (sym (value_end c.loop-byte.value xs i end) ∙ c.loop-byte.invariant.0) (grind (arith, nat_tests))
