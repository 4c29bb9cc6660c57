use Rattle.std.proofs.Common.{◌≡◌, ◌^◌, ◌<◌, drop}
use Rattle.page.specs.Numbers.{digits_only, value_after}
use Rattle.page.proofs.text.number.Given as goal

abbrev pub invariant-loop-byte : goal.invariant-loop-byte
invariant-loop-byte l = (value_after l.value (drop l.byte-index l.text) ≡ value_after 0 l.text) × (digits_only l.text ≡ digits_only (drop l.byte-index l.text)) × (l.value < 10 ^ l.byte-index)
