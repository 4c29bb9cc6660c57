use Rattle.std.proofs.Common.{◌≡◌, ℕ, ◌+◌, ◌<◌, ◌*◌, ◌^◌, ◌%◌, ◌∙◌, add_comm, bit_or, arith}
use Rattle.std.proofs.lemmas.Bool.Decides.{nat_tests}
use Rattle.std.proofs.lemmas.Nat.{or_comm, or_shifted, shl_whole}
use Rattle.entry.proofs.metadata.add_flag.Goals as goal

-- a bit above all others adds itself
or_high : (a k b : ℕ) → a < 2 ^ k → b < 2 → k < 32 → bit_or a (b * 2 ^ k % 2 ^ 32) ≡ a + b * 2 ^ k
or_high a k b below small inside =
    rw (shl_whole b 1 k 32 (omega arith) (omega arith)) (or_comm a (b * 2 ^ k) ∙ or_shifted b k a below ∙ add_comm (b * 2 ^ k) a)

pub returns : goal.returns
returns c = grind (arith, nat_tests, or_high)
