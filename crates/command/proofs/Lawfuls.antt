-- What lawful settings and sizes, and the sizes by kind, say as facts about numbers.
use Rattle.std.proofs.Common.{◌≡◌, ℕ, ◌^◌, ◌<◌, ◌≤◌, true, arith}
use Rattle.std.proofs.lemmas.Bool.Decides.{nat_tests}
use Rattle.command.specs.Family.{src_stride, dst_stride}
use Rattle.command.specs.declared.family.DrawCommandFamily.{DrawCommandFamily}
use Rattle.command.specs.declared.family.DrawCommandFamily.TheVariants.{Draw, DrawIndexed}
use Rattle.command.specs.Lawful.{lawful, lawful_sizes}

pub largest_small : (a m : ℕ) → lawful a m ≡ true → m < 2 ^ 32
largest_small a m h = grind (arith, nat_tests)

pub buffer_holds : (b k : ℕ) → lawful_sizes b k ≡ true → 32 ≤ b
buffer_holds b k h = grind (arith, nat_tests)

pub buffer_small : (b k : ℕ) → lawful_sizes b k ≡ true → b ≤ 1048560
buffer_small b k h = grind (arith, nat_tests)

pub buffer_in_block : (b k : ℕ) → lawful_sizes b k ≡ true → b ≤ k
buffer_in_block b k h = grind (arith, nat_tests)

pub block_small : (b k : ℕ) → lawful_sizes b k ≡ true → k ≤ 67108864
block_small b k h = grind (arith, nat_tests)

pub src_most : (f : DrawCommandFamily) → src_stride f ≤ 20
src_most Draw = omega arith
src_most DrawIndexed = omega arith

pub dst_least : (f : DrawCommandFamily) → 16 ≤ dst_stride f
dst_least Draw = omega arith
dst_least DrawIndexed = omega arith

pub dst_fits : (room : ℕ) → 32 ≤ room → (f : DrawCommandFamily) → dst_stride f ≤ room
dst_fits room h Draw = omega arith
dst_fits room h DrawIndexed = omega arith
