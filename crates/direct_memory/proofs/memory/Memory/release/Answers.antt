use Rattle.std.proofs.Common.{◌≡◌, ◌+◌, ◌-◌, [], vec_items, ap, arith}
use Rattle.device.specs.Calls.{block_bytes}
use Rattle.device.specs.Meaning.{with_staging}
use Rattle.direct_memory.specs.Held.{held, shape}
use Rattle.direct_memory.specs.Views.{blocks_in}
use Rattle.direct_memory.proofs.Blocks.{bytes_all}
use Rattle.direct_memory.proofs.Keeping.{fits}
use Rattle.direct_memory.proofs.memory.Memory.release.Goals as goal

pub returns : goal.returns
returns c =
    let s = c.args.self.now in
    let all : block_bytes (blocks_in (shape s.numbers) (vec_items s.words)) ≡ s.numbers.used = bytes_all (shape s.numbers) (vec_items s.words) (fits s) in
    let free : s.numbers.staging_size - 0 ≡ s.numbers.staging_size - s.numbers.used + block_bytes (blocks_in (shape s.numbers) (vec_items s.words)) = omega (arith, all, s.numbers.fits) in
    ap (λ n. with_staging (held s) [] n) free
