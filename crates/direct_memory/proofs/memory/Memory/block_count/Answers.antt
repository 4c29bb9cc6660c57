use Rattle.std.proofs.Common.{vec_items, sym}
use Rattle.direct_memory.specs.Held.{shape}
use Rattle.direct_memory.proofs.Keeping.{fits}
use Rattle.direct_memory.proofs.Shaping.{count_blocks}
use Rattle.direct_memory.proofs.memory.Memory.block_count.Goals as goal

pub returns : goal.returns
returns c = let s = c.args.self.now in sym (count_blocks (shape s.numbers) (vec_items s.words) (fits s))
