use Rattle.std.proofs.Common.{vec_items, sym, ◌∙◌}
use Rattle.direct_memory.specs.Held.{shape}
use Rattle.direct_memory.proofs.Keeping.{fits}
use Rattle.direct_memory.proofs.Shaping.{count_sources}
use Rattle.direct_memory.proofs.memory.Memory.source_count.Goals as goal

pub returns : goal.returns
returns c =
    let m = c.args.self.now in
    c.len.ensures ∙ sym (count_sources (shape m.numbers) (vec_items m.words) (fits m))
