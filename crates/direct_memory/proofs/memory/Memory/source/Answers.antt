use Rattle.std.proofs.Common.{Some, vec_items, sym, ap}
use Rattle.std.proofs.lemmas.Bool.{le-ltb, lt-ltb}
use Rattle.device.specs.Meaning.{Source}
use Rattle.direct_memory.specs.Held.{shape}
use Rattle.direct_memory.proofs.Keeping.{fits}
use Rattle.direct_memory.proofs.Shaping.{count_sources, source_at_lem}
use Rattle.direct_memory.proofs.memory.Memory.source.Goals as goal

pub returns-in_err-region : goal.returns-in_err-region
returns-in_err-region c =
    let m = c.args.self.now in
    rw (c.from_residual.ensures, count_sources (shape m.numbers) (vec_items m.words) (fits m), le-ltb c.args.source _ c.in_err-region.ensures)

pub returns : goal.returns
returns c =
    let m = c.args.self.now in
    let ws = vec_items m.words in
    let l = c.in_ok-region.ensures in
    rw (count_sources (shape m.numbers) ws (fits m), lt-ltb c.args.source _ l.there, c.of.ensures, c.deref.ensures.value, l.start, l.size)
    (ap (λ (x : Source). Some x.words) (sym (source_at_lem (shape m.numbers) ws (fits m) c.args.source l.there)))
