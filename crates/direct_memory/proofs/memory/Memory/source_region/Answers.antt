use Rattle.std.proofs.Common.{◌≡◌, ap, arith, vec_items}
use Rattle.direct_memory.specs.Held.{shape}
use Rattle.direct_memory.specs.Lies.{place_of}
use Rattle.direct_memory.specs.Layouts.{words_for}
use Rattle.direct_memory.specs.declared.layout.SourcePlace.{SourcePlace}
use Rattle.direct_memory.proofs.Keeping.{fits, found_in, found_place}
use Rattle.direct_memory.proofs.Shaping.{source_end}
use Rattle.direct_memory.proofs.memory.Memory.source_region.Goals as goal

pub returns : goal.returns
returns c =
    let m = c.args.self.now in
    let there = found_in m c.args.source _ c.in_ok-place.ensures in
    let place = found_place m c.args.source _ c.in_ok-place.ensures in
    let start = ap (λ (p : SourcePlace). p.start) place in
    let size : c.div_ceil.result ≡ words_for (place_of m c.args.source).size = omega (arith, ap (λ (p : SourcePlace). p.size) place) in
    let end = source_end (shape m.numbers) (vec_items m.words) (fits m) c.args.source there in
    record { there = there; start = start; size = size; below = omega arith; room = omega (arith, m.room, m.words.ok.0) }
