use Rattle.std.proofs.Common.{◌/◌, length, map, ap, ◌∙◌, rules, tests}
use Rattle.std.proofs.lemmas.Iterator.{YieldsList-from_slice}
use Rattle.std.proofs.lemmas.Iterator.Search.{all_from_yields_List}
use Rattle.entry.specs.Entries.{entry_from}
use Rattle.device.specs.Dispatches.{all_inside, inside}
use Rattle.direct_memory.proofs.Entering.{all_inside_map, entries_chunks}
use Rattle.direct_memory.proofs.entries.all_inside.Goals as goal

pub returns : goal.returns
returns c =
    let w = c.args.window in
    let n = c.args.destination in
    let cs = c.as_chunks.result.0.now in
    all_from_yields_List (λ ws. inside w n (entry_from ws)) _ _ _ c.all.ensures.ran (YieldsList-from_slice cs cc) (λ x b q k. search (rules, tests))
    ∙ all_inside_map w n cs
    ∙ ap (all_inside w n) (ap (map entry_from) c.as_chunks.ensures.front ∙ entries_chunks c.args.entries.now (length c.args.entries.now / 4))
