use Rattle.std.proofs.Common.{map, length, ap, ◌∙◌, ◌/◌, take_all}
use Rattle.entry.specs.Entries.{entry_from}
use Rattle.device.specs.Dispatches.{all_inside, ran}
use Rattle.direct_memory.proofs.Entering.{entries_chunks, place_fits, run_more}
use Rattle.direct_memory.proofs.entries.run_entries.Goals as goal

pub run_entry-requires : goal.run_entry-requires
run_entry-requires c =
    let ok = ap (all_inside (length c.args.window.now) (length c.args.destination.now)) (ap (map entry_from) c.as_chunks.ensures.front ∙ entries_chunks c.args.entries.now (length c.args.entries.now / 4)) ∙ c.requires in
    place_fits c.args.first_instances c.args.window.now c.as_chunks.result.0.now c.loop-words.words-index _ c.args.destination.now c.loop-words.destination c.from.result c.from.ensures c.loop-words-test.true c.loop-words.invariant ok

pub loop-words-preserved : goal.loop-words-preserved
loop-words-preserved c =
    run_more c.args.first_instances c.args.window.now c.as_chunks.result.0.now c.loop-words.words-index _ c.args.destination.now c.loop-words.destination c.from.result c.from.ensures c.loop-words-test.true c.loop-words.invariant c.run_entry.new.destination c.run_entry.ensures

pub returns : goal.returns
returns c =
    c.loop-words.invariant
    ∙ ap (λ es. ran c.args.first_instances c.args.window.now es c.args.destination.now)
    (ap (map entry_from) (take_all c.loop-words.words-index c.as_chunks.result.0.now c.loop-words-test.false ∙ c.as_chunks.ensures.front) ∙ entries_chunks c.args.entries.now (length c.args.entries.now / 4))
