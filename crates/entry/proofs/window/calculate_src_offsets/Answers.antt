use Rattle.entry.proofs.Windows.{window_law}
use Rattle.entry.proofs.window.calculate_src_offsets.Goals as goal

pub returns-clause-law : goal.returns-clause-law
returns-clause-law c = λ d small lies. rw c.calculate_dynamic_offset-dynamic_offset.ensures.value (window_law c.args.settings.now.alignment c.args.settings.now.largest_binding c.args.buffer_size c.args.offset d c.args.settings.now.ok small lies)
