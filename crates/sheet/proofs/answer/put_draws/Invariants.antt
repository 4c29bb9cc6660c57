use Rattle.std.proofs.Common.{◌≡◌, ◌++◌, drop, string_bytes}
use Rattle.batcher.specs.Judged.{frame_terms}
use Rattle.sheet.specs.Frames.{recorded_all}
use Rattle.sheet.specs.Printed.{answer_lines}
use Rattle.sheet.specs.View.{recording_of}
use Rattle.sheet.proofs.answer.put_draws.Given as goal

abbrev pub invariant-loop-line : goal.invariant-loop-line
invariant-loop-line l = record {
  text : string_bytes l.out ++ answer_lines (frame_terms l.initial.frame.terms) l.sources (recording_of l.frame l.tables) (drop l.line-index l.lines) ≡ string_bytes l.initial.out ++ answer_lines (frame_terms l.initial.frame.terms) l.sources (recording_of l.initial.frame l.initial.tables) l.lines;
  after : recorded_all (frame_terms l.initial.frame.terms) l.sources (recording_of l.frame l.tables) (drop l.line-index l.lines) ≡ recorded_all (frame_terms l.initial.frame.terms) l.sources (recording_of l.initial.frame l.initial.tables) l.lines;
  terms : l.frame.terms ≡ l.initial.frame.terms;
}
