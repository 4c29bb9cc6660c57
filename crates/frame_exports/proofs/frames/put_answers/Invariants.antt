use Rattle.std.proofs.Common.{◌≡◌, ◌++◌, map, length, take, drop}
use Rattle.batcher.specs.Judged.{frame_terms}
use Rattle.sheet.specs.Frames.{recorded_all}
use Rattle.sheet.specs.View.{recording_of}
use Rattle.frame_exports.specs.Frames.{answers_told}
use Rattle.frame_exports.specs.Records.{line_of}
use Rattle.frame_exports.proofs.frames.put_answers.Given as goal

abbrev pub invariant-loop-i : goal.invariant-loop-i
invariant-loop-i l =
    (take l.i l.answers ++ answers_told (frame_terms l.initial.frame.terms) l.sources (recording_of l.frame l.tables) (drop l.i l.requests) ≡ answers_told (frame_terms l.initial.frame.terms) l.sources (recording_of l.initial.frame l.initial.tables) l.requests)
    × (drop (length l.requests) l.answers ≡ drop (length l.requests) l.initial.answers)
    × (recorded_all (frame_terms l.initial.frame.terms) l.sources (recording_of l.frame l.tables) (map line_of (drop l.i l.requests)) ≡ recorded_all (frame_terms l.initial.frame.terms) l.sources (recording_of l.initial.frame l.initial.tables) (map line_of l.requests))
    × (l.frame.terms ≡ l.initial.frame.terms)
