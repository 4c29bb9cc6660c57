use Rattle.std.proofs.Common.{◌≡◌, ◌+◌, drop, length}
use Rattle.std.specs.Slice.Iter.{split_rest}
use Rattle.page.specs.Texts.{lines_of}
use Rattle.page.specs.Sheets.{read_lines}
use Rattle.page.specs.Parsers.{remaining}
use Rattle.page.proofs.Lining.{pieces}
use Rattle.page.proofs.read.read.Given as goal

abbrev pub invariant-loop-line : goal.invariant-loop-line
invariant-loop-line l = record {
  same : remaining (drop (length l.yielded) (pieces (split_rest l.initial.line-iterator))) l.parser ≡ read_lines (lines_of l.text);
  counts : l.parser.number ≡ length l.yielded + 1;
}
