use Rattle.std.proofs.Common.{◌++◌}
use Rattle.core_analyzer.specs.Dumps.{FitsLine, lines_bytes}
use Rattle.core_analyzer.proofs.DumpLoops.{IsWritten}
use Rattle.core_analyzer.proofs.writing.write_lines.Given as goal

abbrev pub invariant-loop-line : goal.invariant-loop-line
invariant-loop-line l = IsWritten lines_bytes FitsLine (l.fn.bytes.items ++ lines_bytes l.lines) l.bytes.items l.line-index l.lines
