use Rattle.std.proofs.Common.{◌≡◌, ◌+◌, ◌-◌, ◌*◌, ◌≤◌, ◌++◌, drop, length}
use Rattle.core_analyzer.specs.DumpReading.{lines_read}
use Rattle.core_analyzer.proofs.reading.read_lines.Given as goal

abbrev pub invariant-loop : goal.invariant-loop
invariant-loop l =
    record {
      room : l.at + 23 * (l.count - l.counter) ≤ length l.bytes;
      same : l.lines.items ++ lines_read (l.count - l.counter) (drop l.at l.bytes) ≡ lines_read l.count (drop l.from l.bytes);
    }
