use Rattle.std.proofs.Common.{◌≡◌, ◌-◌, ◌≤◌, drop, length}
use Rattle.recording_bytes.specs.Fields.{wrong_among}
use Rattle.core_analyzer.specs.DumpFields.{fields_of_lines}
use Rattle.core_analyzer.proofs.faults.wrong_in_lines.Given as goal

abbrev pub invariant-loop : goal.invariant-loop
invariant-loop l =
    record {
      inside : l.at ≤ length l.bytes;
      same : wrong_among (fields_of_lines l.from l.count (drop l.from l.bytes)) ≡ wrong_among (fields_of_lines l.at (l.count - l.counter) (drop l.at l.bytes));
    }
