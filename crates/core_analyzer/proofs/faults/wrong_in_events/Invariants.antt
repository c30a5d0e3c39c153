use Rattle.std.proofs.Common.{◌≡◌, ◌-◌, ◌≤◌, None, drop, length}
use Rattle.recording_bytes.specs.Fields.{wrong_among}
use Rattle.core_analyzer.specs.DumpFields.{fields_of_events}
use Rattle.core_analyzer.proofs.faults.wrong_in_events.Given as goal

abbrev pub invariant-loop : goal.invariant-loop
invariant-loop l =
    record {
      inside : l.at ≤ length l.bytes;
      same : wrong_among (fields_of_events 16 None l.count (drop 16 l.bytes)) ≡ wrong_among (fields_of_events l.at l.before (l.count - l.counter) (drop l.at l.bytes));
    }
