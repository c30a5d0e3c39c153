use Rattle.std.proofs.Common.{◌≡◌, ◌-◌, ◌≤◌, length, drop}
use Rattle.recording_bytes.specs.Fields.{fields_of_events, wrong_among}
use Rattle.recording_bytes.proofs.faults.wrong_in_events.Given as goal

abbrev pub invariant-loop : goal.invariant-loop
invariant-loop l =
    record {
      inside : l.at ≤ length l.bytes;
      same : wrong_among (fields_of_events l.format 13 l.count (drop 13 l.bytes)) ≡ wrong_among (fields_of_events l.format l.at (l.count - l.counter) (drop l.at l.bytes));
    }
