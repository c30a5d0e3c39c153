use Rattle.std.proofs.Common.{◌≡◌, ◌-◌, ◌++◌, ◌≤◌, None, drop, length, pos}
use Rattle.recording_bytes.specs.Fields.{fields_of_events, wrong_among}
use Rattle.recording_bytes.specs.Reading.{events_read}
use Rattle.recording_bytes.proofs.reading.read_events.Given as goal

abbrev pub invariant-loop : goal.invariant-loop
invariant-loop l =
    record {
      inside : l.at ≤ length l.bytes;
      right : wrong_among (fields_of_events l.format l.at (l.count - l.counter) (drop l.at l.bytes)) ≡ None;
      same : l.events.items ++ events_read l.format l.before (l.count - l.counter) (drop l.at l.bytes) ≡ events_read l.format (pos 0) l.count (drop 13 l.bytes);
    }
