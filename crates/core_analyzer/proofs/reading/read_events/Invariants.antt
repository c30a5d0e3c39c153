use Rattle.std.proofs.Common.{◌≡◌, ◌+◌, ◌-◌, ◌*◌, ◌≤◌, ◌++◌, drop, length}
use Rattle.core_analyzer.specs.DumpReading.{events_read}
use Rattle.core_analyzer.proofs.reading.read_events.Given as goal

abbrev pub invariant-loop : goal.invariant-loop
invariant-loop l =
    record {
      room : l.at + 14 * (l.count - l.counter) ≤ length l.bytes;
      same : l.events.items ++ events_read (l.count - l.counter) (drop l.at l.bytes) ≡ events_read l.count (drop 16 l.bytes);
    }
