use Rattle.std.proofs.Common.{◌++◌}
use Rattle.core_analyzer.specs.Dumps.{FitsEvent, events_bytes}
use Rattle.core_analyzer.proofs.DumpLoops.{IsWritten}
use Rattle.core_analyzer.proofs.writing.write_events.Given as goal

abbrev pub invariant-loop-event : goal.invariant-loop-event
invariant-loop-event l = IsWritten events_bytes FitsEvent (l.fn.bytes.items ++ events_bytes l.events) l.bytes.items l.event-index l.events
