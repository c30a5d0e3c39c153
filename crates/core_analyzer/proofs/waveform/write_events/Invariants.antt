use Rattle.std.proofs.Common.{◌++◌, pos, string_bytes}
use Rattle.core_analyzer.specs.Waveform.{text_of_lines}
use Rattle.core_analyzer.specs.Running.{lines_behind}
use Rattle.core_analyzer.proofs.Written.{IsWritten}
use Rattle.core_analyzer.proofs.waveform.write_events.Given as goal

abbrev pub invariant-loop-event : goal.invariant-loop-event
invariant-loop-event l =
    IsWritten (string_bytes l.initial.text ++ text_of_lines (lines_behind (pos 0) l.events)) (string_bytes l.text) l.before l.event-index l.events
