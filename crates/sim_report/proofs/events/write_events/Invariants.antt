use Rattle.std.proofs.Common.{◌≡◌, ◌++◌, string_bytes, take}
use Rattle.std.specs.Prelude.{flat_map}
use Rattle.sim_report.specs.Lines.{event_line}
use Rattle.sim_report.proofs.events.write_events.Given as goal

-- the lines of the events so far are written
abbrev pub invariant-loop-event : goal.invariant-loop-event
invariant-loop-event l = string_bytes l.text ≡ string_bytes l.initial.text ++ flat_map (event_line l.word) (take l.event-index l.events)
