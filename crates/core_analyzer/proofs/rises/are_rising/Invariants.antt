use Rattle.std.proofs.Common.{◌≡◌, ◌&&◌, drop}
use Rattle.core_analyzer.specs.Dumps.{are_put_out_behind}
use Rattle.core_analyzer.specs.Rising.{are_behind_first_cycle, are_rising}
use Rattle.core_analyzer.proofs.rises.are_rising.Given as goal

-- the test of the events that are left is that of all
abbrev pub invariant-loop-event : goal.invariant-loop-event
invariant-loop-event l = (are_put_out_behind l.before (drop l.event-index l.events) && are_behind_first_cycle (drop l.event-index l.events)) ≡ are_rising l.events
