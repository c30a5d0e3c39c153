use Rattle.std.proofs.Common.{◌≡◌, ◌≤◌, filter, length, take}
use Rattle.trace_report.specs.Trace.{came_out}
use Rattle.trace_report.proofs.closing.count_out.Given as goal

-- those that came out so far are counted
abbrev pub invariant-loop-placed : goal.invariant-loop-placed
invariant-loop-placed l = record {
  counted : l.count ≡ length (filter came_out (take l.placed-index l.outputs));
  within : l.count ≤ l.placed-index;
}
