use Rattle.std.proofs.Common.{◌≡◌, ◌≤◌, ◌++◌, drop}
use Rattle.trace_report.specs.Outputs.{placed}
use Rattle.trace_report.proofs.Walked.{placed_behind}
use Rattle.trace_report.proofs.outputs.placed_outputs.Given as goal

-- what is there and what is left make up the whole
abbrev pub invariant-loop-entry : goal.invariant-loop-entry
invariant-loop-entry l = record {
  whole : l.all.items ++ placed_behind l.places l.outputs l.passed (drop l.entry-index l.history) ≡ placed l.places l.outputs l.history;
  asked : l.passed.asked ≤ l.entry-index;
  outputs : l.passed.outputs ≤ l.entry-index;
}
