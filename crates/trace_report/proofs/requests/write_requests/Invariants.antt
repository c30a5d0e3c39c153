use Rattle.std.proofs.Common.{◌≡◌, ◌≤◌, ◌++◌, drop, string_bytes}
use Rattle.trace_report.specs.Outputs.{answered}
use Rattle.trace_report.specs.Requests.{request_lines}
use Rattle.trace_report.proofs.Walked.{lines_behind}
use Rattle.trace_report.proofs.requests.write_requests.Given as goal

-- what is written and what is left make up the whole
abbrev pub invariant-loop-entry : goal.invariant-loop-entry
invariant-loop-entry l = record {
  whole : string_bytes l.text ++ lines_behind l.places l.outputs l.passed (drop l.entry-index l.history) ≡ string_bytes l.initial.text ++ request_lines l.outputs 0 (answered l.places l.history);
  asked : l.passed.asked ≤ l.entry-index;
  outputs : l.passed.outputs ≤ l.entry-index;
}
