use Rattle.std.proofs.Common.{◌≤◌, take}
use Rattle.sim_report.proofs.Walked.{Walked}
use Rattle.sim_report.proofs.pending.walk_for_pending.Given as goal

-- what is known after the entries so far
abbrev pub invariant-loop-entry : goal.invariant-loop-entry
invariant-loop-entry l = record {
  walked : Walked l.core.config (take l.entry-index l.entry-items) l.core.counter l.number l.passed l.events.items;
  small : l.number ≤ l.entry-index;
  fewer : l.passed ≤ l.entry-index;
}
