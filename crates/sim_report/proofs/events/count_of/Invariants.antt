use Rattle.std.proofs.Common.{◌≡◌, ◌≤◌, length, take}
use Rattle.rtio_log.specs.Kinds.{lines_of}
use Rattle.sim_report.proofs.events.count_of.Given as goal

-- the lines of the kind so far are counted
abbrev pub invariant-loop-line : goal.invariant-loop-line
invariant-loop-line l = record {
  counted : l.count ≡ length (lines_of l.kind (take l.line-index l.log));
  within : l.count ≤ l.line-index;
}
