use Rattle.std.proofs.Common.{◌≡◌, take}
use Rattle.trace_report.specs.Outputs.{least_of}
use Rattle.trace_report.proofs.least.least_of.Given as goal

-- the least one so far
abbrev pub invariant-loop-output : goal.invariant-loop-output
invariant-loop-output l = l.least ≡ least_of (take l.output-index l.outputs)
