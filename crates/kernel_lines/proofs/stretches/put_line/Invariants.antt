use Rattle.std.proofs.Common.{◌≡◌, ◌++◌}
use Rattle.kernel_lines.specs.KernelLines.{of_line}
use Rattle.kernel_lines.proofs.stretches.put_line.Given as goal

abbrev pub invariant-loop : goal.invariant-loop
invariant-loop l = l.lines.items ≡ l.initial.lines.items ++ of_line l.line l.counter
