use Rattle.std.proofs.Common.{◌≡◌, ◌++◌, drop}
use Rattle.kern_syntax.specs.TreeOf.{tree_of}
use Rattle.kern_names.specs.ScopeOf.{program_of}
use Rattle.kernel_lines.specs.KernelLines.{functions_lines}
use Rattle.kernel_lines.proofs.program.functions_lines.Given as goal

abbrev pub invariant-loop-function : goal.invariant-loop-function
invariant-loop-function l =
    l.lines.items ++ functions_lines (program_of l.fn.program) l.fn.texts (tree_of (drop l.function-index l.fn.program.functions.now)) ≡ functions_lines (program_of l.fn.program) l.fn.texts (program_of l.fn.program)
