use Rattle.std.proofs.Common.{◌≡◌, ◌++◌, drop}
use Rattle.kern_syntax.specs.Print.{program_text}
use Rattle.kern_syntax.specs.TreeOf.{tree_of}
use Rattle.kern_syntax.proofs.printing.print.Given as goal

abbrev pub invariant-loop-function : goal.invariant-loop-function
invariant-loop-function l =
    l.text.items ++ program_text (tree_of (drop l.function-index l.function-items)) ≡ program_text (tree_of l.fn.program)
