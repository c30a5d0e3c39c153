use Rattle.std.proofs.Common.{◌≡◌, drop}
use Rattle.kern_syntax.specs.TreeOf.{arguments_of}
use Rattle.timeline_sem.specs.Expressions.{text_in}
use Rattle.core_code_operations.proofs.arguments.text_in.Given as goal

abbrev pub invariant-loop-argument : goal.invariant-loop-argument
invariant-loop-argument l =
    text_in (arguments_of l.fn.arguments) ≡ text_in (arguments_of (drop l.argument-index l.fn.arguments))
