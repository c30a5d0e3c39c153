use Rattle.std.proofs.Common.{◌≡◌, drop, codes}
use Rattle.kern_syntax.specs.TreeOf.{tree_of}
use Rattle.kern_types.specs.Programs.{has_main}
use Rattle.kern_calls.specs.Types.{function_named}
use Rattle.kern_types.proofs.program.has_main.Given as goal

abbrev pub invariant-loop-function : goal.invariant-loop-function
invariant-loop-function l =
    has_main (function_named (tree_of (drop l.function-index l.fn.functions)) (codes "main")) ≡ has_main (function_named (tree_of l.fn.functions) (codes "main"))
