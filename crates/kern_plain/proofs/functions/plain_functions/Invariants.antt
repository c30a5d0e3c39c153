use Rattle.std.proofs.Common.{◌≡◌, [], drop}
use Rattle.kern_syntax.specs.TreeOf.{tree_of}
use Rattle.kern_plain.specs.PlainFunctions.{plain_names}
use Rattle.kern_plain.proofs.PlainFunctions.{names_of}
use Rattle.kern_plain.proofs.functions.plain_functions.Given as goal

abbrev pub invariant-loop-function : goal.invariant-loop-function
invariant-loop-function l =
    plain_names [] (tree_of l.fn.functions) ≡ plain_names (names_of l.plain.items) (tree_of (drop l.function-index l.fn.functions))
