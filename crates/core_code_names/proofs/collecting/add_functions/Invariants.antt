use Rattle.std.proofs.Common.{◌≡◌, drop}
use Rattle.kern_syntax.specs.TreeOf.{tree_of}
use Rattle.core_code_names.specs.TextsAfter.{texts_after_program}
use Rattle.core_code_names.proofs.collecting.add_functions.Given as goal

abbrev pub invariant-loop-function : goal.invariant-loop-function
invariant-loop-function l =
    texts_after_program (tree_of l.fn.functions) l.initial.texts ≡ texts_after_program (tree_of (drop l.function-index l.fn.functions)) l.texts
