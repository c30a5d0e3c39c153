use Rattle.std.proofs.Common.{◌≡◌, ◌++◌, drop}
use Rattle.kern_syntax.specs.Print.{joined, argument_texts}
use Rattle.kern_syntax.specs.TreeOf.{arguments_of}
use Rattle.kern_syntax.proofs.Items.{items_from}
use Rattle.kern_syntax.proofs.printing.expressions.+expressions.Given as goal

abbrev pub invariant-put_arguments-loop-index : goal.invariant-put_arguments-loop-index
invariant-put_arguments-loop-index l =
    l.text.items ++ items_from l.index (argument_texts (arguments_of (drop l.index l.fn.arguments))) ≡ l.initial.text.items ++ joined (argument_texts (arguments_of l.fn.arguments))
