use Rattle.std.proofs.Common.{◌≡◌, ◌++◌, map, drop}
use Rattle.kern_syntax.specs.Print.{joined, parameter_text}
use Rattle.kern_syntax.specs.TreeOf.{parameter_of}
use Rattle.kern_syntax.proofs.Items.{items_from}
use Rattle.kern_syntax.proofs.printing.put_parameters.Given as goal

abbrev pub invariant-loop-index : goal.invariant-loop-index
invariant-loop-index l =
    l.text.items ++ items_from l.index (map parameter_text (map parameter_of (drop l.index l.fn.parameters))) ≡ l.initial.text.items ++ joined (map parameter_text (map parameter_of l.fn.parameters))
