use Rattle.std.proofs.Common.{◌≡◌, ◌++◌, map, drop}
use Rattle.kern_syntax.specs.Print.{joined, expression_text}
use Rattle.kern_syntax.specs.TreeOf.{expression_of}
use Rattle.kern_syntax.proofs.Items.{items_from}
use Rattle.kern_syntax.proofs.printing.lines.put_elements.Given as goal

abbrev pub invariant-loop-index : goal.invariant-loop-index
invariant-loop-index l =
    l.text.items ++ items_from l.index (map expression_text (map expression_of (drop l.index l.fn.values))) ≡ l.initial.text.items ++ joined (map expression_text (map expression_of l.fn.values))
