use Rattle.std.proofs.Common.{◌≡◌, drop, map}
use Rattle.kern_syntax.specs.TreeOf.{expression_of}
use Rattle.core_code_names.specs.TextsAfter.{texts_after_list}
use Rattle.core_code_names.proofs.collecting.add_elements.Given as goal

abbrev pub invariant-loop-element : goal.invariant-loop-element
invariant-loop-element l =
    texts_after_list (map expression_of l.fn.elements) l.initial.texts ≡ texts_after_list (map expression_of (drop l.element-index l.fn.elements)) l.texts
