use Rattle.std.proofs.Common.{◌≡◌, drop, map}
use Rattle.kern_syntax.specs.TreeOf.{expression_of}
use Rattle.kern_expression_types.specs.Expressions.{elements_verdict}
use Rattle.kern_expression_types.specs.KnownOf.{functions_of}
use Rattle.kern_expression_types.specs.Misfits.{mapped, misfit_of_each}
use Rattle.kern_expression_types.proofs.Misfits.{each_after}
use Rattle.kern_expression_types.proofs.expressions.check_elements.Given as goal

abbrev pub invariant-loop-element : goal.invariant-loop-element
invariant-loop-element l =
    mapped (misfit_of_each l.fn.wanted) (elements_verdict (functions_of l.fn.known) l.fn.place l.fn.names (map expression_of l.fn.elements)) ≡ mapped (each_after l.found l.fn.wanted) (elements_verdict (functions_of l.fn.known) l.fn.place l.fn.names (map expression_of (drop l.element-index l.fn.elements)))
