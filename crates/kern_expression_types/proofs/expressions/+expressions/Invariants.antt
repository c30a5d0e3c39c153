use Rattle.std.proofs.Common.{◌≡◌, drop}
use Rattle.kern_syntax.specs.TreeOf.{arguments_of}
use Rattle.kern_expression_types.specs.Expressions.{arguments_verdict}
use Rattle.kern_expression_types.specs.KnownOf.{functions_of}
use Rattle.kern_expression_types.specs.Misfits.{first_misfit, mapped, taken_by}
use Rattle.kern_expression_types.proofs.Misfits.{misfit_after}
use Rattle.kern_expression_types.proofs.expressions.+expressions.Given as goal

abbrev pub invariant-check_arguments-loop-number : goal.invariant-check_arguments-loop-number
invariant-check_arguments-loop-number l =
    mapped (first_misfit (taken_by l.fn.callee)) (arguments_verdict (functions_of l.fn.known) l.fn.place l.fn.names (arguments_of l.fn.arguments)) ≡ mapped (misfit_after l.found (taken_by l.fn.callee) l.number) (arguments_verdict (functions_of l.fn.known) l.fn.place l.fn.names (arguments_of (drop l.number l.fn.arguments)))
