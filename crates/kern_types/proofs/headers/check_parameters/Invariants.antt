use Rattle.std.proofs.Common.{◌≡◌, drop, map}
use Rattle.kern_syntax.specs.TreeOf.{parameter_of}
use Rattle.kern_expression_types.specs.KnownOf.{functions_of}
use Rattle.kern_types.specs.Programs.{parameters_verdict}
use Rattle.kern_types.proofs.headers.check_parameters.Given as goal

abbrev pub invariant-loop-parameter : goal.invariant-loop-parameter
invariant-loop-parameter l =
    parameters_verdict (functions_of l.fn.known) l.fn.line (map parameter_of l.fn.parameters) l.initial.names ≡ parameters_verdict (functions_of l.fn.known) l.fn.line (map parameter_of (drop l.parameter-index l.fn.parameters)) l.names
