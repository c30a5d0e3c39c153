use Rattle.std.proofs.Common.{◌≡◌, drop, map}
use Rattle.kern_syntax.specs.TreeOf.{parameter_of}
use Rattle.kern_names.specs.Parameters.{AreNew, named_parameters}
use Rattle.kern_names.proofs.local_names.add_parameters.Given as goal

abbrev pub invariant-loop-parameter : goal.invariant-loop-parameter
invariant-loop-parameter l =
    record {
      left : named_parameters l.initial.names (map parameter_of l.fn.parameters) ≡ named_parameters l.names (map parameter_of (drop l.parameter-index l.fn.parameters));
      new : AreNew l.names (map parameter_of (drop l.parameter-index l.fn.parameters));
    }
