use Rattle.std.proofs.Common.{◌↔◌, map, drop}
use Rattle.kern_syntax.specs.TreeOf.{parameter_of}
use Rattle.kern_arguments.specs.Fitting.{ArgumentsFit}
use Rattle.kern_arguments.proofs.fitting.arguments_fit.Given as goal

-- the arguments fit where those from here on do
abbrev pub invariant-loop-index : goal.invariant-loop-index
invariant-loop-index l =
    ArgumentsFit (map parameter_of l.parameters) l.arguments ↔ ArgumentsFit (map parameter_of (drop l.index l.parameters)) (drop l.index l.arguments)
