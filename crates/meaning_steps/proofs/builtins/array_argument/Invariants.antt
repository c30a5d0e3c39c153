use Rattle.std.proofs.Common.{◌≡◌, drop}
use Rattle.kern_syntax.specs.TreeOf.{arguments_of}
use Rattle.meaning_steps.specs.Runnable.{array_argument}
use Rattle.kern_names.specs.ScopeOf.{scope_of}
use Rattle.meaning_steps.proofs.builtins.array_argument.Given as goal

abbrev pub invariant-loop-argument : goal.invariant-loop-argument
invariant-loop-argument l =
    array_argument (scope_of l.fn.scope) (arguments_of l.fn.arguments) ≡ array_argument (scope_of l.fn.scope) (arguments_of (drop l.argument-index l.fn.arguments))
