use Rattle.std.proofs.Common.{◌≡◌, ◌++◌, [], ◌∷◌, drop, map}
use Rattle.kern_syntax.specs.TreeOf.{arguments_of}
use Rattle.kern_plain.specs.Plain.{are_plain_arguments}
use Rattle.kern_plain.proofs.plain.+plain_expressions.Given as goal

abbrev pub invariant-are_plain_arguments-loop-argument :
    goal.invariant-are_plain_arguments-loop-argument
invariant-are_plain_arguments-loop-argument l =
    are_plain_arguments (map (λ n. n.now) l.fn.plain ++ l.fn.own ∷ []) (arguments_of l.fn.arguments) ≡ are_plain_arguments (map (λ n. n.now) l.fn.plain ++ l.fn.own ∷ []) (arguments_of (drop l.argument-index l.fn.arguments))
