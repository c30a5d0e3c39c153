use Rattle.std.proofs.Common.{◌≡◌, ◌+◌, ◌<◌, ◌^◌, drop}
use Rattle.kern_syntax.specs.Nodes.{argument_nodes, shown}
use Rattle.kern_syntax.specs.TreeOf.{arguments_of}
use Rattle.kern_syntax.proofs.counting.+expressions.Given as goal

abbrev pub invariant-nodes_of_arguments-loop-argument :
    goal.invariant-nodes_of_arguments-loop-argument
invariant-nodes_of_arguments-loop-argument l =
    (l.count < 2 ^ 64) × (shown (l.count + argument_nodes (arguments_of (drop l.argument-index l.fn.arguments))) ≡ shown (argument_nodes (arguments_of l.fn.arguments)))
