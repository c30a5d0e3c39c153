use Rattle.std.proofs.Common.{◌≡◌, ◌+◌, ◌<◌, ◌^◌, drop}
use Rattle.kern_syntax.specs.Nodes.{program_nodes, shown}
use Rattle.kern_syntax.specs.TreeOf.{tree_of}
use Rattle.kern_syntax.proofs.counting.nodes.Given as goal

abbrev pub invariant-loop-function : goal.invariant-loop-function
invariant-loop-function l =
    (l.count < 2 ^ 64) × (shown (l.count + program_nodes (tree_of (drop l.function-index l.function-items))) ≡ shown (program_nodes (tree_of l.fn.program)))
