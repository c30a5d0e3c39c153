use Rattle.std.proofs.Common.{◌≡◌, ◌+◌, ◌<◌, ◌^◌, drop, map, sum_by}
use Rattle.kern_syntax.specs.Nodes.{expression_nodes, shown}
use Rattle.kern_syntax.specs.TreeOf.{expression_of}
use Rattle.kern_syntax.proofs.counting.nodes_of_elements.Given as goal

abbrev pub invariant-loop-element : goal.invariant-loop-element
invariant-loop-element l =
    (l.count < 2 ^ 64) × (shown (l.count + sum_by expression_nodes (map expression_of (drop l.element-index l.fn.elements))) ≡ shown (sum_by expression_nodes (map expression_of l.fn.elements)))
