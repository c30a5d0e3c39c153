use Rattle.std.proofs.Common.{◌≡◌, ◌+◌, ◌<◌, ◌^◌, None, drop}
use Rattle.kern_syntax.specs.Nodes.{block_nodes, otherwise_nodes, handler_nodes, shown}
use Rattle.kern_syntax.specs.TreeOf.{block_of, lines_of, branches_of, handlers_of}
use Rattle.kern_syntax.proofs.counting.+statements.Given as goal

abbrev pub invariant-nodes_of_block-loop-statement : goal.invariant-nodes_of_block-loop-statement
invariant-nodes_of_block-loop-statement l =
    (l.count < 2 ^ 64) × (shown (l.count + block_nodes (lines_of (drop l.statement-index l.statement-items))) ≡ shown (block_nodes (block_of l.fn.block)))

abbrev pub invariant-nodes_of_branches-loop-branch : goal.invariant-nodes_of_branches-loop-branch
invariant-nodes_of_branches-loop-branch l =
    (l.count < 2 ^ 64) × (shown (l.count + otherwise_nodes (branches_of (drop l.branch-index l.fn.branches) None)) ≡ shown (otherwise_nodes (branches_of l.fn.branches None)))

abbrev pub invariant-nodes_of_handlers-loop-handler : goal.invariant-nodes_of_handlers-loop-handler
invariant-nodes_of_handlers-loop-handler l =
    (l.count < 2 ^ 64) × (shown (l.count + handler_nodes (handlers_of (drop l.handler-index l.fn.handlers))) ≡ shown (handler_nodes (handlers_of l.fn.handlers)))
