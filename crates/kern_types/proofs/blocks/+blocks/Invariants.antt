use Rattle.std.proofs.Common.{◌≡◌, None, drop}
use Rattle.kern_syntax.specs.TreeOf.{block_of, lines_of, branches_of, handlers_of}
use Rattle.kern_expression_types.specs.KnownOf.{functions_of}
use Rattle.kern_types.specs.Statements.{block_verdict, branches_verdict, handlers_verdict}
use Rattle.kern_types.proofs.blocks.+blocks.Given as goal

abbrev pub invariant-check_block-loop-statement : goal.invariant-check_block-loop-statement
invariant-check_block-loop-statement l =
    block_verdict (functions_of l.fn.known) (block_of l.fn.block) l.fn.place l.initial.names ≡ block_verdict (functions_of l.fn.known) (lines_of (drop l.statement-index l.statement-items)) l.fn.place l.names

abbrev pub invariant-check_branches-loop-branch : goal.invariant-check_branches-loop-branch
invariant-check_branches-loop-branch l =
    branches_verdict (functions_of l.fn.known) (branches_of l.fn.branches None) l.fn.place l.initial.names ≡ branches_verdict (functions_of l.fn.known) (branches_of (drop l.branch-index l.fn.branches) None) l.fn.place l.names

abbrev pub invariant-check_handlers-loop-handler : goal.invariant-check_handlers-loop-handler
invariant-check_handlers-loop-handler l =
    handlers_verdict (functions_of l.fn.known) (handlers_of l.fn.handlers) l.fn.place l.initial.names ≡ handlers_verdict (functions_of l.fn.known) (handlers_of (drop l.handler-index l.fn.handlers)) l.fn.place l.names
