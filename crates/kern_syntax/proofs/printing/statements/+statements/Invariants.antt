use Rattle.std.proofs.Common.{◌≡◌, ◌++◌, None, drop}
use Rattle.kern_syntax.specs.Print.{block_text, otherwise_text, handlers_text}
use Rattle.kern_syntax.specs.TreeOf.{block_of, lines_of, branches_of, handlers_of}
use Rattle.kern_syntax.proofs.printing.statements.+statements.Given as goal

abbrev pub invariant-put_block-loop-statement : goal.invariant-put_block-loop-statement
invariant-put_block-loop-statement l =
    l.text.items ++ block_text (lines_of (drop l.statement-index l.statement-items)) l.fn.level ≡ l.initial.text.items ++ block_text (block_of l.fn.block) l.fn.level

abbrev pub invariant-put_branches-loop-branch : goal.invariant-put_branches-loop-branch
invariant-put_branches-loop-branch l =
    l.text.items ++ otherwise_text (branches_of (drop l.branch-index l.fn.branches) None) l.fn.level ≡ l.initial.text.items ++ otherwise_text (branches_of l.fn.branches None) l.fn.level

abbrev pub invariant-put_handlers-loop-handler : goal.invariant-put_handlers-loop-handler
invariant-put_handlers-loop-handler l =
    l.text.items ++ handlers_text (handlers_of (drop l.handler-index l.fn.handlers)) l.fn.level ≡ l.initial.text.items ++ handlers_text (handlers_of l.fn.handlers) l.fn.level
