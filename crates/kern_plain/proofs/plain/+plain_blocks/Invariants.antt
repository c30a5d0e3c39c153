use Rattle.std.proofs.Common.{◌≡◌, ◌++◌, [], ◌∷◌, None, drop, map}
use Rattle.kern_syntax.specs.TreeOf.{block_of, lines_of, branches_of, handlers_of}
use Rattle.kern_plain.specs.Plain.{is_plain_block, is_plain_otherwise, are_plain_handlers}
use Rattle.kern_plain.proofs.plain.+plain_blocks.Given as goal

abbrev pub invariant-is_plain_block-loop-statement : goal.invariant-is_plain_block-loop-statement
invariant-is_plain_block-loop-statement l =
    is_plain_block (map (λ n. n.now) l.fn.plain ++ l.fn.own ∷ []) (block_of l.fn.block) ≡ is_plain_block (map (λ n. n.now) l.fn.plain ++ l.fn.own ∷ []) (lines_of (drop l.statement-index l.statement-items))

abbrev pub invariant-are_plain_branches-loop-branch : goal.invariant-are_plain_branches-loop-branch
invariant-are_plain_branches-loop-branch l =
    is_plain_otherwise (map (λ n. n.now) l.fn.plain ++ l.fn.own ∷ []) (branches_of l.fn.branches None) ≡ is_plain_otherwise (map (λ n. n.now) l.fn.plain ++ l.fn.own ∷ []) (branches_of (drop l.branch-index l.fn.branches) None)

abbrev pub invariant-are_plain_handlers-loop-handler : goal.invariant-are_plain_handlers-loop-handler
invariant-are_plain_handlers-loop-handler l =
    are_plain_handlers (map (λ n. n.now) l.fn.plain ++ l.fn.own ∷ []) (handlers_of l.fn.handlers) ≡ are_plain_handlers (map (λ n. n.now) l.fn.plain ++ l.fn.own ∷ []) (handlers_of (drop l.handler-index l.fn.handlers))
