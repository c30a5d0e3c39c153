use Rattle.std.proofs.Common.{◌≡◌, Option, drop}
use Rattle.kern_syntax.specs.declared.statement.Block.{Block}
use Rattle.kern_syntax.specs.TreeOf.{block_of, lines_of, branches_of, handlers_of}
use Rattle.core_code_names.specs.TextsAfter.{texts_after_block, texts_after_otherwise, texts_after_handlers}
use Rattle.core_code_names.proofs.collecting.+statement_texts.Given as goal

abbrev pub invariant-add_block-loop-statement : goal.invariant-add_block-loop-statement
invariant-add_block-loop-statement l =
    texts_after_block (block_of l.fn.block) l.initial.texts ≡ texts_after_block (lines_of (drop l.statement-index l.statement-items)) l.texts

abbrev pub invariant-add_branches-loop-branch : goal.invariant-add_branches-loop-branch
invariant-add_branches-loop-branch l =
    (last : Option Block) → texts_after_otherwise (branches_of l.fn.branches last) l.initial.texts ≡ texts_after_otherwise (branches_of (drop l.branch-index l.fn.branches) last) l.texts

abbrev pub invariant-add_handlers-loop-handler : goal.invariant-add_handlers-loop-handler
invariant-add_handlers-loop-handler l =
    texts_after_handlers (handlers_of l.fn.handlers) l.initial.texts ≡ texts_after_handlers (handlers_of (drop l.handler-index l.fn.handlers)) l.texts
