use Rattle.std.proofs.Common.{◌≡◌, Option, drop, max}
use Rattle.kern_syntax.specs.declared.statement.Block.{Block}
use Rattle.kern_syntax.specs.TreeOf.{block_of, lines_of, branches_of, handlers_of}
use Rattle.code_forms.specs.Programs.{block_slots, otherwise_slots, handlers_slots}
use Rattle.core_code_names.specs.Slots.{capped}
use Rattle.core_code_names.proofs.slots.+slots.Given as goal

abbrev pub invariant-block_slots-loop-statement : goal.invariant-block_slots-loop-statement
invariant-block_slots-loop-statement l =
    capped (block_slots (block_of l.fn.block)) ≡ max l.most (capped (block_slots (lines_of (drop l.statement-index l.statement-items))))

abbrev pub invariant-branches_slots-loop-branch : goal.invariant-branches_slots-loop-branch
invariant-branches_slots-loop-branch l =
    (last : Option Block) → capped (otherwise_slots (branches_of l.fn.branches last)) ≡ max l.most (capped (otherwise_slots (branches_of (drop l.branch-index l.fn.branches) last)))

abbrev pub invariant-handlers_slots-loop-handler : goal.invariant-handlers_slots-loop-handler
invariant-handlers_slots-loop-handler l =
    capped (handlers_slots (handlers_of l.fn.handlers)) ≡ max l.most (capped (handlers_slots (handlers_of (drop l.handler-index l.fn.handlers))))
