use Rattle.std.proofs.Common.{◌≡◌, ◌+◌, None, drop}
use Rattle.kern_syntax.specs.TreeOf.{block_of, lines_of, branches_of, handlers_of}
use Rattle.code_forms.specs.Sizes.{block_size, parallel_size, handlers_size}
use Rattle.core_code_names.specs.SettingOf.{setting_of}
use Rattle.core_code_sizes.specs.Parts.{followed_size, left_size}
use Rattle.core_code_sizes.proofs.sizes.+sizes.Given as goal

abbrev pub invariant-block_size-loop-statement : goal.invariant-block_size-loop-statement
invariant-block_size-loop-statement l =
    l.size + block_size (setting_of l.fn.setting) l.fn.tries l.fn.kept (lines_of (drop l.statement-index l.statement-items)) ≡ block_size (setting_of l.fn.setting) l.fn.tries l.fn.kept (block_of l.fn.block)

abbrev pub invariant-parallel_size-loop-number : goal.invariant-parallel_size-loop-number
invariant-parallel_size-loop-number l =
    l.size + left_size (setting_of l.fn.setting) l.fn.tries l.fn.kept l.number (lines_of (drop l.number l.statement-items)) ≡ parallel_size (setting_of l.fn.setting) l.fn.tries l.fn.kept (block_of l.fn.block)

abbrev pub invariant-branches_size-loop-branch : goal.invariant-branches_size-loop-branch
invariant-branches_size-loop-branch l =
    l.size + followed_size (setting_of l.fn.setting) l.fn.tries l.fn.kept (branches_of (drop l.branch-index l.fn.branches) None) ≡ followed_size (setting_of l.fn.setting) l.fn.tries l.fn.kept (branches_of l.fn.branches None)

abbrev pub invariant-handlers_size-loop-handler : goal.invariant-handlers_size-loop-handler
invariant-handlers_size-loop-handler l =
    l.size + handlers_size (setting_of l.fn.setting) l.fn.tries l.fn.kept (handlers_of (drop l.handler-index l.fn.handlers)) ≡ handlers_size (setting_of l.fn.setting) l.fn.tries l.fn.kept (handlers_of l.fn.handlers)
