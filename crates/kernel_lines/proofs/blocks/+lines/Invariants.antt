use Rattle.std.proofs.Common.{◌≡◌, ◌+◌, ◌<◌, ◌^◌, ◌++◌, drop}
use Rattle.kern_syntax.specs.TreeOf.{block_of, lines_of, branches_of, handlers_of}
use Rattle.code_forms.specs.Sizes.{block_size, handlers_size, otherwise_size}
use Rattle.core_code_names.specs.SettingOf.{setting_of}
use Rattle.core_code_sizes.specs.Parts.{left_size}
use Rattle.kernel_lines.specs.KernelLines.{block_lines, handlers_lines, otherwise_lines, parallel_lines}
use Rattle.kernel_lines.specs.Parts.{left_lines}
use Rattle.kernel_lines.proofs.blocks.+lines.Given as goal

abbrev pub invariant-put_block-loop-statement : goal.invariant-put_block-loop-statement
invariant-put_block-loop-statement l =
    (l.lines.items ++ block_lines (setting_of l.fn.setting) l.fn.tries l.fn.kept (lines_of (drop l.statement-index l.statement-items)) ≡ l.initial.lines.items ++ block_lines (setting_of l.fn.setting) l.fn.tries l.fn.kept (block_of l.fn.block))
    × (l.fn.tries + block_size (setting_of l.fn.setting) l.fn.tries l.fn.kept (lines_of (drop l.statement-index l.statement-items)) < 2 ^ 32)

abbrev pub invariant-put_branches-loop-index : goal.invariant-put_branches-loop-index
invariant-put_branches-loop-index l =
    (l.lines.items ++ otherwise_lines (setting_of l.fn.setting) l.fn.tries l.fn.kept (branches_of (drop l.index l.fn.branches) l.fn.last) ≡ l.initial.lines.items ++ otherwise_lines (setting_of l.fn.setting) l.fn.tries l.fn.kept (branches_of l.fn.branches l.fn.last))
    × (l.fn.tries + otherwise_size (setting_of l.fn.setting) l.fn.tries l.fn.kept (branches_of (drop l.index l.fn.branches) l.fn.last) < 2 ^ 32)

abbrev pub invariant-put_together-loop-number : goal.invariant-put_together-loop-number
invariant-put_together-loop-number l =
    (l.lines.items ++ left_lines (setting_of l.fn.setting) l.fn.tries l.fn.kept l.fn.header l.number (lines_of (drop l.number l.statement-items)) ≡ l.initial.lines.items ++ parallel_lines (setting_of l.fn.setting) l.fn.tries l.fn.kept l.fn.header (block_of l.fn.body))
    × (l.fn.tries + left_size (setting_of l.fn.setting) l.fn.tries l.fn.kept l.number (lines_of (drop l.number l.statement-items)) < 2 ^ 32)

abbrev pub invariant-put_handlers-loop-handler : goal.invariant-put_handlers-loop-handler
invariant-put_handlers-loop-handler l =
    (l.lines.items ++ handlers_lines (setting_of l.fn.setting) l.fn.tries l.fn.kept (handlers_of (drop l.handler-index l.fn.handlers)) ≡ l.initial.lines.items ++ handlers_lines (setting_of l.fn.setting) l.fn.tries l.fn.kept (handlers_of l.fn.handlers))
    × (l.fn.tries + handlers_size (setting_of l.fn.setting) l.fn.tries l.fn.kept (handlers_of (drop l.handler-index l.fn.handlers)) < 2 ^ 32)
