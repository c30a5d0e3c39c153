use Rattle.std.proofs.Common.{◌≡◌, ◌+◌, ◌++◌, drop, length}
use Rattle.kern_syntax.specs.TreeOf.{block_of, lines_of, branches_of, handlers_of}
use Rattle.code_forms.specs.Sizes.{block_size, parallel_size, handlers_size}
use Rattle.code_forms.specs.StatementCode.{block_code, parallel_code, handlers_code}
use Rattle.code_ranges.specs.ReadyStatements.{BlockFits, OtherwiseFits, HandlersFit}
use Rattle.core_code_names.specs.SettingOf.{setting_of}
use Rattle.core_code_sizes.specs.Parts.{followed_size, left_size}
use Rattle.core_code_simple.specs.InsideOf.{inside_of}
use Rattle.core_code_statements.specs.Parts.{followed_code, left_code}
use Rattle.core_code_statements.proofs.+statements.Given as goal

abbrev pub invariant-blocks::put_block-loop-statement : goal.invariant-blocks::put_block-loop-statement
invariant-blocks::put_block-loop-statement l =
    (l.lines.items ++ block_code (setting_of l.fn.setting) (inside_of l.fn.inside) (length l.lines.items) (lines_of (drop l.statement-index l.statement-items)) ≡ l.initial.lines.items ++ block_code (setting_of l.fn.setting) (inside_of l.fn.inside) (length l.initial.lines.items) (block_of l.fn.block))
    × (length l.lines.items + block_size (setting_of l.fn.setting) l.fn.inside.mark.tries l.fn.inside.enclosing.tries (lines_of (drop l.statement-index l.statement-items)) ≡ length l.initial.lines.items + block_size (setting_of l.fn.setting) l.fn.inside.mark.tries l.fn.inside.enclosing.tries (block_of l.fn.block))
    × BlockFits (setting_of l.fn.setting) l.fn.inside.mark l.fn.inside.free (lines_of (drop l.statement-index l.statement-items))

abbrev pub invariant-together::put_together-loop-number : goal.invariant-together::put_together-loop-number
invariant-together::put_together-loop-number l =
    (l.lines.items ++ left_code (setting_of l.fn.setting) (inside_of l.fn.inside) l.number (length l.lines.items) (lines_of (drop l.number l.statement-items)) ≡ l.initial.lines.items ++ parallel_code (setting_of l.fn.setting) (inside_of l.fn.inside) (length l.initial.lines.items) (block_of l.fn.body))
    × (length l.lines.items + left_size (setting_of l.fn.setting) l.fn.inside.mark.tries l.fn.inside.enclosing.tries l.number (lines_of (drop l.number l.statement-items)) ≡ length l.initial.lines.items + parallel_size (setting_of l.fn.setting) l.fn.inside.mark.tries l.fn.inside.enclosing.tries (block_of l.fn.body))
    × BlockFits (setting_of l.fn.setting) l.fn.inside.mark l.fn.inside.free (lines_of (drop l.number l.statement-items))

abbrev pub invariant-branches::put_branches-loop-index : goal.invariant-branches::put_branches-loop-index
invariant-branches::put_branches-loop-index l =
    (l.lines.items ++ followed_code (setting_of l.fn.setting) (inside_of l.fn.inside) (length l.lines.items) l.fn.end (branches_of (drop l.index l.fn.branches) l.fn.last) ≡ l.initial.lines.items ++ followed_code (setting_of l.fn.setting) (inside_of l.fn.inside) (length l.initial.lines.items) l.fn.end (branches_of l.fn.branches l.fn.last))
    × (l.fn.end ≡ length l.lines.items + followed_size (setting_of l.fn.setting) l.fn.inside.mark.tries l.fn.inside.enclosing.tries (branches_of (drop l.index l.fn.branches) l.fn.last))
    × OtherwiseFits (setting_of l.fn.setting) l.fn.inside.mark l.fn.inside.free (branches_of (drop l.index l.fn.branches) l.fn.last)

abbrev pub invariant-handlers::put_handlers-loop-handler : goal.invariant-handlers::put_handlers-loop-handler
invariant-handlers::put_handlers-loop-handler l =
    (l.lines.items ++ handlers_code (setting_of l.fn.setting) (inside_of l.fn.inside) (length l.lines.items) l.fn.end (handlers_of (drop l.handler-index l.fn.handlers)) ≡ l.initial.lines.items ++ handlers_code (setting_of l.fn.setting) (inside_of l.fn.inside) (length l.initial.lines.items) l.fn.end (handlers_of l.fn.handlers))
    × (length l.lines.items + handlers_size (setting_of l.fn.setting) l.fn.inside.mark.tries l.fn.inside.enclosing.tries (handlers_of (drop l.handler-index l.fn.handlers)) ≡ length l.initial.lines.items + handlers_size (setting_of l.fn.setting) l.fn.inside.mark.tries l.fn.inside.enclosing.tries (handlers_of l.fn.handlers))
    × HandlersFit (setting_of l.fn.setting) l.fn.inside.mark l.fn.inside.free (handlers_of (drop l.handler-index l.fn.handlers))
