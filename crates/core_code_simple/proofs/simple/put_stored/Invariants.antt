use Rattle.std.proofs.Common.{◌≡◌, ◌+◌, ◌++◌, drop, length, map}
use Rattle.kern_syntax.specs.TreeOf.{expression_of}
use Rattle.code_forms.specs.Sizes.{stored_size}
use Rattle.code_forms.specs.StatementCode.{stored_code}
use Rattle.code_ranges.specs.ReadyStatements.{EachFits}
use Rattle.core_code_names.specs.SettingOf.{setting_of}
use Rattle.core_code_simple.specs.InsideOf.{inside_of}
use Rattle.core_code_simple.proofs.simple.put_stored.Given as goal

abbrev pub invariant-loop-element : goal.invariant-loop-element
invariant-loop-element l =
    (l.lines.items ++ stored_code (setting_of l.fn.setting) (record (inside_of l.fn.inside) { free = l.slot }) l.fn.last (length l.lines.items) (map expression_of (drop l.element-index l.fn.elements)) ≡ l.initial.lines.items ++ stored_code (setting_of l.fn.setting) (inside_of l.fn.inside) l.fn.last (length l.initial.lines.items) (map expression_of l.fn.elements))
    × (length l.lines.items + stored_size (setting_of l.fn.setting) (map expression_of (drop l.element-index l.fn.elements)) ≡ length l.initial.lines.items + stored_size (setting_of l.fn.setting) (map expression_of l.fn.elements))
    × (l.slot ≡ l.fn.inside.free + l.element-index)
    × EachFits l.fn.inside.mark (map expression_of (drop l.element-index l.fn.elements))
    × (l.left + l.element-index ≡ length l.fn.elements)
    × (l.left ≡ length (map expression_of (drop l.element-index l.fn.elements)))
