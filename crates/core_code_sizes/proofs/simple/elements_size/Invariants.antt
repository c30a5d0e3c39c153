use Rattle.std.proofs.Common.{◌≡◌, ◌+◌, drop, map}
use Rattle.kern_syntax.specs.TreeOf.{expression_of}
use Rattle.code_forms.specs.Sizes.{stored_size}
use Rattle.core_code_names.specs.SettingOf.{setting_of}
use Rattle.core_code_sizes.proofs.simple.elements_size.Given as goal

abbrev pub invariant-loop-element : goal.invariant-loop-element
invariant-loop-element l =
    l.size + stored_size (setting_of l.fn.setting) (map expression_of (drop l.element-index l.fn.elements)) ≡ stored_size (setting_of l.fn.setting) (map expression_of l.fn.elements)
