use Rattle.std.proofs.Common.{◌≡◌, ◌+◌, drop}
use Rattle.kern_syntax.specs.TreeOf.{arguments_of}
use Rattle.code_forms.specs.Sizes.{arguments_size}
use Rattle.core_code_names.specs.SettingOf.{setting_of}
use Rattle.core_code_sizes.proofs.expressions.+expressions.Given as goal

abbrev pub invariant-arguments_size-loop-argument : goal.invariant-arguments_size-loop-argument
invariant-arguments_size-loop-argument l =
    l.size + arguments_size (setting_of l.fn.setting) (arguments_of (drop l.argument-index l.fn.arguments)) ≡ arguments_size (setting_of l.fn.setting) (arguments_of l.fn.arguments)
