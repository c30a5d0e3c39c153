use Rattle.std.proofs.Common.{◌≡◌, drop}
use Rattle.kern_syntax.specs.TreeOf.{arguments_of}
use Rattle.code_forms.specs.Operations.{array_argument}
use Rattle.core_code_names.specs.SettingOf.{setting_of}
use Rattle.core_code_operations.proofs.arguments.array_argument.Given as goal

abbrev pub invariant-loop-argument : goal.invariant-loop-argument
invariant-loop-argument l =
    array_argument (setting_of l.fn.setting) (arguments_of l.fn.arguments) ≡ array_argument (setting_of l.fn.setting) (arguments_of (drop l.argument-index l.fn.arguments))
