use Rattle.std.proofs.Common.{drop}
use Rattle.kern_syntax.specs.TreeOf.{arguments_of}
use Rattle.core_code_names.specs.SettingOf.{setting_of}
use Rattle.core_code_expressions.proofs.Arguments.{ArePutSoFar}
use Rattle.core_code_expressions.proofs.expressions.+expressions.Given as goal

abbrev pub invariant-put_arguments-loop-argument : goal.invariant-put_arguments-loop-argument
invariant-put_arguments-loop-argument l =
    ArePutSoFar (setting_of l.fn.setting) l.fn.free l.fn.mark l.above l.initial.lines.items l.lines.items (arguments_of l.fn.arguments) (arguments_of (drop l.argument-index l.fn.arguments))
