use Rattle.std.proofs.Common.{◌≡◌, drop}
use Rattle.kern_syntax.specs.TreeOf.{arguments_of}
use Rattle.core_code_names.specs.TextsAfter.{texts_after_arguments}
use Rattle.core_code_names.proofs.collecting.+expression_texts.Given as goal

abbrev pub invariant-add_arguments-loop-argument : goal.invariant-add_arguments-loop-argument
invariant-add_arguments-loop-argument l =
    texts_after_arguments (arguments_of l.fn.arguments) l.initial.texts ≡ texts_after_arguments (arguments_of (drop l.argument-index l.fn.arguments)) l.texts
