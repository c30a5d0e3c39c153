use Rattle.std.proofs.Common.{◌≡◌, drop}
use Rattle.kern_syntax.specs.TreeOf.{arguments_of}
use Rattle.timeline_sem.specs.Expressions.{text_in}
use Rattle.meaning_steps.specs.Runnable.{has_text}
use Rattle.meaning_steps.proofs.builtins.text_of.Given as goal

abbrev pub invariant-loop-argument : goal.invariant-loop-argument
invariant-loop-argument l =
    record {
      text : text_in (arguments_of l.fn.arguments) ≡ text_in (arguments_of (drop l.argument-index l.fn.arguments));
      there : has_text (arguments_of l.fn.arguments) ≡ has_text (arguments_of (drop l.argument-index l.fn.arguments));
    }
