-- The arguments behind one.
use Rattle.std.proofs.Common.{rules, ◌≤◌, ℕ, arith}
use Rattle.kern_syntax.specs.declared.expression.Argument.{Argument}
use Rattle.kern_syntax.specs.declared.expression.Argument.TheFolds.{the_lemmas}
use Rattle.kern_syntax.specs.Tree.{Arguments}
use Rattle.kern_syntax.specs.TreeOf.{argument_of}
use Rattle.meaning_frames.proofs.Sizes.{arguments_size}
use Rattle.meaning_steps.specs.Runnable.{AreRunnable}

-- they can run
pub runnable_rest : (argument : Argument) (rest : Arguments) → AreRunnable (argument_of argument rest) → AreRunnable rest
runnable_rest argument rest are = search (rules, the_lemmas)

-- and are no larger than with it
pub smaller_rest : (argument : Argument) (rest : Arguments) {n : ℕ} → arguments_size (argument_of argument rest) ≤ n → arguments_size rest ≤ n
smaller_rest argument rest {n} small = search (rules, the_lemmas, arith)
