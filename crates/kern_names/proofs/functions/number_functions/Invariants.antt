use Rattle.std.proofs.Common.{drop}
use Rattle.kern_names.proofs.Numbers.{AreNumbered}
use Rattle.kern_names.proofs.functions.number_functions.Given as goal

abbrev pub invariant-loop-number : goal.invariant-loop-number
invariant-loop-number l = AreNumbered l.fn.functions (drop l.number l.fn.functions) l.numbers l.number
