use Rattle.std.proofs.Common.{length, map}
use Rattle.kern_syntax.specs.TreeOf.{function_of}
use Rattle.kern_grammar.specs.BlockPlans.{function_plan, is_function}
use Rattle.kern_grammar.specs.Plans.{run}
use Rattle.kern_expressions.specs.TakenBy.{lexemes_left}
use Rattle.kern_statements.specs.Several.{several}
use Rattle.kern_statements.proofs.ManyLists.{SeveralSoFar}
use Rattle.kern_parser.proofs.program.functions_at.Given as goal

abbrev pub invariant-functions : goal.invariant-functions
invariant-functions l =
    SeveralSoFar (λ v. map function_of v.items) l.functions is_function (run function_plan) (lexemes_left l.rest) (several is_function (run function_plan) (lexemes_left l.tokens))

abbrev pub decreases-functions : goal.decreases-functions
decreases-functions l = length (lexemes_left l.rest)
