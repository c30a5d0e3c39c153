use Rattle.std.proofs.Common.{length, map}
use Rattle.kern_syntax.specs.TreeOf.{parameter_of}
use Rattle.kern_grammar.specs.Plans.{many, run}
use Rattle.kern_grammar.specs.BlockPlans.{comma_parameter, is_comma}
use Rattle.kern_expressions.specs.TakenBy.{lexemes_left}
use Rattle.kern_statements.proofs.ManyLists.{SoFar}
use Rattle.kern_parser.proofs.function.more_parameters_at.Given as goal

abbrev pub invariant-items : goal.invariant-items
invariant-items l =
    SoFar (λ v. map parameter_of v.items) l.parameters is_comma (run comma_parameter) (lexemes_left l.rest) (many is_comma (run comma_parameter) (lexemes_left l.tokens))

abbrev pub decreases-items : goal.decreases-items
decreases-items l = length (lexemes_left l.rest)
