use Rattle.std.proofs.Common.{length, map}
use Rattle.kern_syntax.specs.TreeOf.{expression_of}
use Rattle.kern_grammar.specs.Plans.{many, run}
use Rattle.kern_grammar.specs.SimplePlans.{comma_element, is_comma}
use Rattle.kern_expressions.specs.TakenBy.{lexemes_left}
use Rattle.kern_statements.proofs.ManyLists.{SoFar}
use Rattle.kern_statements.proofs.simple.more_elements_at.Given as goal

abbrev pub invariant-items : goal.invariant-items
invariant-items l =
    SoFar (λ v. map expression_of v.items) l.elements is_comma (run comma_element) (lexemes_left l.rest) (many is_comma (run comma_element) (lexemes_left l.tokens))

abbrev pub decreases-items : goal.decreases-items
decreases-items l = length (lexemes_left l.rest)
