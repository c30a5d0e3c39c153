use Rattle.std.proofs.Common.{refl}
use Rattle.kern_grammar.specs.Plans.{token}
use Rattle.kern_grammar.specs.SimplePlans.{deed_plan, take_expression}
use Rattle.kern_grammar.specs.Views.{deed}
use Rattle.kern_expressions.specs.Kept.{KeptAs, ReadAs}
use Rattle.kern_expressions.specs.TakenBy.{lexemes_left, perform}
use Rattle.kern_statements.specs.LineSteps.{line_of_statement, on}
use Rattle.kern_statements.proofs.Going.{goes, stops}
use Rattle.kern_statements.proofs.simple.expression_statement_at.Goals as goal

pub returns-in_err-e : goal.returns-in_err-e
returns-in_err-e c =
    stops ReadAs (KeptAs line_of_statement) c.in_err-e.field-0.0 c.from_residual.result _ (take_expression 16 (lexemes_left c.args.tokens)) (λ e. perform (token (deed e.0) (deed_plan (on c.args.line) e.0)) e.1) refl c.in_err-e.ensures c.from_residual.ensures.1

pub returns : goal.returns
returns c =
    goes ReadAs (KeptAs line_of_statement) c.in_ok-e.e c.in_ok-e.rest c.deed_at.result _ (take_expression 16 (lexemes_left c.args.tokens)) (λ e. perform (token (deed e.0) (deed_plan (on c.args.line) e.0)) e.1) refl c.in_ok-e.ensures c.deed_at.ensures
