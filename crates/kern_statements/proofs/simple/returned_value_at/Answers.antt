use Rattle.std.proofs.Common.{refl}
use Rattle.std.specs.Prelude.{Some}
use Rattle.kern_syntax.specs.Tree.{return}
use Rattle.kern_grammar.specs.SimplePlans.{end_line, take_expression}
use Rattle.kern_expressions.specs.Kept.{KeptAs, ReadAs}
use Rattle.kern_expressions.specs.TakenBy.{lexemes_left, perform}
use Rattle.kern_statements.specs.LineSteps.{line_of_statement, on}
use Rattle.kern_statements.proofs.Going.{goes, stops}
use Rattle.kern_statements.proofs.simple.returned_value_at.Goals as goal

pub returns-in_err-value : goal.returns-in_err-value
returns-in_err-value c =
    stops ReadAs (KeptAs line_of_statement) c.in_err-value.field-0.0 c.from_residual.result _ (take_expression 16 (lexemes_left c.args.tokens)) (λ e. perform (end_line (on c.args.line (return (Some e.0)))) e.1) refl c.in_err-value.ensures c.from_residual.ensures.1

pub returns : goal.returns
returns c =
    goes ReadAs (KeptAs line_of_statement) c.in_ok-value.value c.in_ok-value.rest c.ended_statement.result _ (take_expression 16 (lexemes_left c.args.tokens)) (λ e. perform (end_line (on c.args.line (return (Some e.0)))) e.1) refl c.in_ok-value.ensures
    (λ e r. c.ended_statement.ensures (on c.args.line (return (Some e))) (c.returned.ensures e r))
