use Rattle.std.proofs.Common.{refl}
use Rattle.std.specs.Prelude.{Err}
use Rattle.kern_grammar.specs.Plans.{token}
use Rattle.kern_grammar.specs.SimplePlans.{deed_plan, take_expression}
use Rattle.kern_grammar.specs.Views.{deed}
use Rattle.kern_expressions.specs.Kept.{KeptAs, ReadAs}
use Rattle.kern_expressions.specs.TakenBy.{lexemes_left, perform}
use Rattle.kern_statements.specs.LineSteps.{on}
use Rattle.kern_statements.specs.Several.{one_behind}
use Rattle.kern_statements.proofs.LineLists.{behind_then, lines_of}
use Rattle.kern_statements.proofs.Going.{goes, stops}
use Rattle.kern_statements.proofs.behind.expression_behind.Goals as goal

pub returns-in-Err : goal.returns-in-Err
returns-in-Err c = λ xs k.
    let first = take_expression 16 (lexemes_left c.args.tokens) in
    stops ReadAs (KeptAs lines_of) c.in-Err.wrong (Err c.in-Err.wrong) _ first (λ e. one_behind xs (perform (token (deed e.0) (deed_plan (on c.args.line) e.0)) e.1)) (behind_then xs first (λ e. perform (token (deed e.0) (deed_plan (on c.args.line) e.0)) e.1)) c.in-Err.ensures refl

pub returns-in-Ok : goal.returns-in-Ok
returns-in-Ok c = λ xs k.
    let first = take_expression 16 (lexemes_left c.args.tokens) in
    goes ReadAs (KeptAs lines_of) c.in-Ok.e c.in-Ok.rest c.deed_behind.result _ first (λ e. one_behind xs (perform (token (deed e.0) (deed_plan (on c.args.line) e.0)) e.1)) (behind_then xs first (λ e. perform (token (deed e.0) (deed_plan (on c.args.line) e.0)) e.1)) c.in-Ok.ensures (λ e r. c.deed_behind.ensures xs e k r)
