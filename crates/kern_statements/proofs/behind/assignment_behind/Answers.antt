use Rattle.kern_grammar.specs.Plans.{token}
use Rattle.kern_grammar.specs.SimplePlans.{deed_plan}
use Rattle.kern_grammar.specs.Views.{deed}
use Rattle.kern_expressions.specs.TakenBy.{lexemes_left, perform}
use Rattle.kern_statements.specs.LineSteps.{on}
use Rattle.kern_statements.proofs.LineLists.{line-behind, line-ends}
use Rattle.kern_statements.proofs.behind.assignment_behind.Goals as goal

pub returns-in-Err : goal.returns-in-Err
returns-in-Err c = λ xs tree k r.
    line-ends c.in-Err.wrong xs (perform (token (deed tree) (deed_plan (on c.args.line) tree)) (lexemes_left c.args.tokens)) (c.in-Err.ensures tree r)

pub returns-in-Ok : goal.returns-in-Ok
returns-in-Ok c = λ xs tree k r.
    line-behind c.args.others c.in-Ok.statement c.pushed.result c.in-Ok.rest xs (perform (token (deed tree) (deed_plan (on c.args.line) tree)) (lexemes_left c.args.tokens)) k (c.in-Ok.ensures tree r) c.pushed.ensures
