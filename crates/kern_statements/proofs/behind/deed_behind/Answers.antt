use Rattle.std.proofs.Common.{refl, sym, subst}
use Rattle.std.specs.Prelude.{Ok}
use Rattle.kern_grammar.specs.Plans.{token}
use Rattle.kern_grammar.specs.SimplePlans.{deed_plan}
use Rattle.kern_grammar.specs.Views.{deed}
use Rattle.kern_expressions.specs.TakenBy.{GivesTaken, lexemes_left, perform}
use Rattle.kern_statements.specs.LineSteps.{line_of_statement, on}
use Rattle.kern_statements.proofs.LineLists.{alone_there, line-behind}
use Rattle.kern_statements.proofs.behind.deed_behind.Goals as goal

pub returns-in-Newline : goal.returns-in-Newline
returns-in-Newline c = λ xs tree k r.
    let plan = token (deed tree) (deed_plan (on c.args.line) tree) in
    let there = alone_there (on c.args.line) tree c.args.tokens c.tail.result c.in-len1-up.len_at_least c.in-Newline.is c.tail.ensures.lexemes in
    line-behind c.args.others c.evaluated.result c.pushed.result c.tail.result xs (perform plan (lexemes_left c.args.tokens)) k (subst (GivesTaken line_of_statement (Ok (c.evaluated.result, c.tail.result))) (sym there) (c.evaluated.ensures tree r, refl)) c.pushed.ensures
