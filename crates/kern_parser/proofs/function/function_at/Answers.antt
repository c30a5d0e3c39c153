use Rattle.std.proofs.Common.{subst}
use Rattle.kern_syntax.specs.TreeOf.{function_of}
use Rattle.kern_grammar.specs.BlockPlans.{function_plan}
use Rattle.kern_expressions.specs.TakenBy.{GivesTaken, lexemes_left}
use Rattle.kern_statements.proofs.Performed.{perform-run}
use Rattle.kern_parser.proofs.function.function_at.Goals as goal

pub returns : goal.returns
returns c =
    subst (GivesTaken function_of c.decorated_at.result) (perform-run function_plan (lexemes_left c.args.tokens)) c.decorated_at.ensures
