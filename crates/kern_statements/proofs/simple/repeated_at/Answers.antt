use Rattle.std.proofs.Common.{sym, ap, subst, true}
use Rattle.kern_lexer.specs.declared.token.TokenKind.TheVariants as T
use Rattle.kern_syntax.specs.Tree.{assign_repeated}
use Rattle.kern_grammar.specs.Plans.{Plan}
use Rattle.kern_grammar.specs.SimplePlans.{Line, repeated}
use Rattle.kern_expressions.specs.TakenBy.{GivesTaken, perform}
use Rattle.kern_statements.specs.LineSteps.{line_of_statement, on}
use Rattle.kern_statements.proofs.Performed.{front}
use Rattle.kern_statements.proofs.simple.repeated_at.Goals as goal

pub returns-in-Integer : goal.returns-in-Integer
returns-in-Integer c = λ x e k r.
    let plan : Plan Line = repeated (on c.args.line) x e true in
    let same = ap (perform plan) (front c.args.tokens c.tail.result (T.Integer c.in-Integer.length) c.in-len1-up.len_at_least c.in-Integer.is c.tail.ensures.lexemes) in
    subst (GivesTaken line_of_statement c.ended_statement.result) (sym same) (c.ended_statement.ensures (on c.args.line (assign_repeated x e c.in-Integer.length)) (c.repeated.ensures x e k r))
