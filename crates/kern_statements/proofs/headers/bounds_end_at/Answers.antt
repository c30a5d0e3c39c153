use Rattle.std.proofs.Common.{sym, ◌∙◌, ap, subst}
use Rattle.kern_lexer.specs.declared.token.Sign.TheVariants as S
use Rattle.kern_lexer.specs.declared.token.TokenKind.TheVariants as T
use Rattle.kern_grammar.specs.BlockPlans.{range_plan}
use Rattle.kern_statements.specs.Headers.{BoundTrees, bounds_of}
use Rattle.kern_grammar.specs.Plans.{Plan, done, token}
use Rattle.kern_expressions.specs.TakenBy.{GivesTaken, perform}
use Rattle.kern_grammar.specs.Views.{comma_or_close}
use Rattle.kern_statements.proofs.Performed.{front}
use Rattle.kern_statements.proofs.headers.bounds_end_at.Goals as goal

pub returns-in-Comma : goal.returns-in-Comma
returns-in-Comma c = λ e k.
    let plan : Plan BoundTrees = token comma_or_close (range_plan (λ from to. done (from, to)) e) in
    let same = ap (perform plan) (front c.args.tokens c.tail.result (T.Sign S.Comma) c.in-len1-up.len_at_least (c.in-Sign.is ∙ ap (λ s. T.Sign s) c.in-Comma.is) c.tail.ensures.lexemes) in
    subst (GivesTaken bounds_of c.upper_bound_at.result) (sym same) (c.upper_bound_at.ensures e k)
