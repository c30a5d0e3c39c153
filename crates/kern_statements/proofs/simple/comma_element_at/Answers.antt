use Rattle.std.proofs.Common.{◌≡◌, List, ◌∷◌, refl, sym, ◌∙◌, ap, subst}
use Rattle.std.specs.Prelude.{Ok, Err}
use Rattle.kern_lexer.specs.Symbols.{Lexeme, sign}
use Rattle.kern_lexer.specs.declared.token.Sign.TheVariants as S
use Rattle.kern_lexer.specs.declared.token.TokenKind.TheVariants as T
use Rattle.kern_syntax.specs.Tree.{Expression}
use Rattle.kern_grammar.specs.Plans.{Taken, ◌>>=◌, run}
use Rattle.kern_grammar.specs.SimplePlans.{comma_element, take_expression}
use Rattle.kern_expressions.specs.TakenBy.{TakesExpression, lexemes_left}
use Rattle.kern_statements.proofs.Going.{as_it_is}
use Rattle.kern_statements.proofs.Performed.{first_as, front}
use Rattle.kern_statements.proofs.simple.comma_element_at.Goals as goal

behind_comma : (line : _) (rest : List Lexeme) → run comma_element (record { symbol = sign S.Comma; line = line } ∷ rest) ≡ take_expression 15 rest
behind_comma line rest = as_it_is (take_expression 15 rest)

pub returns-in-Sign-Comma : goal.returns-in-Sign-Comma
returns-in-Sign-Comma c =
    let comma : c.in-Sign-Comma.field-0 ≡ S.Comma = rw c.in-Sign-Comma.is at c.in-Sign-Comma.field-0-is in
    let same = ap (run comma_element) (front c.args.tokens c.tail.result (T.Sign S.Comma) c.in-len1-up.len_at_least (c.in-Sign-Comma.is ∙ ap (λ s. T.Sign s) comma) c.tail.ensures.lexemes) ∙ behind_comma (first_as c.args.tokens (T.Sign S.Comma)).line (lexemes_left c.tail.result) in
    subst (TakesExpression c.expression_at.result) (sym same) c.expression_at.ensures
