use Rattle.std.proofs.Common.{sym, ◌∙◌, ap, subst}
use Rattle.kern_lexer.specs.declared.token.Sign.TheVariants as S
use Rattle.kern_lexer.specs.declared.token.TokenKind.TheVariants as T
use Rattle.kern_grammar.specs.SimplePlans.{assigned}
use Rattle.kern_expressions.specs.TakenBy.{GivesTaken, lexemes_left, perform}
use Rattle.kern_statements.specs.LineSteps.{line_of_statement, on, place_plan}
use Rattle.kern_grammar.specs.Views.{is_seen, open_bracket, to_name}
use Rattle.kern_statements.proofs.Performed.{first_as, first_kind, front, no_bracket, peeked, sign_no_bracket}
use Rattle.kern_statements.proofs.simple.name_assigned_at.Goals as goal

pub returns-in-OpenBracket : goal.returns-in-OpenBracket
returns-in-OpenBracket c = λ x k.
    let same = ap (perform (place_plan (on c.args.line) (to_name x))) (front c.args.tokens c.tail.result (T.Sign S.OpenBracket) c.in-len1-up.len_at_least (c.in-Sign.is ∙ ap (λ s. T.Sign s) c.in-OpenBracket.is) c.tail.ensures.lexemes) in
    subst (GivesTaken line_of_statement c.array_at.result) (sym same) (c.array_at.ensures x k)

pub returns-in_default-sign : goal.returns-in_default-sign
returns-in_default-sign c = λ x k.
    let closed = ap (λ k. is_seen (open_bracket (first_as c.args.tokens k).symbol)) c.in-Sign.is ∙ sign_no_bracket c.in-Sign.sign c.in_default-sign.not-OpenBracket in
    let same = peeked (λ t. assigned (on c.args.line) x (is_seen (open_bracket t.symbol))) c.args.tokens c.in-len1-up.len_at_least ∙ ap (λ b. perform (assigned (on c.args.line) x b) (lexemes_left c.args.tokens)) closed in
    subst (GivesTaken line_of_statement c.assigned_value_at.result) (sym same) (c.assigned_value_at.ensures (to_name x) k)

pub returns-in_default : goal.returns-in_default
returns-in_default c = λ x k.
    let same = peeked (λ t. assigned (on c.args.line) x (is_seen (open_bracket t.symbol))) c.args.tokens c.in-len1-up.len_at_least ∙ ap (λ b. perform (assigned (on c.args.line) x b) (lexemes_left c.args.tokens)) (no_bracket c.args.tokens.text.now _ _ (first_kind c.args.tokens) c.in_default.not-Sign) in
    subst (GivesTaken line_of_statement c.assigned_value_at-in_default.result) (sym same) (c.assigned_value_at-in_default.ensures (to_name x) k)
