use Rattle.std.proofs.Common.{◌≡◌, ℕ, sym, ◌∙◌, ap, subst, rules}
use Rattle.kern_lexer.specs.declared.token.Key.TheVariants as K
use Rattle.kern_lexer.specs.declared.token.TokenKind.TheVariants as T
use Rattle.kern_syntax.specs.Tree.{pass, break, continue}
use Rattle.kern_syntax.specs.declared.statement.StmtKind as S
use Rattle.kern_syntax.specs.declared.statement.StmtKind.TheFolds.{the_lemmas}
use Rattle.kern_grammar.specs.SimplePlans.{Line, simple_plan}
use Rattle.kern_expressions.specs.TakenBy.{GivesTaken, lexemes_left, perform}
use Rattle.kern_statements.specs.LineSteps.{line_of_statement, on}
use Rattle.kern_grammar.specs.Plans.{Plan, peek}
use Rattle.kern_grammar.specs.Views.{opening}
use Rattle.kern_statements.proofs.Performed.{first_as, first_kind, front, key_by_expression, others_by_expression, peeked}
use Rattle.kern_statements.proofs.simple.simple_at.Goals as goal

-- the plan of a statement on one line
abbrev line_plan : (line : ℕ) → Plan Line
line_plan line = peek (λ t. simple_plan (on line) (opening t.symbol))

pub returns-in-Pass : goal.returns-in-Pass
returns-in-Pass c =
    let e = front c.args.tokens c.tail.result (T.Key K.Pass) c.in-len1-up.len_at_least (c.in-Key.is ∙ ap (λ k. T.Key k) c.in-Pass.is) c.tail.ensures.lexemes in
    let same : line_of_statement (record { line = c.args.line; kind = S.Pass }) ≡ on c.args.line pass = search (rules, the_lemmas) in
    subst (GivesTaken line_of_statement c.ended_statement.result) (sym (ap (perform (line_plan c.args.line)) e)) (c.ended_statement.ensures (on c.args.line pass) same)

pub returns-in-Break : goal.returns-in-Break
returns-in-Break c =
    let e = front c.args.tokens c.tail-in-Break.result (T.Key K.Break) c.in-len1-up.len_at_least (c.in-Key.is ∙ ap (λ k. T.Key k) c.in-Break.is) c.tail-in-Break.ensures.lexemes in
    let same : line_of_statement (record { line = c.args.line; kind = S.Break }) ≡ on c.args.line break = search (rules, the_lemmas) in
    subst (GivesTaken line_of_statement c.ended_statement-in-Break.result) (sym (ap (perform (line_plan c.args.line)) e)) (c.ended_statement-in-Break.ensures (on c.args.line break) same)

pub returns-in-Continue : goal.returns-in-Continue
returns-in-Continue c =
    let e = front c.args.tokens c.tail-in-Continue.result (T.Key K.Continue) c.in-len1-up.len_at_least (c.in-Key.is ∙ ap (λ k. T.Key k) c.in-Continue.is) c.tail-in-Continue.ensures.lexemes in
    let same : line_of_statement (record { line = c.args.line; kind = S.Continue }) ≡ on c.args.line continue = search (rules, the_lemmas) in
    subst (GivesTaken line_of_statement c.ended_statement-in-Continue.result) (sym (ap (perform (line_plan c.args.line)) e)) (c.ended_statement-in-Continue.ensures (on c.args.line continue) same)

pub returns-in_default-key : goal.returns-in_default-key
returns-in_default-key c =
    let n = c.in_default-key in
    let same = peeked (λ t. simple_plan (on c.args.line) (opening t.symbol)) c.args.tokens c.in-len1-up.len_at_least ∙ ap (λ k. perform (simple_plan (on c.args.line) (opening (first_as c.args.tokens k).symbol)) (lexemes_left c.args.tokens)) c.in-Key.is ∙ key_by_expression (on c.args.line) c.in-Key.key (lexemes_left c.args.tokens) n.not-Pass n.not-Break n.not-Continue n.not-Return in
    subst (GivesTaken line_of_statement c.expression_statement_at.result) (sym same) c.expression_statement_at.ensures

pub returns-in_default : goal.returns-in_default
returns-in_default c =
    let same = peeked (λ t. simple_plan (on c.args.line) (opening t.symbol)) c.args.tokens c.in-len1-up.len_at_least ∙ others_by_expression (on c.args.line) c.args.tokens.text.now _ _ (first_kind c.args.tokens) (lexemes_left c.args.tokens) c.in_default.not-Key in
    subst (GivesTaken line_of_statement c.expression_statement_at-in_default.result) (sym same) c.expression_statement_at-in_default.ensures
