use Rattle.std.proofs.Common.{◌∷◌, Global, List, Vec, map, refl}
use Rattle.kern_lexer.specs.Bytes.{Bytes}
use Rattle.kern_syntax.specs.declared.expression.Expr.{Expr}
use Rattle.kern_syntax.specs.Tree.{Expression, assign_list}
use Rattle.kern_syntax.specs.TreeOf.{expression_of}
use Rattle.kern_grammar.specs.Plans.{many, run}
use Rattle.kern_grammar.specs.SimplePlans.{comma_element, end_line, is_comma}
use Rattle.kern_grammar.specs.Views.{close_bracket}
use Rattle.kern_expressions.specs.Kept.{KeptAs}
use Rattle.kern_expressions.specs.TakenBy.{first_seen, lexemes_left, perform}
use Rattle.kern_statements.specs.LineSteps.{line_of_statement, on}
use Rattle.kern_statements.proofs.Arrays.{listed_plan}
use Rattle.kern_statements.proofs.Going.{goes, goes_known, stops, stops_known}
use Rattle.kern_statements.proofs.simple.elements_at.Goals as goal

-- the trees of further elements
abbrev trees : Vec Expr Global → List Expression
trees v = map expression_of v.items

pub returns-in_err-more : goal.returns-in_err-more
returns-in_err-more c = λ x e k r.
    stops (KeptAs trees) (KeptAs line_of_statement) c.in_err-more.field-0.0 c.from_residual.result _ (many is_comma (run comma_element) (lexemes_left c.args.tokens)) (λ more. perform (listed_plan (on c.args.line) x e more.0) more.1) refl c.in_err-more.ensures c.from_residual.ensures.1

pub returns-in_err-rest : goal.returns-in_err-rest
returns-in_err-rest c = λ x e k r.
    let result = c.from_residual-in_err-rest.result in
    goes (KeptAs trees) (KeptAs line_of_statement) c.in_ok-more.more c.in_ok-more.rest result _ (many is_comma (run comma_element) (lexemes_left c.args.tokens)) (λ more. perform (listed_plan (on c.args.line) x e more.0) more.1) refl c.in_ok-more.ensures
    (λ es m. stops_known (KeptAs line_of_statement) c.in_err-rest.field-0.0 result _ (first_seen close_bracket (lexemes_left c.in_ok-more.rest)) (λ v. perform (end_line (on c.args.line (assign_list x (e ∷ es)))) v.1) refl c.in_err-rest.ensures c.from_residual-in_err-rest.ensures.1)

pub returns : goal.returns
returns c = λ x e k r.
    let result = c.ended_statement.result in
    goes (KeptAs trees) (KeptAs line_of_statement) c.in_ok-more.more c.in_ok-more.rest result _ (many is_comma (run comma_element) (lexemes_left c.args.tokens)) (λ more. perform (listed_plan (on c.args.line) x e more.0) more.1) refl c.in_ok-more.ensures
    (λ es m. goes_known (KeptAs line_of_statement) tt c.in_ok-rest.rest result _ (first_seen close_bracket (lexemes_left c.in_ok-more.rest)) (λ v. perform (end_line (on c.args.line (assign_list x (e ∷ es)))) v.1) refl c.in_ok-rest.ensures
    (c.ended_statement.ensures (on c.args.line (assign_list x (e ∷ es))) (c.listed.ensures x e es k r m)))
