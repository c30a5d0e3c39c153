use Rattle.std.proofs.Common.{List, ◌∷◌, refl}
use Rattle.std.specs.Prelude.{Option, Result, Ok}
use Rattle.kern_syntax.specs.Tree.{ParameterTree}
use Rattle.kern_syntax.specs.TreeOf.{parameter_of}
use Rattle.kern_grammar.specs.BlockPlans.{a_parameter, comma_parameter, is_comma, more_parameters}
use Rattle.kern_grammar.specs.Plans.{Plan, done, many, run, token}
use Rattle.kern_grammar.specs.Views.{close_parenthesis}
use Rattle.kern_expressions.specs.Kept.{KeptAs}
use Rattle.kern_expressions.specs.TakenBy.{first_seen, lexemes_left, perform}
use Rattle.kern_statements.proofs.Going.{goes, goes_known, stops, stops_known}
use Rattle.kern_parser.proofs.FunctionParts.{followed_parameter, parameter_trees}
use Rattle.kern_parser.proofs.function.some_parameters_at.Goals as goal

-- what follows the first parameter
abbrev further : ParameterTree → Plan (List ParameterTree)
further p = more_parameters (λ more. token close_parenthesis (λ seen. done (p ∷ more)))

pub returns-in_err-first : goal.returns-in_err-first
returns-in_err-first c =
    let first = perform (a_parameter (λ p. done p)) (lexemes_left c.args.tokens) in
    stops (KeptAs parameter_of) (KeptAs parameter_trees) c.in_err-first.field-0.0 c.from_residual.result _ first (λ p. perform (further p.0) p.1) (followed_parameter (λ p. done p) further further (λ p tokens. refl) (lexemes_left c.args.tokens)) c.in_err-first.ensures c.from_residual.ensures.1

pub returns-in_err-more : goal.returns-in_err-more
returns-in_err-more c =
    let result = c.from_residual-in_err-more.result in
    let first = perform (a_parameter (λ p. done p)) (lexemes_left c.args.tokens) in
    goes (KeptAs parameter_of) (KeptAs parameter_trees) c.in_ok-first.first c.in_ok-first.rest result _ first (λ p. perform (further p.0) p.1) (followed_parameter (λ p. done p) further further (λ p tokens. refl) (lexemes_left c.args.tokens)) c.in_ok-first.ensures
    (λ p k. stops (KeptAs parameter_trees) (KeptAs parameter_trees) c.in_err-more.field-0.0 result _ (many is_comma (run comma_parameter) (lexemes_left c.in_ok-first.rest)) (λ ps. perform (token close_parenthesis (λ seen. done (p ∷ ps.0))) ps.1) refl c.in_err-more.ensures c.from_residual-in_err-more.ensures.1)

pub returns-in_err-rest : goal.returns-in_err-rest
returns-in_err-rest c =
    let result = c.from_residual-in_err-rest.result in
    let first = perform (a_parameter (λ p. done p)) (lexemes_left c.args.tokens) in
    goes (KeptAs parameter_of) (KeptAs parameter_trees) c.in_ok-first.first c.in_ok-first.rest result _ first (λ p. perform (further p.0) p.1) (followed_parameter (λ p. done p) further further (λ p tokens. refl) (lexemes_left c.args.tokens)) c.in_ok-first.ensures
    (λ p k. goes (KeptAs parameter_trees) (KeptAs parameter_trees) c.in_ok-more.more c.in_ok-more.rest result _ (many is_comma (run comma_parameter) (lexemes_left c.in_ok-first.rest)) (λ ps. perform (token close_parenthesis (λ seen. done (p ∷ ps.0))) ps.1) refl c.in_ok-more.ensures
    (λ ps m. stops_known (KeptAs parameter_trees) c.in_err-rest.field-0.0 result _ (first_seen close_parenthesis (lexemes_left c.in_ok-more.rest)) (λ v. Ok (p ∷ ps, v.1)) refl c.in_err-rest.ensures c.from_residual-in_err-rest.ensures.1))

pub returns : goal.returns
returns c =
    let first = perform (a_parameter (λ p. done p)) (lexemes_left c.args.tokens) in
    let behind = c.in_ok-rest.rest in
    goes (KeptAs parameter_of) (KeptAs parameter_trees) c.in_ok-first.first c.in_ok-first.rest (Ok (c.with_first.result, behind)) _ first (λ p. perform (further p.0) p.1) (followed_parameter (λ p. done p) further further (λ p tokens. refl) (lexemes_left c.args.tokens)) c.in_ok-first.ensures
    (λ p k. goes (KeptAs parameter_trees) (KeptAs parameter_trees) c.in_ok-more.more c.in_ok-more.rest (Ok (c.with_first.result, behind)) _ (many is_comma (run comma_parameter) (lexemes_left c.in_ok-first.rest)) (λ ps. perform (token close_parenthesis (λ seen. done (p ∷ ps.0))) ps.1) refl c.in_ok-more.ensures
    (λ ps m. goes_known (KeptAs parameter_trees) tt behind (Ok (c.with_first.result, behind)) _ (first_seen close_parenthesis (lexemes_left c.in_ok-more.rest)) (λ v. Ok (p ∷ ps, v.1)) refl c.in_ok-rest.ensures (c.with_first.ensures p ps k m, refl)))
