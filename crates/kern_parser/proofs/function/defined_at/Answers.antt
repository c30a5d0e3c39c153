use Rattle.std.proofs.Common.{refl}
use Rattle.std.specs.Prelude.{Option, Result, Ok}
use Rattle.kern_syntax.specs.TreeOf.{block_of, function_of}
use Rattle.kern_syntax.specs.declared.program.Function.{Function}
use Rattle.kern_grammar.specs.BlockPlans.{block_plan, function_block, line_plan}
use Rattle.kern_grammar.specs.Plans.{run}
use Rattle.kern_grammar.specs.Views.{a_name, def_key, open_parenthesis}
use Rattle.kern_expressions.specs.Kept.{KeptAs}
use Rattle.kern_expressions.specs.TakenBy.{first_seen, lexemes_left, perform}
use Rattle.kern_expressions.specs.declared.tokens.Tokens.{Tokens}
use Rattle.kern_expressions.specs.declared.tokens.WrongToken.{WrongToken}
use Rattle.kern_statements.proofs.Going.{goes, goes_known, stops, stops_known}
use Rattle.kern_parser.specs.FunctionSteps.{function_tree, maybe_parameters_plan, parameters_part, result_part}
use Rattle.kern_parser.proofs.FunctionParts.{behind_parameters, followed_parameters, followed_result, goes_to_parameters, named_plan, opened_plan, parameter_trees}
use Rattle.kern_parser.proofs.function.defined_at.Goals as goal

pub returns-in_err-name : goal.returns-in_err-name
returns-in_err-name c =
    let result = c.from_residual-in_err-name.result in
    let after = lexemes_left c.in_ok-rest.rest in
    goes_known (KeptAs function_of) tt c.in_ok-rest.rest result _ (first_seen def_key (lexemes_left c.args.tokens)) (λ v. perform (named_plan c.args.line) v.1) refl c.in_ok-rest.ensures
    (stops (KeptAs (λ n. n)) (KeptAs function_of) c.in_err-name.field-0.0 result _ (first_seen a_name after) (λ x. perform (opened_plan c.args.line x.0) x.1) refl c.in_err-name.ensures c.from_residual-in_err-name.ensures.1)

pub returns-in_err-inside : goal.returns-in_err-inside
returns-in_err-inside c =
    let result = c.from_residual-in_err-inside.result in
    let after = lexemes_left c.in_ok-rest.rest in
    goes_known (KeptAs function_of) tt c.in_ok-rest.rest result _ (first_seen def_key (lexemes_left c.args.tokens)) (λ v. perform (named_plan c.args.line) v.1) refl c.in_ok-rest.ensures
    (goes (KeptAs (λ n. n)) (KeptAs function_of) c.in_ok-name.name c.in_ok-name.rest result _ (first_seen a_name after) (λ x. perform (opened_plan c.args.line x.0) x.1) refl c.in_ok-name.ensures
    (λ x k. stops_known (KeptAs function_of) c.in_err-inside.field-0.0 result _ (first_seen open_parenthesis (lexemes_left c.in_ok-name.rest)) (λ v. perform (maybe_parameters_plan c.args.line x) v.1) refl c.in_err-inside.ensures c.from_residual-in_err-inside.ensures.1))

pub returns-in_err-parameters : goal.returns-in_err-parameters
returns-in_err-parameters c =
    let result = c.from_residual-in_err-parameters.result in
    let inside = lexemes_left c.in_ok-inside.inside in
    goes_to_parameters c.args.line c.args.tokens c.in_ok-rest.rest c.in_ok-name.rest c.in_ok-inside.inside c.in_ok-name.name result c.in_ok-rest.ensures c.in_ok-name.ensures c.in_ok-inside.ensures
    (λ x k. stops (KeptAs parameter_trees) (KeptAs function_of) c.in_err-parameters.field-0.0 result _ (perform parameters_part inside) (λ ps. perform (behind_parameters c.args.line x ps.0) ps.1) (followed_parameters c.args.line x inside) c.in_err-parameters.ensures c.from_residual-in_err-parameters.ensures.1)

pub returns-in_err-declared : goal.returns-in_err-declared
returns-in_err-declared c =
    let result = c.from_residual-in_err-declared.result in
    let inside = lexemes_left c.in_ok-inside.inside in
    let rest = lexemes_left c.in_ok-parameters.rest in
    goes_to_parameters c.args.line c.args.tokens c.in_ok-rest.rest c.in_ok-name.rest c.in_ok-inside.inside c.in_ok-name.name result c.in_ok-rest.ensures c.in_ok-name.ensures c.in_ok-inside.ensures
    (λ x k. goes (KeptAs parameter_trees) (KeptAs function_of) c.in_ok-parameters.parameters c.in_ok-parameters.rest result _ (perform parameters_part inside) (λ ps. perform (behind_parameters c.args.line x ps.0) ps.1) (followed_parameters c.args.line x inside) c.in_ok-parameters.ensures
    (λ ps m. stops_known (KeptAs function_of) c.in_err-declared.field-0.0 result _ (perform result_part rest) (λ d. perform (function_block c.args.line x ps d.0) d.1) (followed_result c.args.line x ps rest) c.in_err-declared.ensures c.from_residual-in_err-declared.ensures.1))

pub returns-in_err-body : goal.returns-in_err-body
returns-in_err-body c =
    let result = c.from_residual-in_err-body.result in
    let inside = lexemes_left c.in_ok-inside.inside in
    let rest = lexemes_left c.in_ok-parameters.rest in
    let declared = c.in_ok-declared.declared in
    let take = run (block_plan 15 (run (line_plan 15))) in
    goes_to_parameters c.args.line c.args.tokens c.in_ok-rest.rest c.in_ok-name.rest c.in_ok-inside.inside c.in_ok-name.name result c.in_ok-rest.ensures c.in_ok-name.ensures c.in_ok-inside.ensures
    (λ x k. goes (KeptAs parameter_trees) (KeptAs function_of) c.in_ok-parameters.parameters c.in_ok-parameters.rest result _ (perform parameters_part inside) (λ ps. perform (behind_parameters c.args.line x ps.0) ps.1) (followed_parameters c.args.line x inside) c.in_ok-parameters.ensures
    (λ ps m. goes_known (KeptAs function_of) declared c.in_ok-declared.rest result _ (perform result_part rest) (λ d. perform (function_block c.args.line x ps d.0) d.1) (followed_result c.args.line x ps rest) c.in_ok-declared.ensures
    (stops (KeptAs block_of) (KeptAs function_of) c.in_err-body.field-0.0 result _ (take (lexemes_left c.in_ok-declared.rest)) (λ b. Ok (function_tree c.args.line x ps declared b.0, b.1)) refl c.in_err-body.ensures c.from_residual-in_err-body.ensures.1)))

pub returns : goal.returns
returns c =
    let result : Result (Option Function × Tokens) WrongToken = Ok (c.whole_function.result, c.in_ok-body.rest) in
    let inside = lexemes_left c.in_ok-inside.inside in
    let rest = lexemes_left c.in_ok-parameters.rest in
    let declared = c.in_ok-declared.declared in
    let take = run (block_plan 15 (run (line_plan 15))) in
    goes_to_parameters c.args.line c.args.tokens c.in_ok-rest.rest c.in_ok-name.rest c.in_ok-inside.inside c.in_ok-name.name result c.in_ok-rest.ensures c.in_ok-name.ensures c.in_ok-inside.ensures
    (λ x k. goes (KeptAs parameter_trees) (KeptAs function_of) c.in_ok-parameters.parameters c.in_ok-parameters.rest result _ (perform parameters_part inside) (λ ps. perform (behind_parameters c.args.line x ps.0) ps.1) (followed_parameters c.args.line x inside) c.in_ok-parameters.ensures
    (λ ps m. goes_known (KeptAs function_of) declared c.in_ok-declared.rest result _ (perform result_part rest) (λ d. perform (function_block c.args.line x ps d.0) d.1) (followed_result c.args.line x ps rest) c.in_ok-declared.ensures
    (goes (KeptAs block_of) (KeptAs function_of) c.in_ok-body.body c.in_ok-body.rest result _ (take (lexemes_left c.in_ok-declared.rest)) (λ b. Ok (function_tree c.args.line x ps declared b.0, b.1)) refl c.in_ok-body.ensures
    (λ b l. (c.whole_function.ensures x ps b k m l, refl)))))
