use Rattle.std.proofs.Common.{refl}
use Rattle.std.specs.Prelude.{Ok}
use Rattle.kern_lexer.specs.Bytes.{Bytes}
use Rattle.kern_syntax.specs.Tree.{ParameterTree}
use Rattle.kern_syntax.specs.TreeOf.{parameter_of}
use Rattle.kern_grammar.specs.Plans.{Plan, done, token}
use Rattle.kern_grammar.specs.Views.{a_name, a_type, colon}
use Rattle.kern_expressions.specs.Kept.{KeptAs}
use Rattle.kern_expressions.specs.TakenBy.{first_seen, lexemes_left, perform}
use Rattle.kern_statements.proofs.Going.{goes, goes_known, stops, stops_known}
use Rattle.kern_parser.proofs.function.parameter_at.Goals as goal

-- what follows the name of a parameter, and its colon
abbrev typed : Bytes → Plan ParameterTree
typed x = token a_type (λ d. done (record { name = x; declared = d }))

abbrev named : Bytes → Plan ParameterTree
named x = token colon (λ seen. typed x)

pub returns-in_err-name : goal.returns-in_err-name
returns-in_err-name c =
    stops (KeptAs (λ n. n)) (KeptAs parameter_of) c.in_err-name.field-0.0 c.from_residual.result _ (first_seen a_name (lexemes_left c.args.tokens)) (λ x. perform (named x.0) x.1) refl c.in_err-name.ensures c.from_residual.ensures.1

pub returns-in_err-colon : goal.returns-in_err-colon
returns-in_err-colon c =
    let result = c.from_residual-in_err-colon.result in
    goes (KeptAs (λ n. n)) (KeptAs parameter_of) c.in_ok-name.name c.in_ok-name.rest result _ (first_seen a_name (lexemes_left c.args.tokens)) (λ x. perform (named x.0) x.1) refl c.in_ok-name.ensures
    (λ x k. stops_known (KeptAs parameter_of) c.in_err-colon.field-0.0 result _ (first_seen colon (lexemes_left c.in_ok-name.rest)) (λ v. perform (typed x) v.1) refl c.in_err-colon.ensures c.from_residual-in_err-colon.ensures.1)

pub returns-in_err-declared : goal.returns-in_err-declared
returns-in_err-declared c =
    let result = c.from_residual-in_err-declared.result in
    goes (KeptAs (λ n. n)) (KeptAs parameter_of) c.in_ok-name.name c.in_ok-name.rest result _ (first_seen a_name (lexemes_left c.args.tokens)) (λ x. perform (named x.0) x.1) refl c.in_ok-name.ensures
    (λ x k. goes_known (KeptAs parameter_of) tt c.in_ok-colon.colon result _ (first_seen colon (lexemes_left c.in_ok-name.rest)) (λ v. perform (typed x) v.1) refl c.in_ok-colon.ensures
    (stops_known (KeptAs parameter_of) c.in_err-declared.field-0.0 result _ (first_seen a_type (lexemes_left c.in_ok-colon.colon)) (λ d. Ok (record { name = x; declared = d.0 }, d.1)) refl c.in_err-declared.ensures c.from_residual-in_err-declared.ensures.1))

pub returns : goal.returns
returns c =
    goes (KeptAs (λ n. n)) (KeptAs parameter_of) c.in_ok-name.name c.in_ok-name.rest (Ok (c.declared_parameter.result, c.in_ok-declared.rest)) _ (first_seen a_name (lexemes_left c.args.tokens)) (λ x. perform (named x.0) x.1) refl c.in_ok-name.ensures
    (λ x k. goes_known (KeptAs parameter_of) tt c.in_ok-colon.colon (Ok (c.declared_parameter.result, c.in_ok-declared.rest)) _ (first_seen colon (lexemes_left c.in_ok-name.rest)) (λ v. perform (typed x) v.1) refl c.in_ok-colon.ensures
    (goes_known (KeptAs parameter_of) c.in_ok-declared.declared c.in_ok-declared.rest (Ok (c.declared_parameter.result, c.in_ok-declared.rest)) _ (first_seen a_type (lexemes_left c.in_ok-colon.colon)) (λ d. Ok (record { name = x; declared = d.0 }, d.1)) refl c.in_ok-declared.ensures (c.declared_parameter.ensures x k, refl)))
