use Rattle.std.proofs.Common.{refl}
use Rattle.std.specs.Prelude.{Option, Some, Result, Ok}
use Rattle.kern_expressions.specs.declared.tokens.Tokens.{Tokens}
use Rattle.kern_expressions.specs.declared.tokens.WrongToken.{WrongToken}
use Rattle.kern_statements.specs.declared.headers.Bounds.{Bounds}
use Rattle.kern_syntax.specs.Tree.{Expression}
use Rattle.kern_grammar.specs.BlockPlans.{range_plan}
use Rattle.kern_grammar.specs.Plans.{Plan, done, token}
use Rattle.kern_grammar.specs.SimplePlans.{an_expression, take_expression}
use Rattle.kern_grammar.specs.Views.{close_parenthesis, comma_or_close, open_parenthesis}
use Rattle.kern_expressions.specs.Kept.{KeptAs, ReadAs}
use Rattle.kern_expressions.specs.TakenBy.{first_seen, lexemes_left, perform}
use Rattle.kern_statements.specs.Headers.{BoundTrees, bounds_of}
use Rattle.kern_statements.proofs.Going.{goes, goes_known, stops, stops_known}
use Rattle.kern_statements.proofs.headers.upper_bound_at.Goals as goal

-- what stands behind the upper bound
abbrev behind : (from to : Expression) → Plan BoundTrees
behind from to = token close_parenthesis (λ seen. done (Some from, to))

pub returns-in_err-to : goal.returns-in_err-to
returns-in_err-to c = λ from k.
    stops ReadAs (KeptAs bounds_of) c.in_err-to.field-0.0 c.from_residual.result _ (take_expression 15 (lexemes_left c.args.tokens)) (λ to. perform (behind from to.0) to.1) refl c.in_err-to.ensures c.from_residual.ensures.1

pub returns-in_err-rest : goal.returns-in_err-rest
returns-in_err-rest c = λ from k.
    let result = c.from_residual-in_err-rest.result in
    goes ReadAs (KeptAs bounds_of) c.in_ok-to.to c.in_ok-to.rest result _ (take_expression 15 (lexemes_left c.args.tokens)) (λ to. perform (behind from to.0) to.1) refl c.in_ok-to.ensures
    (λ to r. stops_known (KeptAs bounds_of) c.in_err-rest.field-0.0 result _ (first_seen close_parenthesis (lexemes_left c.in_ok-to.rest)) (λ v. Ok ((Some from, to), v.1)) refl c.in_err-rest.ensures c.from_residual-in_err-rest.ensures.1)

pub returns : goal.returns
returns c = λ from k.
    let result : Result (Option Bounds × Tokens) WrongToken = Ok (c.between.result, c.in_ok-rest.rest) in
    goes ReadAs (KeptAs bounds_of) c.in_ok-to.to c.in_ok-to.rest result _ (take_expression 15 (lexemes_left c.args.tokens)) (λ to. perform (behind from to.0) to.1) refl c.in_ok-to.ensures
    (λ to r. goes_known (KeptAs bounds_of) tt c.in_ok-rest.rest result _ (first_seen close_parenthesis (lexemes_left c.in_ok-to.rest)) (λ v. Ok ((Some from, to), v.1)) refl c.in_ok-rest.ensures (c.between.ensures from to k r, refl))
