use Rattle.std.proofs.Common.{refl}
use Rattle.std.specs.Prelude.{Option, Some}
use Rattle.kern_syntax.specs.Tree.{Expression}
use Rattle.kern_grammar.specs.BlockPlans.{range_plan}
use Rattle.kern_grammar.specs.Plans.{Plan, done, token}
use Rattle.kern_grammar.specs.SimplePlans.{an_expression, take_expression}
use Rattle.kern_grammar.specs.Views.{close_parenthesis, comma_or_close, open_parenthesis}
use Rattle.kern_expressions.specs.Kept.{KeptAs, ReadAs}
use Rattle.kern_expressions.specs.TakenBy.{first_seen, lexemes_left, perform}
use Rattle.kern_statements.specs.Headers.{BoundTrees, bounds_of}
use Rattle.kern_statements.proofs.Going.{goes, goes_known, stops, stops_known}
use Rattle.kern_statements.proofs.headers.bracketed_bounds_at.Goals as goal

-- what stands behind the first bound
abbrev behind : Expression → Plan BoundTrees
behind e = token comma_or_close (range_plan (λ from to. done (from, to)) e)

pub returns-in_err-first : goal.returns-in_err-first
returns-in_err-first c =
    let result = c.from_residual-in_err-first.result in
    goes_known (KeptAs bounds_of) tt c.in_ok-rest.rest result _ (first_seen open_parenthesis (lexemes_left c.args.tokens)) (λ v. perform (an_expression 15 behind) v.1) refl c.in_ok-rest.ensures
    (stops ReadAs (KeptAs bounds_of) c.in_err-first.field-0.0 result _ (take_expression 15 (lexemes_left c.in_ok-rest.rest)) (λ e. perform (behind e.0) e.1) refl c.in_err-first.ensures c.from_residual-in_err-first.ensures.1)

pub returns : goal.returns
returns c =
    let result = c.bounds_end_at.result in
    goes_known (KeptAs bounds_of) tt c.in_ok-rest.rest result _ (first_seen open_parenthesis (lexemes_left c.args.tokens)) (λ v. perform (an_expression 15 behind) v.1) refl c.in_ok-rest.ensures
    (goes ReadAs (KeptAs bounds_of) c.in_ok-first.first c.in_ok-first.rest result _ (take_expression 15 (lexemes_left c.in_ok-rest.rest)) (λ e. perform (behind e.0) e.1) refl c.in_ok-first.ensures c.bounds_end_at.ensures)
