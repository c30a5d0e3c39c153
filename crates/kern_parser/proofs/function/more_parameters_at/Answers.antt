use Rattle.std.proofs.Common.{◌∙◌, List, ap, map, sym}
use Rattle.kern_syntax.specs.TreeOf.{parameter_of}
use Rattle.kern_grammar.specs.BlockPlans.{comma_parameter, is_comma, no_stop}
use Rattle.kern_grammar.specs.Plans.{Spells, many, run}
use Rattle.kern_grammar.proofs.FunctionReads.{parameter-begins, takes-parameter}
use Rattle.kern_expressions.specs.Kept.{KeptAs}
use Rattle.kern_expressions.specs.TakenBy.{lexemes_left}
use Rattle.kern_statements.proofs.ManyLists.{item-ends, item_shorter, no-more, none-yet, one-more}
use Rattle.kern_parser.proofs.function.more_parameters_at.Goals as goal

pub items-init : goal.items-init
items-init c = none-yet (λ v. map parameter_of v.items) c.new.result is_comma (run comma_parameter) (lexemes_left c.args.tokens) (ap (map parameter_of) c.new.ensures.items)

pub returns-in_err-parameter : goal.returns-in_err-parameter
returns-in_err-parameter c =
    let begins = sym c.begins_with_comma.ensures ∙ c.items-test.true in
    let whole = many is_comma (run comma_parameter) (lexemes_left c.args.tokens) in
    item-ends (λ v. map parameter_of v.items) (KeptAs parameter_of) c.items.parameters is_comma (run comma_parameter) (lexemes_left c.items.rest) whole c.items.invariant begins c.in_err-parameter.field-0.0 c.from_residual.result c.in_err-parameter.ensures c.from_residual.ensures.1

pub items-smaller : goal.items-smaller
items-smaller c =
    item_shorter (KeptAs parameter_of) (Spells comma_parameter) no_stop is_comma (run comma_parameter) takes-parameter parameter-begins (lexemes_left c.items.rest) c.in_ok-parameter.parameter c.in_ok-parameter.behind c.in_ok-parameter.ensures

pub items-preserved : goal.items-preserved
items-preserved c =
    let whole = many is_comma (run comma_parameter) (lexemes_left c.args.tokens) in
    one-more (λ v. v.items) parameter_of (KeptAs parameter_of) (Spells comma_parameter) no_stop is_comma (run comma_parameter) takes-parameter parameter-begins c.items.parameters (lexemes_left c.items.rest) whole c.items.invariant c.in_ok-parameter.parameter c.in_ok-parameter.behind c.in_ok-parameter.ensures c.in_ok-parameter.parameter c.pushed-parameters.result (λ y k. k) c.pushed-parameters.ensures

pub returns : goal.returns
returns c =
    let whole = many is_comma (run comma_parameter) (lexemes_left c.args.tokens) in
    no-more (λ v. map parameter_of v.items) c.items.parameters is_comma (run comma_parameter) c.items.rest whole c.items.invariant (sym c.begins_with_comma.ensures ∙ c.items-test.false)
