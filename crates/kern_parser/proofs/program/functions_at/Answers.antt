use Rattle.std.proofs.Common.{◌∙◌, List, ap, map, sym}
use Rattle.kern_syntax.specs.TreeOf.{function_of}
use Rattle.kern_grammar.specs.BlockPlans.{function_phrase, function_plan, is_function, no_stop}
use Rattle.kern_grammar.specs.Plans.{run}
use Rattle.kern_grammar.proofs.FunctionFrom.{takes-function}
use Rattle.kern_grammar.proofs.ProgramReads.{function-begins}
use Rattle.kern_expressions.specs.Kept.{KeptAs}
use Rattle.kern_expressions.specs.TakenBy.{lexemes_left}
use Rattle.kern_statements.specs.Several.{several}
use Rattle.kern_statements.proofs.ManyLists.{an-item-ends, another-item, item_shorter, last-item, none-yet-of-several}
use Rattle.kern_parser.proofs.program.functions_at.Goals as goal

pub functions-init : goal.functions-init
functions-init c = none-yet-of-several (λ v. map function_of v.items) c.new.result is_function (run function_plan) (lexemes_left c.args.tokens) (ap (map function_of) c.new.ensures.items)

pub returns-in_err-function : goal.returns-in_err-function
returns-in_err-function c =
    an-item-ends (λ v. v.items) function_of is_function (run function_plan) c.functions.functions (lexemes_left c.functions.rest) (several is_function (run function_plan) (lexemes_left c.args.tokens)) c.functions.invariant c.in_err-function.field-0.0 c.from_residual.result c.in_err-function.ensures c.from_residual.ensures.1

pub functions-smaller : goal.functions-smaller
functions-smaller c =
    item_shorter (KeptAs function_of) function_phrase no_stop is_function (run function_plan) takes-function function-begins (lexemes_left c.functions.rest) c.in_ok-function.function c.in_ok-function.behind c.in_ok-function.ensures

pub functions-preserved : goal.functions-preserved
functions-preserved c =
    another-item (λ v. v.items) function_of function_phrase no_stop is_function (run function_plan) takes-function function-begins c.functions.functions (lexemes_left c.functions.rest) (several is_function (run function_plan) (lexemes_left c.args.tokens)) c.functions.invariant c.in_ok-function.function c.in_ok-function.behind c.in_ok-function.ensures
    c.pushed-functions.result c.pushed-functions.ensures (sym c.begins_function.ensures ∙ c.if-not-begins_function.false)

pub returns-then-not-begins_function : goal.returns-then-not-begins_function
returns-then-not-begins_function c =
    last-item (λ v. v.items) function_of is_function (run function_plan) c.functions.functions (lexemes_left c.functions.rest) (several is_function (run function_plan) (lexemes_left c.args.tokens)) c.functions.invariant c.in_ok-function.function c.in_ok-function.behind c.in_ok-function.ensures
    c.pushed-functions.result c.pushed-functions.ensures (sym c.begins_function.ensures ∙ c.if-not-begins_function.true)
