use Rattle.std.proofs.Common.{rules, ◌≡◌, ◌+◌, length, drop, subst, sym, ap, ◌∙◌}
use Rattle.std.specs.Option.{option_or}
use Rattle.std.proofs.lemmas.List.{drop_all}
use Rattle.kern_syntax.specs.declared.expression.Argument.TheFolds.{the_lemmas}
use Rattle.kern_syntax.specs.Tree.{call, method, no_more}
use Rattle.kern_syntax.specs.TreeOf.{expression_of, arguments_of, argument_of}
use Rattle.kern_calls.specs.Calls.{builtin_named, object_named}
use Rattle.kern_expression_types.specs.Answers.{Finds}
use Rattle.kern_expression_types.specs.Expressions.{expression_verdict, arguments_verdict, argument_verdict, named_verdict, method_verdict}
use Rattle.kern_expression_types.specs.KnownOf.{functions_of}
use Rattle.kern_expression_types.specs.Misfits.{called_verdict, callee_verdict, counted_verdict, first_misfit, mapped, taken_by}
use Rattle.kern_expression_types.specs.Verdicts.{well, ◌>>=◌}
use Rattle.kern_expression_types.proofs.Bound.{argument-read, arguments-counted}
use Rattle.kern_expression_types.proofs.Lists.{drop-item}
use Rattle.kern_expression_types.proofs.Misfits.{bind-same, call-read, misfit_after, misfit_after-all, misfit_there}
use Rattle.kern_expression_types.proofs.expressions.+expressions.Goals as goal

pub check_arguments-loop-number-preserved : goal.check_arguments-loop-number-preserved
check_arguments-loop-number-preserved t c =
    let functions = functions_of c.args.known.now in
    let place = c.args.place in
    let names = c.args.names.now in
    let wanted = taken_by c.args.callee.now in
    let arguments = c.args.arguments.now in
    let i = c.loop-number.number in
    let found = c.loop-number.found in
    let item = c.index-arguments-number.result in
    let a = c.in_ok-given.given in
    let rest = arguments_of (drop (i + 1) arguments) in
    let next : arguments_of (drop i arguments) ≡ argument_of item rest = ap arguments_of (drop-item arguments i item c.loop-number-test.true c.index-arguments-number.is) in
    let given : argument_verdict functions place names (argument_of item no_more) ≡ well a = search rules in
    let more : c.or-found.result ≡ option_or found (misfit_there wanted i a) = c.or-found.ensures ∙ ap (option_or found) c.misfit_at.ensures in
    argument-read functions place names item rest _ found wanted i a (c.loop-number.invariant ∙ ap (λ left. mapped (misfit_after found wanted i) (arguments_verdict functions place names left)) next) given
    ∙ ap (λ now. mapped (misfit_after now wanted (i + 1)) (arguments_verdict functions place names rest)) (sym more)

pub check_arguments-returns : goal.check_arguments-returns
check_arguments-returns t c =
    let functions = functions_of c.args.known.now in
    let wanted = taken_by c.args.callee.now in
    let arguments = c.args.arguments.now in
    let i = c.loop-number.number in
    let found = c.loop-number.found in
    c.loop-number.invariant
    ∙ ap (λ left. mapped (misfit_after found wanted i) (arguments_verdict functions c.args.place c.args.names.now (arguments_of left))) (drop_all i arguments c.loop-number-test.false)
    ∙ ap well (misfit_after-all found wanted i)

pub check_call-returns : goal.check_call-returns
check_call-returns t c =
    let functions = functions_of c.args.known.now in
    let place = c.args.place in
    let names = c.args.names.now in
    let callee = c.args.callee.now in
    let arguments = c.args.arguments.now in
    let found : mapped (first_misfit (taken_by callee)) (arguments_verdict functions place names (arguments_of arguments)) ≡ well c.in_ok-misfit.misfit = search rules in
    let same : called_verdict functions place names callee (arguments_of arguments) ≡ counted_verdict place callee (length arguments) c.in_ok-misfit.misfit = call-read place callee (arguments_verdict functions place names (arguments_of arguments)) (length arguments) c.in_ok-misfit.misfit (arguments-counted functions place names arguments) found in
    subst (Finds c.check_counted.result) (sym same) c.check_counted.ensures

pub check_expression-returns-in-Call : goal.check_expression-returns-in-Call
check_expression-returns-in-Call t c =
    let functions = functions_of c.args.known.now in
    let place = c.args.place in
    let names = c.args.names.now in
    let arm = c.in-Call in
    let callee = c.function_called-callee.result in
    let arguments = arguments_of arm.arguments.items in
    let tree : expression_of c.args.e.now ≡ call arm.function arguments = search (rules, the_lemmas) in
    let read : arguments_of c.deref-in-Call.result.now ≡ arguments = ap arguments_of c.deref-in-Call.ensures.value in
    let of_name : called_verdict functions place names callee arguments ≡ (arguments_verdict functions place names arguments >>= named_verdict functions place arm.function (builtin_named arm.function)) = bind-same (arguments_verdict functions place names arguments) (callee_verdict place callee) (named_verdict functions place arm.function (builtin_named arm.function)) (λ given. c.function_called-callee.ensures place given ∙ ap (λ x. named_verdict functions place x (builtin_named x) given) c.bytes-in-Call.ensures) in
    let whole : expression_verdict functions place names (expression_of c.args.e.now) ≡ called_verdict functions place names callee (arguments_of c.deref-in-Call.result.now) = ap (expression_verdict functions place names) tree ∙ sym of_name ∙ ap (called_verdict functions place names callee) (sym read) in
    subst (Finds c.check_call.result) (sym whole) c.check_call.ensures

pub check_expression-returns-in-Method : goal.check_expression-returns-in-Method
check_expression-returns-in-Method t c =
    let functions = functions_of c.args.known.now in
    let place = c.args.place in
    let names = c.args.names.now in
    let arm = c.in-Method in
    let callee = c.method_called-callee.result in
    let arguments = arguments_of arm.arguments.items in
    let tree : expression_of c.args.e.now ≡ method arm.object arm.method arguments = search (rules, the_lemmas) in
    let read : arguments_of c.deref-in-Method.result.now ≡ arguments = ap arguments_of c.deref-in-Method.ensures.value in
    let of_name : called_verdict functions place names callee arguments ≡ (arguments_verdict functions place names arguments >>= method_verdict place (object_named arm.object) arm.method) = bind-same (arguments_verdict functions place names arguments) (callee_verdict place callee) (method_verdict place (object_named arm.object) arm.method) (λ given. c.method_called-callee.ensures place given ∙ ap (λ x. method_verdict place (object_named x) c.bytes-in-Method-2.result.now given) c.bytes-in-Method.ensures ∙ ap (λ m. method_verdict place (object_named arm.object) m given) c.bytes-in-Method-2.ensures) in
    let whole : expression_verdict functions place names (expression_of c.args.e.now) ≡ called_verdict functions place names callee (arguments_of c.deref-in-Method.result.now) = ap (expression_verdict functions place names) tree ∙ sym of_name ∙ ap (called_verdict functions place names callee) (sym read) in
    subst (Finds c.check_call-in-Method.result) (sym whole) c.check_call-in-Method.ensures
