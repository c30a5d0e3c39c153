use Rattle.std.proofs.Common.{rules, ◌≡◌, ◌+◌, ◌∷◌, drop, map, subst, sym, ap, ◌∙◌}
use Rattle.std.specs.Option.{option_or}
use Rattle.std.proofs.lemmas.List.{drop_all}
use Rattle.kern_syntax.specs.TreeOf.{expression_of}
use Rattle.kern_expression_types.specs.Answers.{Finds}
use Rattle.kern_expression_types.specs.Expressions.{expression_verdict, elements_verdict}
use Rattle.kern_expression_types.specs.Fits.{misfit}
use Rattle.kern_expression_types.specs.KnownOf.{functions_of}
use Rattle.kern_expression_types.specs.Misfits.{fitting_elements_verdict, mapped, misfit_of_each}
use Rattle.kern_expression_types.specs.Verdicts.{well, refuse_some}
use Rattle.kern_expression_types.proofs.Bound.{element-read}
use Rattle.kern_expression_types.proofs.Lists.{drop-item}
use Rattle.kern_expression_types.proofs.Misfits.{each-read, each_after, each_after-all}
use Rattle.kern_expression_types.proofs.expressions.check_elements.Goals as goal

pub loop-element-preserved : goal.loop-element-preserved
loop-element-preserved c =
    let functions = functions_of c.args.known.now in
    let place = c.args.place in
    let names = c.args.names.now in
    let wanted = c.args.wanted in
    let elements = c.args.elements.now in
    let i = c.loop-element.element-index in
    let found = c.loop-element.found in
    let item = c.element-item.result in
    let a = c.in_ok-given.given in
    let rest = map expression_of (drop (i + 1) elements) in
    let next : map expression_of (drop i elements) ≡ expression_of item ∷ rest = ap (map expression_of) (drop-item elements i item c.loop-element-test.true c.element-item.is) in
    let given : expression_verdict functions place names (expression_of item) ≡ well a = search rules in
    let more : c.or-found.result ≡ option_or found (misfit wanted a) = c.or-found.ensures ∙ ap (option_or found) c.misfit.ensures in
    element-read functions place names (expression_of item) rest _ found wanted a (c.loop-element.invariant ∙ ap (λ left. mapped (each_after found wanted) (elements_verdict functions place names left)) next) given
    ∙ ap (λ now. mapped (each_after now wanted) (elements_verdict functions place names rest)) (sym more)

pub returns : goal.returns
returns c =
    let functions = functions_of c.args.known.now in
    let place = c.args.place in
    let names = c.args.names.now in
    let wanted = c.args.wanted in
    let elements = c.args.elements.now in
    let i = c.loop-element.element-index in
    let found = c.loop-element.found in
    let looked : mapped (misfit_of_each wanted) (elements_verdict functions place names (map expression_of elements)) ≡ well found = c.loop-element.invariant ∙ ap (λ left. mapped (each_after found wanted) (elements_verdict functions place names (map expression_of left))) (drop_all i elements c.loop-element-test.false) ∙ ap well (each_after-all found wanted) in
    let whole : fitting_elements_verdict functions place names wanted (map expression_of elements) ≡ refuse_some found place.line = each-read place.line wanted (elements_verdict functions place names (map expression_of elements)) found looked in
    subst (Finds c.refuse_some.result) (sym whole) c.refuse_some.ensures
