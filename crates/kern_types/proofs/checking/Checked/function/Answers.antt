use Rattle.std.proofs.Common.{◌<◌, sym, ◌∙◌, ap, subst, arith}
use Rattle.kern_syntax.specs.TreeOf.{tree_of}
use Rattle.kern_types.specs.Programs.{IsTyped, place_of_function}
use Rattle.kern_types.proofs.Places.{few-places, place-in-tree}
use Rattle.kern_types.proofs.checking.Checked.function.Goals as goal

pub returns-in_err-place : goal.returns-in_err-place
returns-in_err-place c =
    c.from_residual.ensures
    ∙ c.in_err-place.ensures
    ∙ place-in-tree c.functions.result.now c.args.name.now
    ∙ ap (λ fs. place_of_function (tree_of fs) c.args.name.now) (c.functions.ensures ∙ c.self.view_is)

pub overflow_cast-result : goal.overflow_cast-result
overflow_cast-result c =
    let typed = subst (λ fs. IsTyped (tree_of fs)) (sym c.functions.ensures) c.self.invariant.typed in
    let few : c.in_ok-place.place < 256 = few-places c.functions.result.now c.args.name.now c.in_ok-place.place typed (sym c.in_ok-place.ensures) in
    omega (arith, few)

pub returns : goal.returns
returns c =
    c.in_ok-place.ensures
    ∙ place-in-tree c.functions.result.now c.args.name.now
    ∙ ap (λ fs. place_of_function (tree_of fs) c.args.name.now) (c.functions.ensures ∙ c.self.view_is)
