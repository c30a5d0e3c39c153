use Rattle.std.proofs.Common.{◌∙◌, ap, subst, List}
use Rattle.kern_syntax.specs.declared.program.Function.{Function}
use Rattle.kern_syntax.specs.TreeOf.{tree_of}
use Rattle.kern_types.specs.Programs.{IsTyped, place_of_function}
use Rattle.lab_kits.proofs.Named.{place-takes, place-there}
use Rattle.lab_kits.proofs.calls.function_of.Goals as goal

pub returns-clause-there : goal.returns-clause-there
returns-clause-there c =
    λ args has.
    place-there (tree_of c.args.compiled.now.0) c.args.name.now c.function.result
    (c.function.ensures ∙ ap (λ (fs : List Function). place_of_function (tree_of fs) c.args.name.now) c.checked-checked.ensures.kept)
    (subst (λ (fs : List Function). IsTyped (tree_of fs)) (c.program-typed.ensures.kept ∙ c.checked-checked.ensures.kept) c.program-typed.ensures.typed)
    args has

pub returns-clause-takes : goal.returns-clause-takes
returns-clause-takes c =
    λ args has.
    place-takes (tree_of c.args.compiled.now.0) c.args.name.now c.function.result
    (c.function.ensures ∙ ap (λ (fs : List Function). place_of_function (tree_of fs) c.args.name.now) c.checked-checked.ensures.kept)
    (subst (λ (fs : List Function). IsTyped (tree_of fs)) (c.program-typed.ensures.kept ∙ c.checked-checked.ensures.kept) c.program-typed.ensures.typed)
    args has
