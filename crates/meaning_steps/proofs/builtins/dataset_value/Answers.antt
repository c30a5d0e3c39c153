use Rattle.std.proofs.Common.{◌≡◌, IfOk, ap, subst, sym, ◌∙◌}
use Rattle.std.specs.Int.{w64}
use Rattle.std.proofs.lemmas.Int.{to_z-of_z}
use Rattle.rtio_types.specs.declared.request.Value.TheVariants as W
use Rattle.kern_syntax.specs.TreeOf.{arguments_of}
use Rattle.kern_names.specs.ScopeOf.{scope_of}
use Rattle.timeline_sem.specs.Actions.{normal}
use Rattle.timeline_sem.specs.Expressions.{value_of}
use Rattle.meaning_steps.proofs.Datasets.{array_given_if, number_given}
use Rattle.meaning_steps.proofs.builtins.dataset_value.Goals as goal

pub returns-in-Some : goal.returns-in-Some
returns-in-Some c =
    let s = c.args.state.now in
    array_given_if c.value.result (scope_of c.args.scope.now) (arguments_of c.args.arguments.now) c.args.number s c.in-Some.array.now c.in-Some.ensures
    (subst (λ x. IfOk c.value.result (λ value. value ≡ value_of s.values x)) c.bytes.ensures c.value.ensures)

pub returns-in-None : goal.returns-in-None
returns-in-None c =
    let s = c.args.state.now in
    number_given (scope_of c.args.scope.now) (arguments_of c.args.arguments.now) c.args.number s c.in-None.ensures
    ∙ ap (λ n. normal (W.Int n) s) (sym (to_z-of_z w64 c.args.number c.ranges.number))
