use Rattle.std.proofs.Common.{◌≡◌, ◌∙◌, [], drop, refl, subst, sym}
use Rattle.std.specs.List.{AllByRecursion}
use Rattle.std.proofs.Math.ListN.{drop_of_length-le}
use Rattle.std.proofs.lemmas.Bool.{false≢true}
use Rattle.kern_syntax.specs.TreeOf.{tree_of}
use Rattle.kern_expression_types.proofs.Lists.{drop-item}
use Rattle.sched_core.specs.Scheds.{HasCall}
use Rattle.lab_kits.specs.Calls.{HasCallOf}
use Rattle.lab_kits.proofs.Each.{each-next, each-stops}
use Rattle.lab_kits.proofs.calls.serves_all.Goals as goal

pub loop-step-preserved : goal.loop-step-preserved
loop-step-preserved c =
    let steps = c.args.steps.now in
    let i = c.loop-step.step-index in
    each-next (HasCall HasCallOf (tree_of c.args.compiled.now.0)) steps i c.step-item.result
    (drop-item steps i c.step-item.result c.loop-step-test.true c.step-item.is)
    c.loop-step.invariant
    (c.serves.ensures.0 c.if-not-serves.false)

pub returns-then-not-serves : goal.returns-then-not-serves
returns-then-not-serves c =
    let steps = c.args.steps.now in
    let i = c.loop-step.step-index in (
      λ so. absurd (false≢true so),
      λ all.
          absurd
          (each-stops (HasCall HasCallOf (tree_of c.args.compiled.now.0)) steps i c.step-item.result
          (drop-item steps i c.step-item.result c.loop-step-test.true c.step-item.is)
          c.loop-step.invariant
          (λ has. false≢true (sym c.if-not-serves.true ∙ c.serves.ensures.1 has))
          all),
    )

pub returns : goal.returns
returns c =
    let steps = c.args.steps.now in
    let none : drop c.loop-step.step-index steps ≡ [] = drop_of_length-le steps c.loop-step-test.false in
    (λ so. c.loop-step.invariant.0 (subst (AllByRecursion (HasCall HasCallOf (tree_of c.args.compiled.now.0))) (sym none) tt), λ all. refl)
