use Rattle.std.proofs.Common.{◌<◌, Bool, length, sym, ◌∙◌, subst, arith}
use Rattle.sched_state.specs.Boards.{IsStored}
use Rattle.sched_state.specs.Datasets.{changes_by}
use Rattle.sched_state.proofs.Stored.{stage-done, stage-failed}
use Rattle.sched_state.proofs.storing.store_all.Goals as goal

pub returns-then-not-branch : goal.returns-then-not-branch
returns-then-not-branch c =
    let P : Bool → Type 0 = λ b. IsStored (changes_by c.step-item.result c.loop-step.datasets) b c.loop-step.datasets c.store.new.datasets in
    let within : c.loop-step.step-index < length c.args.steps.now = omega arith in
    let end = stage-failed c.args.steps.now c.loop-step.step-index c.step-item.result c.loop-step.datasets c.store.new.datasets within c.step-item.is (subst P c.if-not-branch.true c.in_ok-store.ensures) in
    (sym end.0 ∙ c.loop-step.invariant.fine, sym end.1 ∙ c.loop-step.invariant.changes)

pub loop-step-preserved : goal.loop-step-preserved
loop-step-preserved c =
    let P : Bool → Type 0 = λ b. IsStored (changes_by c.step-item.result c.loop-step.datasets) b c.loop-step.datasets c.store.new.datasets in
    let within : c.loop-step.step-index < length c.args.steps.now = omega arith in
    let done = stage-done c.args.steps.now c.loop-step.step-index c.step-item.result c.loop-step.datasets c.store.new.datasets within c.step-item.is (subst P c.if-not-branch.false c.in_ok-store.ensures) in
    record {
      fine = done.0 ∙ c.loop-step.invariant.fine;
      changes = done.1 ∙ c.loop-step.invariant.changes;
    }
