use Rattle.std.proofs.Common.{Bool, cond, sym, ◌∙◌, ap}
use Rattle.exp_runs.specs.declared.run.Status.TheVariants as status
use Rattle.sched_state.specs.declared.entry.StepWord.TheVariants as word
use Rattle.sched_state.specs.Reports.{Effect, goes_on}
use Rattle.sched_state.proofs.ending.check_end.Goals as goal

pub returns-then-run : goal.returns-then-run
returns-then-run c = λ state.
    let ends : Effect = record { word = word.Terminated; status = status.Terminated; state = state } in
    c.terminated.ensures state ∙ sym (ap (λ (b : Bool). cond b ends (goes_on state)) c.if-run.true)

pub returns-else-run : goal.returns-else-run
returns-else-run c = λ state.
    let ends : Effect = record { word = word.Terminated; status = status.Terminated; state = state } in
    c.goes_on.ensures state ∙ sym (ap (λ (b : Bool). cond b ends (goes_on state)) c.if-run.false)
