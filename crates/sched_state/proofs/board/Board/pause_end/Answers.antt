use Rattle.std.proofs.Common.{Bool, false, cond, length, sym, ◌∙◌, ap}
use Rattle.std.specs.Prelude.{nat_lt, ◌&&◌}
use Rattle.exp_runs.specs.declared.run.Status.TheVariants as status
use Rattle.exp_runs.specs.Keys.{some_higher}
use Rattle.sched_state.specs.declared.entry.StepWord.TheVariants as word
use Rattle.sched_state.specs.Reports.{Effect, goes_on, run_steps}
use Rattle.sched_state.specs.Boards.{state_with}
use Rattle.sched_state.proofs.Stepped.{at-pause}
use Rattle.sched_state.proofs.board.Board.pause_end.Goals as goal

pub returns : goal.returns
returns c = λ left datasets.
    let state = state_with left datasets c.args.self.now in
    c.goes_on.ensures state ∙ sym (at-pause c.args.session.now c.args.run.now false state c.if-run.false (sym c.lends.ensures ∙ c.if-lends.false))

pub returns-then-run : goal.returns-then-run
returns-then-run c = λ left datasets.
    let state = state_with left datasets c.args.self.now in
    let lent : Effect = record { word = word.Paused; status = status.Paused; state = state } in
    let ends : Effect = record { word = word.Terminated; status = status.Terminated; state = state } in
    let run = c.args.run.now in
    let lends : Bool = nat_lt run.pos (length (run_steps c.args.session.now run)) && some_higher state.runs run.rid state.clock in
    c.terminated.ensures state ∙ sym (ap (λ (b : Bool). cond b ends (cond lends lent (goes_on state))) c.if-run.true)
