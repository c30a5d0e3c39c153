use Rattle.std.proofs.Common.{cond, sym, ◌∙◌, ap}
use Rattle.exp_runs.specs.declared.run.Status.TheVariants.{Deleted, Failed}
use Rattle.exp_runs.specs.Table.{with_status}
use Rattle.sched_state.specs.State.{with_run}
use Rattle.sched_state.specs.Boards.{state_with}
use Rattle.sched_state.proofs.Moves.{ok-map}
use Rattle.sched_state.proofs.Stored.{staged-doomed, staged-ends}
use Rattle.sched_state.proofs.board.Board.finish_stage.Goals as goal

pub returns-then-run-clause-state : goal.returns-then-run-clause-state
returns-then-run-clause-state c =
    let run = c.args.run.now in
    let datasets = c.args.datasets.now in
    ok-map c.set_status.result
    (λ b left.
    b.state left datasets ∙ ap (with_run (with_status Deleted) run.rid) (c.land.ensures.change.state left datasets)
    ∙ sym (staged-doomed c.args.steps.now c.args.next run (state_with left datasets c.args.self.now) c.if-run.true)) c.set_status.ensures

pub returns-clause-state : goal.returns-clause-state
returns-clause-state c =
    let run = c.args.run.now in
    let new = c.store_all.new.datasets in
    ok-map c.set_status-2.result
    (λ b left.
    b.state left new ∙ ap (with_run (with_status c.stage_status.result) run.rid) (c.land.ensures.change.state left new)
    ∙ staged-ends left c.args.self.now c.args.steps.now c.args.next run c.args.datasets.now new c.stage_status.result c.if-run.false
    (c.stage_status.ensures ∙ ap (λ b. cond b c.args.next Failed) c.in_ok-fine.ensures.0) c.in_ok-fine.ensures.1) c.set_status-2.ensures
