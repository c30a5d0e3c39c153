use Rattle.std.proofs.Common.{◌≡◌, List, length, ◌∙◌, ap}
use Rattle.exp_runs.specs.declared.run.Status.{Status}
use Rattle.exp_model.specs.declared.step.HostStep.{HostStep}
use Rattle.sched_state.specs.State.{landed}
use Rattle.sched_state.specs.Boards.{state_with}
use Rattle.sched_state.specs.Reports.{run_steps, settle, status_then}
use Rattle.sched_state.proofs.Moves.{ok-map}
use Rattle.sched_state.proofs.board.Board.finish_step.Goals as goal

pub returns : goal.returns
returns c =
    let run = c.args.run.now in
    let end = c.args.end in
    let is : c.status_then-next.result ≡ status_then end.status run.pos (length (run_steps c.args.session.now run)) =
    c.status_then-next.ensures ∙ ap (λ (steps : List HostStep). status_then end.status run.pos (length steps)) c.run_steps.ensures in
    ok-map c.settle.result (λ b.
    record {
      state = λ left datasets.
          b.state left datasets ∙ ap (settle c.status_then-next.result run.rid) (c.land.ensures.change.state left datasets)
          ∙ ap (λ (s : Status). settle s run.rid (landed run.rid (state_with left datasets c.args.self.now))) is;
      taken = b.taken ∙ c.land.ensures.change.taken;
      pipelines = b.pipelines ∙ c.land.ensures.change.pipelines;
    }) c.settle.ensures
