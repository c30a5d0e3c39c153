use Rattle.std.proofs.Common.{◌∙◌, ap}
use Rattle.exp_runs.specs.Table.{with_status}
use Rattle.sched_state.specs.State.{with_run}
use Rattle.sched_state.specs.Boards.{state_with}
use Rattle.sched_state.proofs.Moves.{ok-map}
use Rattle.sched_state.proofs.Stored.{refused-is}
use Rattle.sched_state.proofs.board.Board.refuse.Goals as goal

pub returns : goal.returns
returns c =
    let run = c.args.run.now in
    ok-map c.set_status.result
    (λ b.
    record {
      state = λ left datasets.
          b.state left datasets ∙ ap (with_run (with_status c.refused_status.result) run.rid) (c.land.ensures.change.state left datasets)
          ∙ refused-is run (state_with left datasets c.args.self.now) c.refused_status.result c.requires c.refused_status.ensures;
      taken = b.taken ∙ c.land.ensures.change.taken;
      pipelines = b.pipelines ∙ c.land.ensures.change.pipelines;
    }) c.set_status.ensures
