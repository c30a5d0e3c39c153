use Rattle.std.proofs.Common.{sym, ◌∙◌, ap}
use Rattle.sched_state.specs.Arrivals.{arrived}
use Rattle.sched_state.specs.Boards.{state_with}
use Rattle.sched_state.proofs.Moves.{ok-map}
use Rattle.sched_state.proofs.board.Board.arrive.Goals as goal

pub returns-in-Submit : goal.returns-in-Submit
returns-in-Submit c =
    ok-map c.submit.result (λ b.
    record {
      state = λ left datasets. b.state left datasets ∙ ap (arrived (state_with left datasets c.args.self.now)) (sym c.in-Submit.is);
      taken = b.taken;
      pipelines = b.pipelines;
    }) c.submit.ensures
