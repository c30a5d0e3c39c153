use Rattle.std.proofs.Common.{sym, ◌∙◌}
use Rattle.sched_state.specs.Boards.{state_with}
use Rattle.sched_state.proofs.Moves.{ok-map}
use Rattle.sched_state.proofs.Stepped.{settle-off, settle-on}
use Rattle.sched_state.proofs.board.Board.settle.Goals as goal

pub returns-then-is_stacked : goal.returns-then-is_stacked
returns-then-is_stacked c =
    ok-map c.set_status.result (λ b.
    record {
      state = λ left datasets.
          b.state left datasets
          ∙ sym (settle-on c.args.status c.args.rid (state_with left datasets c.args.self.now) (sym c.is_stacked.ensures ∙ c.if-is_stacked.true));
      taken = b.taken;
      pipelines = b.pipelines;
    }) c.set_status.ensures

pub returns-else-is_stacked : goal.returns-else-is_stacked
returns-else-is_stacked c =
    ok-map c.set_off_stack.result (λ b.
    record {
      state = λ left datasets.
          b.state left datasets
          ∙ sym (settle-off c.args.status c.args.rid (state_with left datasets c.args.self.now) (sym c.is_stacked.ensures ∙ c.if-is_stacked.false));
      taken = b.taken;
      pipelines = b.pipelines;
    }) c.set_off_stack.ensures
