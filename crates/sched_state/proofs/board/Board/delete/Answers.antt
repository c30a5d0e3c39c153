use Rattle.std.proofs.Common.{◌≡◌, List, false, sym, ◌∙◌, ap}
use Rattle.std.specs.Prelude.{Some}
use Rattle.std.specs.Option.{option_copied}
use Rattle.sched_state.specs.declared.entry.Flight.{Flight}
use Rattle.exp_runs.specs.Keys.{run_of}
use Rattle.exp_runs.specs.Statuses.{is_ended}
use Rattle.sched_state.specs.Arrivals.{is_busy}
use Rattle.sched_state.specs.Boards.{state_with}
use Rattle.sched_state.proofs.Moves.{ok-map, deleted-at}
use Rattle.sched_state.proofs.board.Board.delete.Goals as goal

pub returns : goal.returns
returns c =
    let run = c.in-Some.run'.now in
    let there : run_of c.args.self.now.runs.runs c.args.rid ≡ Some run = sym c.get.ensures ∙ ap option_copied c.in-Some.is in
    let lives : is_ended run.status ≡ false = sym c.has_ended.ensures ∙ c.if-has_ended.false in
    let idle : is_busy c.args.self.now.flying.items run ≡ false = ap (λ (f : List Flight). is_busy f run) (sym c.deref.ensures.value) ∙ sym c.is_at_work.ensures ∙ c.if-is_at_work.false in
    ok-map c.set_off_stack.result (λ b.
    record {
      state = λ left datasets. b.state left datasets ∙ sym (deleted-at c.args.rid (state_with left datasets c.args.self.now) run there lives idle);
      taken = b.taken;
      pipelines = b.pipelines;
    }) c.set_off_stack.ensures
