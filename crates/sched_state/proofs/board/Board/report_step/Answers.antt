use Rattle.std.proofs.Common.{◌≡◌, refl, sym, ◌∙◌, ap, subst}
use Rattle.std.specs.Prelude.{Option, Some, IsSome}
use Rattle.exp_runs.specs.declared.run.Run.{Run}
use Rattle.exp_runs.specs.Keys.{run_of}
use Rattle.sched_state.proofs.Moved.{found-number}
use Rattle.sched_state.proofs.board.Board.report_step.Goals as goal

pub run_step-requires-clause-run : goal.run_step-requires-clause-run
run_step-requires-clause-run c =
    let runs = c.rise.new.self.runs.runs in
    let run = c.in_ok-run.run' in
    let there : run_of runs c.args.rid ≡ Some run = c.in_ok-run.ensures.run in
    let own : run_of runs run.rid ≡ Some run = ap (run_of runs) (found-number runs c.args.rid run there) ∙ there in
    let P : Option Run → Type 0 = λ found. IsSome found in
    subst P (sym own) refl
