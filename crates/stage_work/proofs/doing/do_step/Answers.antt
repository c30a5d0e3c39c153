use Rattle.std.proofs.Common.{subst}
use Rattle.lab_ties.specs.DoesAs.{DoesAs}
use Rattle.lab_kits.specs.Kits.{program_in}
use Rattle.stage_work.specs.declared.tasks.Task.TheVariants.{Step}
use Rattle.stage_work.specs.Doing.{LeavesPlaces}
use Rattle.stage_work.proofs.Done.{has-call, may-start, on-err, step-done}
use Rattle.stage_work.proofs.doing.do_step.Goals as goal

pub start_for-start-requires : goal.start_for-start-requires
start_for-start-requires g c = has-call c.args.session.now c.requires.is.0 c.args.task c.requires.is.1

pub run_start-requires-clause-start : goal.run_start-requires-clause-start
run_start-requires-clause-start g c = may-start c.args.task.kit c.args.task.rid c.args.task.pos c.args.task.step _ c.start_for-start.ensures

pub returns-clause-done : goal.returns-clause-done
returns-clause-done g c =
    let does = subst (DoesAs (program_in c.args.task.kit)) c.code-does.ensures.kept c.code-does.ensures.does in
    step-done (g.R.Runner.has_run c.args.runner.now) c.args.session.now c.args.task _ c.in_ok-ran.ran c.args.places.now c.run_start.new.places
    does c.start_for-start.ensures c.in_ok-ran.ensures.ran

pub returns-in_err-ran-clause-left : goal.returns-in_err-ran-clause-left
returns-in_err-ran-clause-left g c =
    let left : LeavesPlaces (g.R.Runner.has_run c.args.runner.now) (g.R.Runner.is_cut c.args.runner.now) (Step c.args.task) c.args.places.now c.run_start.new.places =
    (c.start_for-start.result, c.start_for-start.ensures, c.in_err-ran.ensures.left) in
    on-err _ _ left
