use Rattle.std.proofs.Common.{subst}
use Rattle.std.proofs.lemmas.Result.{IfOk-weaker, on_err_weaker}
use Rattle.stage_work.specs.declared.tasks.Task.{Task}
use Rattle.stage_work.specs.declared.tasks.Task.TheVariants as task
use Rattle.stage_work.specs.Doing.{HasTask, MayDo}
use Rattle.stage_work.proofs.Done.{analyzed-done, done-as, left-as, nothing-left, on-err, prepared-done}
use Rattle.stage_work.proofs.doing.do_task.Goals as goal

pub do_step-requires-clause-is : goal.do_step-requires-clause-is
do_step-requires-clause-is g c = subst (HasTask c.args.session.now) c.in-Step.is c.requires.is

pub do_step-requires-clause-may : goal.do_step-requires-clause-may
do_step-requires-clause-may g c =
    let M : Task → Type 0 = λ t. MayDo (g.R.Runner.may_run c.args.runner.now) t c.args.places.now in subst M c.in-Step.is c.requires.may

pub returns-in-Prepare-clause-done : goal.returns-in-Prepare-clause-done
returns-in-Prepare-clause-done g c =
    IfOk-weaker c.prepare_run.result _ _
    (λ told prepared.
    done-as (g.R.Runner.has_run c.args.runner.now) c.args.session.now (task.Prepare c.in-Prepare.rid c.in-Prepare.run') c.args.task told _ _ c.in-Prepare.is
    (prepared-done (g.R.Runner.has_run c.args.runner.now) c.args.session.now c.in-Prepare.rid c.in-Prepare.run' told _ prepared))
    c.prepare_run.ensures

pub returns-in-Prepare-clause-left : goal.returns-in-Prepare-clause-left
returns-in-Prepare-clause-left g c =
    on-err _ _
    (nothing-left (g.R.Runner.has_run c.args.runner.now) (g.R.Runner.is_cut c.args.runner.now) c.args.task c.in-Prepare.rid c.in-Prepare.run' c.args.places.now
    c.in-Prepare.is)

pub returns-in-Step-clause-done : goal.returns-in-Step-clause-done
returns-in-Step-clause-done g c =
    IfOk-weaker c.do_step.result _ _
    (λ told. done-as (g.R.Runner.has_run c.args.runner.now) c.args.session.now (task.Step c.in-Step.step) c.args.task told _ _ c.in-Step.is)
    c.do_step.ensures.done

pub returns-in-Step-clause-left : goal.returns-in-Step-clause-left
returns-in-Step-clause-left g c =
    on_err_weaker c.do_step.result
    (left-as (g.R.Runner.has_run c.args.runner.now) (g.R.Runner.is_cut c.args.runner.now) (task.Step c.in-Step.step) c.args.task _ _ c.in-Step.is)
    c.do_step.ensures.left

pub returns-in-Analyze-clause-done : goal.returns-in-Analyze-clause-done
returns-in-Analyze-clause-done g c =
    done-as (g.R.Runner.has_run c.args.runner.now) c.args.session.now (task.Analyze c.in-Analyze.rid) c.args.task _ _ _ c.in-Analyze.is
    (analyzed-done (g.R.Runner.has_run c.args.runner.now) c.args.session.now c.in-Analyze.rid c.args.places.now)
