use Rattle.std.proofs.Common.{subst}
use Rattle.std.proofs.lemmas.Result.{on_ok_weaker}
use Rattle.exp_model.specs.declared.session.Session.{Session}
use Rattle.exp_model.specs.Sessions.{is_session}
use Rattle.std.specs.Prelude.{IsTrue}
use Rattle.stage_work.specs.Serving.{OwnCuts, OwnRuns}
use Rattle.stage_work.specs.Tasks.{IsTaskIn}
use Rattle.stage_work.proofs.Done.{done-left, on-err}
use Rattle.stage_work.proofs.Jobs.{cores-reported, flies-told, has-reported, may-do, right-told}
use Rattle.stage_work.proofs.serving.do_job.Goals as goal

pub do_task-requires-clause-session : goal.do_task-requires-clause-session
do_task-requires-clause-session g c =
    let I : Session → Type 0 = λ s. IsTrue (is_session s) in subst I c.requires.session c.history-known.ensures.sched.session

pub do_task-requires-clause-is : goal.do_task-requires-clause-is
do_task-requires-clause-is g c =
    let T : Session → Type 0 = λ s. IsTaskIn s c.args.sched.now.history c.args.task in (c.args.sched.now.history, subst T c.requires.session c.requires.is)

pub do_task-requires-clause-may : goal.do_task-requires-clause-may
do_task-requires-clause-may g c =
    may-do c.args.session.now c.args.sched.now c.args.task c.args.cores.now c.requires.session c.history-known.ensures.sched c.requires.flies c.requires.is
    c.requires.cores

pub write_report-requires-clause-flies : goal.write_report-requires-clause-flies
write_report-requires-clause-flies g c =
    flies-told c.args.sched.now c.args.task c.in_ok-report.report c.in_ok-report.ensures.done.tells c.requires.flies

pub write_report-requires-clause-right : goal.write_report-requires-clause-right
write_report-requires-clause-right g c =
    right-told c.args.session.now c.args.sched.now c.args.task c.in_ok-report.report c.requires.session c.requires.is c.in_ok-report.ensures.done.right

pub returns-clause-reports : goal.returns-clause-reports
returns-clause-reports g c =
    on_ok_weaker c.write_report.result
    (has-reported c.args.task c.args.sched.now c.write_report.new.sched c.in_ok-report.report c.in_ok-report.ensures.done.tells
    (right-told c.args.session.now c.args.sched.now c.args.task c.in_ok-report.report c.requires.session c.requires.is c.in_ok-report.ensures.done.right))
    c.write_report.ensures.ok

-- the core of a step's pipeline stands as before it again, and so do the others
pub returns-clause-cores : goal.returns-clause-cores
returns-clause-cores g c =
    on_ok_weaker c.write_report.result
    (λ went.
    cores-reported c.args.session.now c.args.task c.args.sched.now c.write_report.new.sched c.in_ok-report.report c.args.cores.now c.do_task.new.places
    c.requires.session c.requires.is c.in_ok-report.ensures.done went c.requires.cores)
    c.write_report.ensures.ok

-- there was no memory for its report
pub returns-clause-left : goal.returns-clause-left
returns-clause-left g c =
    on-err c.write_report.result _
    (done-left (OwnRuns c.args.session.now.budget) (OwnCuts c.args.session.now.budget) c.args.session.now c.args.task c.in_ok-report.report c.args.cores.now
    c.do_task.new.places c.in_ok-report.ensures.done)
