use Rattle.std.proofs.Common.{inl, inr}
use Rattle.stage_work.specs.Tasks.{job_of}
use Rattle.stage_work.proofs.Done.{on-err}
use Rattle.stage_work.proofs.Jobs.{left-after, left-before}
use Rattle.stage_work.proofs.Jobs.{next-cores, next-fewer, next-finished, next-flies, next-job, next-not-idle, next-not-stopped, next-over, next-taken}
use Rattle.stage_work.proofs.Scheds.{reported-served}
use Rattle.stage_work.proofs.serving.serve_next.Goals as goal

pub returns-in_err-next-clause-left : goal.returns-in_err-next-clause-left
returns-in_err-next-clause-left g c =
    on-err _ _ (left-before c.args.session.now c.args.sched.now c.next.new.self c.args.cores.now c.requires c.in_err-next.ensures.err)

pub task_of-task-requires-clause-flies : goal.task_of-task-requires-clause-flies
task_of-task-requires-clause-flies g c = (next-job c.args.session.now c.args.sched.now c.args.cores.now c.requires c.next.new.self _ c.in_ok-next.ensures.ok c.in-Job.job c.in-Job.is).flies

pub task_of-task-requires-clause-is : goal.task_of-task-requires-clause-is
task_of-task-requires-clause-is g c = (next-job c.args.session.now c.args.sched.now c.args.cores.now c.requires c.next.new.self _ c.in_ok-next.ensures.ok c.in-Job.job c.in-Job.is).is

pub do_job-requires-clause-session : goal.do_job-requires-clause-session
do_job-requires-clause-session g c =
    (next-taken c.args.session.now c.args.sched.now c.args.cores.now c.requires c.next.new.self _ c.in_ok-next.ensures.ok c.in-Job.job c.in-Job.is c.task_of-task.result c.task_of-task.ensures.name).session_is

pub do_job-requires-clause-flies : goal.do_job-requires-clause-flies
do_job-requires-clause-flies g c =
    next-flies c.args.session.now c.args.sched.now c.args.cores.now c.requires c.next.new.self _ c.in_ok-next.ensures.ok c.in-Job.job c.in-Job.is c.task_of-task.result c.task_of-task.ensures.name

pub do_job-requires-clause-cores : goal.do_job-requires-clause-cores
do_job-requires-clause-cores g c = next-cores c.args.session.now c.args.sched.now c.args.cores.now c.requires c.next.new.self _ c.in_ok-next.ensures.ok c.in-Job.job c.in-Job.is

pub returns-in_err-do_job-in-Job-clause-left : goal.returns-in_err-do_job-in-Job-clause-left
returns-in_err-do_job-in-Job-clause-left g c =
    on-err _ _
    (left-after c.args.session.now c.task_of-task.result c.next.new.self c.do_job.new.sched c.args.cores.now c.do_job.new.cores
    (next-taken c.args.session.now c.args.sched.now c.args.cores.now c.requires c.next.new.self _ c.in_ok-next.ensures.ok c.in-Job.job c.in-Job.is c.task_of-task.result c.task_of-task.ensures.name)
    c.task_of-task.ensures.is (next-cores c.args.session.now c.args.sched.now c.args.cores.now c.requires c.next.new.self _ c.in_ok-next.ensures.ok c.in-Job.job c.in-Job.is)
    c.in_err-do_job-in-Job.ensures.err c.in_err-do_job-in-Job.ensures.left)

-- the job was taken, done and reported
pub returns-in_ok-do_job-in-Job-clause-served : goal.returns-in_ok-do_job-in-Job-clause-served
returns-in_ok-do_job-in-Job-clause-served g c = record {
  scheduler =
      reported-served c.args.session.now (job_of c.task_of-task.result) c.next.new.self c.do_job.new.sched
      (next-taken c.args.session.now c.args.sched.now c.args.cores.now c.requires c.next.new.self _ c.in_ok-next.ensures.ok c.in-Job.job c.in-Job.is c.task_of-task.result c.task_of-task.ensures.name)
      c.in_ok-do_job-in-Job.ensures.reports c.history-reported.ensures.sched;
  each_core = c.in_ok-do_job-in-Job.ensures.cores;
}

pub returns-in_ok-do_job-in-Job-clause-fewer : goal.returns-in_ok-do_job-in-Job-clause-fewer
returns-in_ok-do_job-in-Job-clause-fewer g c = λ same.
    next-fewer c.args.session.now c.args.sched.now c.args.cores.now c.requires c.next.new.self _ c.in_ok-next.ensures.ok c.in-Job.job c.in-Job.is c.task_of-task.result c.task_of-task.ensures.name
    c.history-known.ensures.sched c.do_job.new.sched c.in_ok-do_job-in-Job.ensures.reports c.history-reported.ensures.sched

pub returns-in-Finished-clause-served : goal.returns-in-Finished-clause-served
returns-in-Finished-clause-served g c =
    next-finished c.args.session.now c.args.sched.now c.args.cores.now c.requires c.next.new.self _ c.in_ok-next.ensures.ok c.in-Finished.is

pub returns-in-Finished-clause-over : goal.returns-in-Finished-clause-over
returns-in-Finished-clause-over g c = λ same.
    next-over c.args.session.now c.args.sched.now c.args.cores.now c.requires c.next.new.self _ c.in_ok-next.ensures.ok c.in-Finished.is

-- nothing was in flight, and nobody halts
pub unreachable-requires : goal.unreachable-requires
unreachable-requires g c =
    elim c.in-Idle.is [
      | inl w ↦ next-not-idle c.args.session.now c.args.sched.now c.args.cores.now c.requires c.next.new.self _ c.in_ok-next.ensures.ok w
      | inr w ↦ next-not-stopped c.args.session.now c.args.sched.now c.args.cores.now c.requires c.next.new.self _ c.in_ok-next.ensures.ok w.0 w.1
    ]
