use Rattle.std.proofs.Common.{List, length, sym, ap, subst, ◌∙◌, drop}
use Rattle.std.proofs.lemmas.List.{take_at}
use Rattle.std.proofs.lemmas.Result.{on_err_weaker, on_ok_weaker}
use Rattle.sched_state.specs.declared.entry.JobName.{JobName}
use Rattle.stage_work.specs.Doing.{MayDo}
use Rattle.stage_work.specs.Tasks.{IsTaskIn, job_of}
use Rattle.stage_work.proofs.Done.{on-err}
use Rattle.desk_kernels.specs.Chairs.{CoreChair}
use Rattle.lab_workers.specs.Stepping.{MayUse}
use Rattle.lab_workers.specs.Turns.{HasTaken}
use Rattle.lab_workers.specs.Workers.{IsWorkerAt, WorkerValue, sched_entries}
use Rattle.lab_workers.proofs.Doing.{may-do}
use Rattle.lab_workers.proofs.Finding.{comes-reported, comes-unreported, free-left, goes-left, leaves-done}
use Rattle.lab_workers.proofs.Leaving.{looks-same}
use Rattle.lab_workers.proofs.Rounds.{cores-at, free-follows, sched-at}
use Rattle.lab_workers.proofs.worker.Worker.do_task.Goals as goal

-- ---- the job

pub do_task-requires-clause-session : goal.do_task-requires-clause-session
do_task-requires-clause-session g c = c.requires.desks.session

pub do_task-requires-clause-is : goal.do_task-requires-clause-is
do_task-requires-clause-is g c = (sched_entries c.args.self.now.sched.seen, c.requires.is)

pub do_task-requires-clause-may : goal.do_task-requires-clause-may
do_task-requires-clause-may g c =
    let T : WorkerValue → Type 0 = λ v. HasTaken c.args.desks.now.session (job_of c.args.task) v.sched in
    let I : WorkerValue → Type 0 = λ v. IsTaskIn c.args.desks.now.session (sched_entries v.sched.seen) c.args.task in
    let A : WorkerValue → Type 0 = λ v. IsWorkerAt c.args.desks.now v in
    let M : List CoreChair → Type 0 = λ cs. MayDo (MayUse c.args.desks.now c.self.inside.number) c.args.task cs in
    subst M (sym c.as_mut_slice.ensures.value)
    (may-do c.args.desks.now _ c.args.task c.requires.desks (subst A (sym c.self.view_is) c.requires.at) (subst T (sym c.self.view_is) c.requires.taken)
    (subst I (sym c.self.view_is) c.requires.is) c.self.invariant.1
    (cores-at c.args.desks.now _ c.args.self.now c.self.view_is c.requires.at c.self.invariant.1))

-- ---- its report

pub tell-requires-clause-at : goal.tell-requires-clause-at
tell-requires-clause-at g c = sched-at c.args.desks.now _ c.args.self.now c.self.view_is c.requires.at c.self.invariant.0.1

pub tell-requires-clause-taken : goal.tell-requires-clause-taken
tell-requires-clause-taken g c =
    let T : WorkerValue → Type 0 = λ v. HasTaken c.args.desks.now.session (job_of c.args.task) v.sched in
    let J : JobName → Type 0 = λ job. HasTaken c.args.desks.now.session job c.self.inside.sched in
    subst J (sym c.in_ok-report.ensures.done.tells) (subst T (sym c.self.view_is) c.requires.taken)

pub tell-requires-clause-right : goal.tell-requires-clause-right
tell-requires-clause-right g c =
    let I : WorkerValue → Type 0 = λ v. IsTaskIn c.args.desks.now.session (sched_entries v.sched.seen) c.args.task in
    c.in_ok-report.ensures.done.right (sched_entries c.self.inside.sched.seen) (subst I (sym c.self.view_is) c.requires.is)

-- ---- what is left of the worker

pub invariant_of-self : goal.invariant_of-self
invariant_of-self g c = (
  c.self.invariant.0,
  free-left c.args.desks.now _ c.args.self.now c.self.view_is c.requires.at c.args.task c.requires.is _ c.do_task.new.places _ c.as_mut_slice.ensures.value
      (take_at c.do_task.new.places (drop (length c.do_task.new.places) c.self.inside.cores.items) c.self.inside.cores.len
      (c.do_task.ensures.count ∙ (ap length c.as_mut_slice.ensures.value ∙ sym c.self.inside.cores.ok.0)))
      c.self.invariant.1 c.in_err-report.ensures.left,
)

pub returns-in_err-report-clause-goes : goal.returns-in_err-report-clause-goes
returns-in_err-report-clause-goes g c =
    goes-left c.args.desks.now _ c.args.self.now c.self.view_is c.requires.at c.args.task c.requires.is _ c.do_task.new.places _ c.as_mut_slice.ensures.value
    (take_at c.do_task.new.places (drop (length c.do_task.new.places) c.self.inside.cores.items) c.self.inside.cores.len
    (c.do_task.ensures.count ∙ (ap length c.as_mut_slice.ensures.value ∙ sym c.self.inside.cores.ok.0)))
    c.self.inside.sched c.in_err-report.ensures.left
    (looks-same c.args.desks.now.sched c.self.inside.sched (sched-at c.args.desks.now _ c.args.self.now c.self.view_is c.requires.at c.self.invariant.0.1)).follows

pub returns-in_err-report-clause-left : goal.returns-in_err-report-clause-left
returns-in_err-report-clause-left g c =
    on-err _ _
    (comes-unreported c.args.desks.now _ c.args.self.now c.self.view_is c.requires.at c.args.task c.requires.is _ c.do_task.new.places _ c.as_mut_slice.ensures.value
    (take_at c.do_task.new.places (drop (length c.do_task.new.places) c.self.inside.cores.items) c.self.inside.cores.len
    (c.do_task.ensures.count ∙ (ap length c.as_mut_slice.ensures.value ∙ sym c.self.inside.cores.ok.0)))
    c.self.inside.sched c.in_err-report.ensures.left
    (looks-same c.args.desks.now.sched c.self.inside.sched (sched-at c.args.desks.now _ c.args.self.now c.self.view_is c.requires.at c.self.invariant.0.1)))

pub invariant_of-self-2 : goal.invariant_of-self-2
invariant_of-self-2 g c =
    let leaves = leaves-done c.args.desks.now _ c.args.self.now c.self.view_is c.requires.at c.args.task c.requires.is _ c.do_task.new.places _ c.as_mut_slice.ensures.value
    (take_at c.do_task.new.places (drop (length c.do_task.new.places) c.self.inside.cores.items) c.self.inside.cores.len
    (c.do_task.ensures.count ∙ (ap length c.as_mut_slice.ensures.value ∙ sym c.self.inside.cores.ok.0)))
    c.in_ok-report.report c.in_ok-report.ensures.done in (
      free-follows c.self.inside.number c.self.inside.sched c.tell.new.chair c.self.invariant.0 c.tell.ensures.follows,
      free-left c.args.desks.now _ c.args.self.now c.self.view_is c.requires.at c.args.task c.requires.is _ c.do_task.new.places _ c.as_mut_slice.ensures.value
          (take_at c.do_task.new.places (drop (length c.do_task.new.places) c.self.inside.cores.items) c.self.inside.cores.len
          (c.do_task.ensures.count ∙ (ap length c.as_mut_slice.ensures.value ∙ sym c.self.inside.cores.ok.0)))
          c.self.invariant.1 leaves,
    )

pub returns-clause-goes : goal.returns-clause-goes
returns-clause-goes g c =
    let leaves = leaves-done c.args.desks.now _ c.args.self.now c.self.view_is c.requires.at c.args.task c.requires.is _ c.do_task.new.places _ c.as_mut_slice.ensures.value
    (take_at c.do_task.new.places (drop (length c.do_task.new.places) c.self.inside.cores.items) c.self.inside.cores.len
    (c.do_task.ensures.count ∙ (ap length c.as_mut_slice.ensures.value ∙ sym c.self.inside.cores.ok.0)))
    c.in_ok-report.report c.in_ok-report.ensures.done in
    goes-left c.args.desks.now _ c.args.self.now c.self.view_is c.requires.at c.args.task c.requires.is _ c.do_task.new.places _ c.as_mut_slice.ensures.value
    (take_at c.do_task.new.places (drop (length c.do_task.new.places) c.self.inside.cores.items) c.self.inside.cores.len
    (c.do_task.ensures.count ∙ (ap length c.as_mut_slice.ensures.value ∙ sym c.self.inside.cores.ok.0)))
    c.tell.new.chair leaves c.tell.ensures.follows

-- the job was done and reported
pub returns-clause-rests : goal.returns-clause-rests
returns-clause-rests g c =
    on_ok_weaker c.tell.result
    (comes-reported c.args.desks.now _ c.args.self.now c.self.view_is c.requires.at c.args.task c.requires.is _ c.do_task.new.places _ c.as_mut_slice.ensures.value
    (take_at c.do_task.new.places (drop (length c.do_task.new.places) c.self.inside.cores.items) c.self.inside.cores.len
    (c.do_task.ensures.count ∙ (ap length c.as_mut_slice.ensures.value ∙ sym c.self.inside.cores.ok.0)))
    c.requires.desks c.tell.new.chair c.in_ok-report.report c.in_ok-report.ensures.done)
    c.tell.ensures.told

-- there was no memory for its report
pub returns-clause-left : goal.returns-clause-left
returns-clause-left g c =
    let leaves = leaves-done c.args.desks.now _ c.args.self.now c.self.view_is c.requires.at c.args.task c.requires.is _ c.do_task.new.places _ c.as_mut_slice.ensures.value
    (take_at c.do_task.new.places (drop (length c.do_task.new.places) c.self.inside.cores.items) c.self.inside.cores.len
    (c.do_task.ensures.count ∙ (ap length c.as_mut_slice.ensures.value ∙ sym c.self.inside.cores.ok.0)))
    c.in_ok-report.report c.in_ok-report.ensures.done in
    on_err_weaker c.tell.result
    (comes-unreported c.args.desks.now _ c.args.self.now c.self.view_is c.requires.at c.args.task c.requires.is _ c.do_task.new.places _ c.as_mut_slice.ensures.value
    (take_at c.do_task.new.places (drop (length c.do_task.new.places) c.self.inside.cores.items) c.self.inside.cores.len
    (c.do_task.ensures.count ∙ (ap length c.as_mut_slice.ensures.value ∙ sym c.self.inside.cores.ok.0)))
    c.tell.new.chair leaves)
    c.tell.ensures.untold
