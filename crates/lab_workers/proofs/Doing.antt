-- A job, before it is done and after its report.
use Rattle.std.proofs.Common.{◌≡◌, ◌<◌, List, [], ◌∷◌, length, sym, ap, subst, ◌∙◌, arith}
use Rattle.std.specs.Prelude.{Option, Some, None, IsTrue}
use Rattle.rtio_core.specs.declared.data.StartOf.{StartOf}
use Rattle.desk_rule.specs.Histories.{Each}
use Rattle.exp_runs.specs.declared.run.Run.{Run}
use Rattle.exp_model.specs.declared.session.Session.{Session}
use Rattle.exp_model.specs.Sessions.{is_session}
use Rattle.sched_state.specs.declared.entry.JobName.{JobName}
use Rattle.sched_state.specs.declared.entry.JobName.TheVariants as name
use Rattle.sched_state.specs.declared.entry.KernelResult.{KernelResult}
use Rattle.sched_laws.proofs.Standing.{flying-stand}
use Rattle.lab_kits.specs.Kits.{program_in}
use Rattle.stage_work.specs.DoesAs.{DoesAs}
use Rattle.stage_work.specs.declared.tasks.Report.{Report}
use Rattle.stage_work.specs.declared.tasks.Report.TheVariants as report
use Rattle.stage_work.specs.declared.tasks.StepTask.{StepTask}
use Rattle.stage_work.specs.declared.tasks.Task.{Task}
use Rattle.stage_work.specs.declared.tasks.Task.TheVariants as task
use Rattle.stage_work.specs.Doing.{HasDone, HasRun, MayDo}
use Rattle.stage_work.specs.Reports.{HasNoResult, job_told}
use Rattle.stage_work.specs.Starting.{IsStartFor}
use Rattle.stage_work.specs.Tasks.{IsStepIn, IsTaskIn, job_of}
use Rattle.desk_kernels.specs.Chairs.{CoreChair}
use Rattle.worker_desks.specs.declared.desks.Desks.{Desks}
use Rattle.lab_workers.specs.Idling.{AreAt}
use Rattle.lab_workers.specs.Reports.{HasTold}
use Rattle.lab_workers.specs.Rounds.{ComesTo}
use Rattle.lab_workers.specs.Stepping.{DeskRuns, MayUse}
use Rattle.lab_workers.specs.Turns.{HasTaken}
use Rattle.lab_workers.specs.Workers.{AreDesksOf, IsAtRest, IsFree, IsWorkerAt, SchedChair, WorkerValue, sched_entries}
use Rattle.lab_workers.proofs.Kerneled.{keeps-kernel}
use Rattle.lab_workers.proofs.Owing.{told-lands}
use Rattle.lab_workers.proofs.Resting.{each-get, keeps-quiet}
use Rattle.lab_workers.proofs.Taken.{flies-now}
use Rattle.lab_workers.proofs.Telling.{told-quietly}

-- ---- before it is done

-- a step's pipeline is one of the session's
pipeline-there : (session : Session) (chair : SchedChair) (step : StepTask) → IsTrue (is_session session)
    → HasTaken session (name.Step step.rid step.pos) chair → IsStepIn session (sched_entries chair.seen) step → step.pipeline < length session.pipelines
pipeline-there session chair step ok taken is =
    let stands = flying-stand session (sched_entries chair.seen) chair.number (name.Step step.rid step.pos) ok taken.lawful
    (flies-now session (name.Step step.rid step.pos) chair taken ok) in
    let both : Some stands.0 ≡ Some is.0 = sym stands.1 ∙ is.1 in
    let one : stands.0 ≡ is.0 = cc in
    let its : stands.0.pipeline ≡ step.pipeline = ap (λ (r : Run). r.pipeline) one ∙ is.2 in
    let within = stands.2.pipeline in
    omega (arith, its, within)

-- its worker has a chair at the desk there
pub may-do : (desks : Desks) (w : WorkerValue) (taken : Task) → AreDesksOf desks → IsWorkerAt desks w → HasTaken desks.session (job_of taken) w.sched
    → IsTaskIn desks.session (sched_entries w.sched.seen) taken → Each (IsFree w.number) w.cores → AreAt desks.cores.items w.cores
    → MayDo (MayUse desks w.number) taken w.cores
may-do desks w (task.Prepare rid run) these at took is free stand = tt
may-do desks w (task.Step step) these at took is free stand =
    let low = pipeline-there desks.session w.sched step these.session took is in
    let a = these.count in
    let b = at.count in (
      omega (arith, a, b, low),
      (λ chair found. record {
        there = omega (arith, a, low);
        at = λ desk there. stand step.pipeline desk chair there found;
        number_is = (each-get (IsFree w.number) w.cores step.pipeline chair free found).0;
      }),
    )
may-do desks w (task.Analyze rid) these at took is free stand = tt

-- ---- after its report

module _ (desks : Desks) (w : WorkerValue) (e : SchedChair) (cores : List CoreChair) where
  abbrev Keeps : JobName → Type 0
  Keeps job = ComesTo desks.session (job ∷ []) (IsAtRest desks.session) w (record { number = w.number; sched = e; cores = cores })

  -- nothing was done on a core
  keeps-quietly : (job : JobName) (told : Report) → job_told told ≡ job → HasNoResult told × (cores ≡ w.cores) → HasTold desks.session told w.sched e → Keeps job
  keeps-quietly job told is (free, same) t =
      let K : List CoreChair → Type 0 = λ cs.
      ComesTo desks.session (job ∷ []) (IsAtRest desks.session) w (record { number = w.number; sched = e; cores = cs }) in
      subst K (sym same)
      (keeps-quiet desks.session w e (told-quietly desks.session told w.sched e free t) (job ∷ []) []
      (λ owes. told-lands desks.session told w.sched e t (owes ∙ ap (λ (n : JobName). n ∷ []) (sym is))))

  -- a step was done
  keeps-step : AreDesksOf desks → (step : StepTask) (start : Option StartOf) (ran : Option KernelResult) (told : Report)
      → IsStepIn desks.session (sched_entries w.sched.seen) step → DoesAs (program_in step.kit) step.kit.compiled.1
      → IsStartFor step.kit step.rid step.pos step.step start → HasRun (DeskRuns desks w.number) step.pipeline step.kit start ran w.cores cores
      → told ≡ report.Stepped step.rid step.pos step.kit ran → HasTold desks.session told w.sched e → Keeps (name.Step step.rid step.pos)
  keeps-step these step (Some of) (Some result) told is does for-step run tells t =
      let T : Report → Type 0 = λ r. HasTold desks.session r w.sched e in
      keeps-kernel desks these w step of cores result run e (subst T tells t) for-step does is
  keeps-step these step (Some of) None told is does for-step run tells t = absurd run
  keeps-step these step None (Some result) told is does for-step run tells t = absurd run
  keeps-step these step None None told is does for-step same tells t =
      keeps-quietly (name.Step step.rid step.pos) told (ap job_told tells) (subst HasNoResult (sym tells) tt, same) t

  pub keeps-task : AreDesksOf desks → (taken : Task) (told : Report) → IsTaskIn desks.session (sched_entries w.sched.seen) taken
      → HasDone (DeskRuns desks w.number) desks.session taken told w.cores cores → HasTold desks.session told w.sched e → Keeps (job_of taken)
  keeps-task these (task.Prepare rid run) told is done t = keeps-quietly (name.Prepare rid) told done.tells done.does t
  keeps-task these (task.Step step) told is done t =
      let d = done.does in keeps-step these step d.start d.ran told is d.does d.for_step d.run d.tells t
  keeps-task these (task.Analyze rid) told is done t = keeps-quietly (name.Analyze rid) told done.tells done.does t
