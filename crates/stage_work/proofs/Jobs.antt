-- The laboratory of one worker after a job that was taken, done and reported.
use Rattle.std.proofs.Common.{◌≡◌, ℕ, ◌<◌, List, [], ◌∷◌, ◌++◌, length, inl, inr, refl, sym, ap, subst, ◌∙◌, arith}
use Rattle.std.specs.Prelude.{Some, None, IsTrue}
use Rattle.rtio_core.specs.Core.{CoreState}
use Rattle.rtio_core.specs.Entries.{open_session}
use Rattle.exp_runs.specs.declared.run.Run.{Run}
use Rattle.exp_model.specs.declared.session.Session.{Session}
use Rattle.sched_state.specs.declared.entry.JobName.{JobName}
use Rattle.sched_state.specs.declared.entry.JobName.TheVariants as name
use Rattle.sched_state.specs.declared.entry.SchedAct.TheVariants as act
use Rattle.sched_state.specs.declared.entry.SchedEntry.{SchedEntry}
use Rattle.sched_state.specs.Picks.{is_over}
use Rattle.sched_laws.specs.Workers.{reported}
use Rattle.sched_core.specs.declared.answer.Job.{Job}
use Rattle.sched_core.specs.declared.answer.Next.{Next}
use Rattle.sched_core.specs.declared.answer.Next.TheVariants as next
use Rattle.sched_core.specs.Calls.{AnswersNext, entry_of, jumped, jumps, name_of, with_entry}
use Rattle.sched_core.specs.Scheds.{IsSched, SchedValue, sched_state}
use Rattle.lab_kits.specs.declared.kit.Kit.{Kit}
use Rattle.lab_kits.specs.Kits.{KitCall, KitText, kit_source}
use Rattle.lab_ties.specs.Judged.{IsJudged}
use Rattle.lab_ties.specs.Ties.{reports_of}
use Rattle.stage_work.proofs.Cores.{cores-jumped, cores-over}
use Rattle.stage_work.proofs.Own.{run-there}
use Rattle.stage_work.proofs.Scheds.{fewer-left, has-taken, jumped-served, taken-served}
use Rattle.stage_work.proofs.Steps.{cores-after-step}
use Rattle.stage_work.specs.declared.tasks.Report.{Report}
use Rattle.stage_work.specs.declared.tasks.Report.TheVariants as report
use Rattle.stage_work.specs.declared.tasks.StepTask.{StepTask}
use Rattle.stage_work.specs.declared.tasks.Task.{Task}
use Rattle.stage_work.specs.declared.tasks.Task.TheVariants as task
use Rattle.stage_work.specs.Doing.{HasDone, MayDo}
use Rattle.stage_work.specs.Jobs.{Flies, HasReported, HasTaken, in_flight}
use Rattle.stage_work.specs.Reports.{HasNoResult, IsRight, act_told, job_told}
use Rattle.stage_work.specs.Serving.{AreServedCores, IsLeft, IsServed, IsServedSched, LeavesCores, OwnRuns, jobs_left_at}
use Rattle.stage_work.specs.Tasks.{IsStepIn, IsTaskIn, job_of}

-- ---- a report

-- that has no result is of no kernel
pub no-report : (session : Session) (found : List SchedEntry) (told : Report) → HasNoResult told → (pipeline : ℕ) → reports_of pipeline (act_told session found told ∷ []) ≡ []
no-report session found (report.Prepared rid kit) free pipeline = refl
no-report session found (report.Refused rid) free pipeline = refl
no-report session found (report.Stepped rid place kit None) free pipeline = refl
no-report session found (report.Stepped rid place kit (Some result)) free pipeline = absurd free
no-report session found (report.Analyzed rid) free pipeline = refl

-- what it tells of a source is true
pub judged-told : (session : Session) (found : List SchedEntry) (told : Report) → IsRight session found told → IsJudged session found (act_told session found told)
judged-told session found (report.Prepared rid kit) (run, is, p) = (run, is, p.1)
judged-told session found (report.Refused rid) (run, is, p) = (run, is, p)
judged-told session found (report.Stepped rid place kit ran) right = tt
judged-told session found (report.Analyzed rid) right = tt

reported-told : (session : Session) (found : List SchedEntry) (told : Report) → reported (act_told session found told) ≡ Some (job_told told)
reported-told session found (report.Prepared rid kit) = refl
reported-told session found (report.Refused rid) = refl
reported-told session found (report.Stepped rid place kit ran) = refl
reported-told session found (report.Analyzed rid) = refl

-- it is one of the job, which flies
pub flies-told : (sched : SchedValue) (taken : Task) (told : Report) → job_told told ≡ job_of taken → Flies 0 (job_of taken) sched → Flies 0 (job_told told) sched
flies-told sched taken told is = let F : JobName → Type 0 = λ n. Flies 0 n sched in subst F (sym is)

-- right where the job is one
pub right-told : (session : Session) (sched : SchedValue) (taken : Task) (told : Report) → sched.session ≡ session → IsTaskIn sched.session sched.history taken
    → ((history : List SchedEntry) → IsTaskIn session history taken → IsRight session history told) → IsRight sched.session sched.history told
right-told session sched taken told same is right =
    let T : Session → Type 0 = λ s. IsTaskIn s sched.history taken in
    let R : Session → Type 0 = λ s. IsRight s sched.history told in
    subst R (sym same) (right sched.history (subst T same is))

-- and reported
pub has-reported : (taken : Task) (old new : SchedValue) (told : Report) → job_told told ≡ job_of taken → IsRight old.session old.history told
    → new ≡ with_entry 0 (act_told old.session old.history told) old → HasReported 0 (job_of taken) old new
has-reported taken old new told is right went = record {
  act = act_told old.session old.history told;
  entry = went;
  reports = reported-told old.session old.history told ∙ ap Some is;
  judged = judged-told old.session old.history told right;
}

-- and leaves the cores so
module _ (session : Session) (sched : List SchedEntry) (told : Report) (cores now : List CoreState) where
  abbrev after : List SchedEntry
  after = sched ++ entry_of 0 (act_told session sched told) ∷ []

  quiet-told : HasNoResult told × (now ≡ cores) → AreServedCores session sched cores → AreServedCores session after now
  quiet-told (free, same) served =
      let N : List CoreState → Type 0 = λ cs. AreServedCores session after cs in
      subst N (sym same) (cores-over session sched (entry_of 0 (act_told session sched told) ∷ []) cores (no-report session sched told free) served)

  pub cores-told : (taken : Task) → IsTaskIn session sched taken → HasDone (OwnRuns session.budget) session taken told cores now
      → AreServedCores session sched cores → AreServedCores session after now
  cores-told (task.Prepare rid run) is done served = quiet-told done.does served
  cores-told (task.Step step) is done served =
      let d = done.does in
      let C : Report → Type 0 = λ r. AreServedCores session (sched ++ entry_of 0 (act_told session sched r) ∷ []) now in
      subst C (sym d.tells) (cores-after-step session sched step is d.does d.start d.ran cores now d.for_step d.run served)
  cores-told (task.Analyze rid) is done served = quiet-told done.does served

-- the same of the scheduler that has it
pub cores-reported : (session : Session) (taken : Task) (old new : SchedValue) (told : Report) (cores now : List CoreState) → old.session ≡ session
    → IsTaskIn old.session old.history taken → HasDone (OwnRuns session.budget) session taken told cores now
    → new ≡ with_entry 0 (act_told old.session old.history told) old → AreServedCores session old.history cores → AreServedCores session new.history now
cores-reported session taken old new told cores now same is done went served =
    let T : Session → Type 0 = λ s. IsTaskIn s old.history taken in
    let A : Session → Type 0 = λ s. AreServedCores session (old.history ++ entry_of 0 (act_told s old.history told) ∷ []) now in
    let H : SchedValue → Type 0 = λ v. AreServedCores session v.history now in
    subst H (sym went) (subst A (sym same) (cores-told session old.history told cores now taken (subst T same is) done served))

-- the run's pipeline has a core
has-core : (session : Session) (sched : SchedValue) (cores : List CoreState) (step : StepTask) → sched.session ≡ session → IsSched sched
    → Flies 0 (name.Step step.rid step.pos) sched → IsStepIn sched.session sched.history step → length cores ≡ length session.pipelines
    → step.pipeline < length cores
has-core session sched cores step same known flies is count =
    let there = run-there sched (name.Step step.rid step.pos) known (0, flies) in
    let both : Some there.0 ≡ Some is.0 = sym there.1 ∙ is.1 in
    let one : there.0 ≡ is.0 = cc in
    let pipeline : there.0.pipeline ≡ step.pipeline = ap (λ (r : Run). r.pipeline) one ∙ is.2 in
    let pipelines : length sched.session.pipelines ≡ length session.pipelines = ap (λ (s : Session). length s.pipelines) same in
    let within = there.2.pipeline in
    omega (arith, pipeline, pipelines, count, within)

-- a step's pipeline has a core, on which no session is open
pub may-do : (session : Session) (sched : SchedValue) (taken : Task) (cores : List CoreState) → sched.session ≡ session → IsSched sched
    → Flies 0 (job_of taken) sched → IsTaskIn sched.session sched.history taken → AreServedCores session sched.history cores
    → MayDo (λ pipeline core. open_session core.history ≡ None) taken cores
may-do session sched (task.Prepare rid run) cores same known flies is served = tt
may-do session sched (task.Step step) cores same known flies is served = (
  has-core session sched cores step same known flies is served.count,
  (λ core at. (served.each step.pipeline core at).closed),
)
may-do session sched (task.Analyze rid) cores same known flies is served = tt

-- ---- what the scheduler answers

module _ (session : Session) (old : SchedValue) (cores : List CoreState) (served : IsServed session [] old cores)
    (new : SchedValue) (given : Next Kit) (answers : AnswersNext kit_source KitText KitCall 0 old given new) where
  as-given : (other : Next Kit) → given ≡ other → AnswersNext kit_source KitText KitCall 0 old other new
  as-given other is = let A : Next Kit → Type 0 = λ n. AnswersNext kit_source KitText KitCall 0 old n new in subst A is answers

  -- a job: it is in flight then, with what belongs to it, and the cores are as they were
  pub next-job : (job : Job Kit) → given ≡ next.Job job → HasTaken 0 job new
  next-job job is =
      let a = as-given (next.Job job) is in
      subst (HasTaken 0 job) (sym a.2) (has-taken session (jumped 0 a.1 old) job (jumped-served session [] old a.1 served.scheduler) a.3)

  module _ (job : Job Kit) (is : given ≡ next.Job job) (taken : Task) (same : job_of taken ≡ name_of job) where
    pub next-taken : IsServedSched session (in_flight 0 (job_of taken) ∷ []) new
    next-taken =
        let a = as-given (next.Job job) is in
        let S : SchedValue → Type 0 = λ v. IsServedSched session (in_flight 0 (name_of job) ∷ []) v in
        let N : JobName → Type 0 = λ n. IsServedSched session (in_flight 0 n ∷ []) new in
        subst N (sym same) (subst S (sym a.2) (taken-served session (jumped 0 a.1 old) (name_of job) (jumped-served session [] old a.1 served.scheduler)))

    pub next-flies : Flies 0 (job_of taken) new
    next-flies = let F : JobName → Type 0 = λ n. Flies 0 n new in subst F (sym same) (next-job job is).flies

    -- its report leaves fewer jobs than there were
    pub next-fewer : IsSched new → (later : SchedValue) → HasReported 0 (job_of taken) new later → IsSched later → jobs_left_at later < jobs_left_at old
    next-fewer known later r after =
        let a = as-given (next.Job job) is in
        let R : JobName → Type 0 = λ n. HasReported 0 n new later in
        fewer-left old new later a.1 (name_of job) a.2 known (subst R same r) after

  pub next-cores : (job : Job Kit) → given ≡ next.Job job → AreServedCores session new.history cores
  next-cores job is =
      let a = as-given (next.Job job) is in
      let H : SchedValue → Type 0 = λ v. AreServedCores session v.history cores in
      subst H (sym a.2)
      (cores-over session (old.history ++ jumps 0 a.1) (entry_of 0 (act.Took (name_of job)) ∷ []) cores (λ pipeline. refl)
      (cores-jumped session old.history a.1 cores served.each_core))

  -- that all is over
  pub next-finished : given ≡ next.Finished → IsServed session [] new cores
  next-finished is =
      let a = as-given next.Finished is in
      let S : SchedValue → Type 0 = λ v. IsServed session [] v cores in
      subst S (sym a.2) (record {
        scheduler = jumped-served session [] old a.1 served.scheduler;
        each_core = cores-jumped session old.history a.1 cores served.each_core;
      })

  pub next-over : given ≡ next.Finished → IsTrue (is_over (sched_state new))
  next-over is = (as-given next.Finished is).3

  -- it doesn't answer that a job in flight has to be reported first, nor that it was halted
  pub next-not-idle : given ≡ next.Idle → ⊥
  next-not-idle is = (as-given next.Idle is).3 served.scheduler.flying_is

  pub next-not-stopped : (by : ℕ) → given ≡ next.Stopped by → ⊥
  next-not-stopped by is =
      let a = as-given (next.Stopped by) is in
      let clash : Some by ≡ None = sym a.0 ∙ served.scheduler.going in absurd (cc)

-- ---- what want of memory leaves

-- nothing has changed
pub left-before : (session : Session) (sched now : SchedValue) (cores : List CoreState) → IsServed session [] sched cores → now ≡ sched
    → IsLeft session now cores
left-before session sched now cores served same =
    let S : SchedValue → Type 0 = λ v. IsServed session [] v cores in
    inl (subst S (sym same) served)

-- or a job that was taken is not reported
pub left-after : (session : Session) (taken : Task) (sched now : SchedValue) (cores left : List CoreState)
    → IsServedSched session (in_flight 0 (job_of taken) ∷ []) sched → IsTaskIn sched.session sched.history taken → AreServedCores session sched.history cores
    → now ≡ sched → LeavesCores session taken cores left → IsLeft session now left
left-after session taken sched now cores left served has each same leaves =
    let L : SchedValue → Type 0 = λ v. IsLeft session v left in
    let T : Session → Type 0 = λ s. IsTaskIn s sched.history taken in
    subst L (sym same)
    (inr (taken, record { scheduler = served; has = subst T served.session_is has; before = cores; served = each; leaves = leaves }))
