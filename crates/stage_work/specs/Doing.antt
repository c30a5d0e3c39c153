-- What is done for a job on the places of the cores, whoever has them: `Runs` says what a kernel that ran leaves,
-- and `Cuts` what want of memory leaves of it.
use Rattle.std.specs.Prelude.{◌≡◌, ◌⊎◌, ◌<◌, ℕ, List, length, slice_get, slice_set, Option, Some, None}
use Rattle.rtio_core.specs.declared.data.StartOf.{StartOf}
use Rattle.exp_runs.specs.declared.run.Run.{Run}
use Rattle.exp_model.specs.declared.session.Session.{Session}
use Rattle.sched_state.specs.declared.entry.KernelResult.{KernelResult}
use Rattle.sched_state.specs.declared.entry.SchedEntry.{SchedEntry}
use Rattle.lab_kits.specs.declared.kit.Kit.{Kit}
use Rattle.lab_kits.specs.Accepted.{IsAccepted}
use Rattle.lab_kits.specs.Kits.{IsKitOf, program_in}
use Rattle.lab_ties.specs.DoesAs.{DoesAs}
use Rattle.stage_work.specs.declared.tasks.Report.{Report}
use Rattle.stage_work.specs.declared.tasks.Report.TheVariants as report
use Rattle.stage_work.specs.declared.tasks.StepTask.{StepTask}
use Rattle.stage_work.specs.declared.tasks.Task.{Task}
use Rattle.stage_work.specs.declared.tasks.Task.TheVariants as task
use Rattle.stage_work.specs.Reports.{HasNoResult, IsRight, job_told}
use Rattle.stage_work.specs.Starting.{IsStartFor}
use Rattle.stage_work.specs.Tasks.{IsTaskIn, job_of}

-- what a kernel that ran leaves on a place, and what want of memory leaves of it
abbrev pub Running : (Place : Type 0) → Type 1
Running Place = (pipeline : ℕ) → Kit → StartOf → Place → Place → KernelResult → Type 0

abbrev pub Cutting : (Place : Type 0) → Type 1
Cutting Place = (pipeline : ℕ) → Kit → StartOf → Place → Place → Type 0

-- ---- before it is done

-- the job is one in some history of the scheduler
abbrev pub HasTask : Session → Task → Type 0
HasTask session taken = (sched : List SchedEntry) × IsTaskIn session sched taken

-- a step's pipeline has a place, where a kernel may run
abbrev pub MayDo : {Place : Type 0} → (May : (pipeline : ℕ) → Place → Type 0) → Task → List Place → Type 0
MayDo May (task.Step step) places =
    (step.pipeline < length places) × ((place : _) → slice_get places step.pipeline ≡ Some place → May step.pipeline place)
MayDo May other places = Unit {0}

-- ---- a step

-- the place of a pipeline has changed so, and the others are as they were
pub record ChangesAt {Place : Type 0} (pipeline : ℕ) (Changes : Place → Place → Type 0) (places now : List Place) : Type 0 where
  pub old : Place
  pub new : Place
  pub found : slice_get places pipeline ≡ Some old
  pub leaves : now ≡ slice_set places pipeline new
  pub so : Changes old new

-- a step that has a session was run, and has its result; for any other nothing was done
abbrev pub HasRun : {Place : Type 0} → Running Place → (pipeline : ℕ) → Kit → Option StartOf → Option KernelResult → List Place → List Place → Type 0
HasRun Runs pipeline kit (Some of) (Some result) old new = ChangesAt pipeline (λ was now. Runs pipeline kit of was now result) old new
HasRun Runs pipeline kit (Some of) None old new = ⊥
HasRun Runs pipeline kit None (Some result) old new = ⊥
HasRun Runs pipeline kit None None old new = new ≡ old

-- a kernel was cut short, or ran and isn't reported
abbrev pub MayHaveRun : {Place : Type 0} → Running Place → Cutting Place → (pipeline : ℕ) → Kit → StartOf → Place → Place → Type 0
MayHaveRun Runs Cuts pipeline kit of was now = Cuts pipeline kit of was now ⊎ ((result : KernelResult) × Runs pipeline kit of was now result)

-- a step that has a session has left the places so, and another as they were
abbrev pub LeavesStart : {Place : Type 0} → Running Place → Cutting Place → (pipeline : ℕ) → Kit → Option StartOf → List Place → List Place → Type 0
LeavesStart Runs Cuts pipeline kit (Some of) old new = ChangesAt pipeline (MayHaveRun Runs Cuts pipeline kit of) old new
LeavesStart Runs Cuts pipeline kit None old new = new ≡ old

-- ---- a job

-- a run was prepared: with a kit for it where its source is accepted, and refused where it isn't
abbrev pub IsPreparation : Session → (rid : ℕ) → Run → Report → Type 0
IsPreparation session rid run (report.Prepared other kit) = (other ≡ rid) × IsKitOf session run kit × IsAccepted session run
IsPreparation session rid run (report.Refused other) = (other ≡ rid) × (IsAccepted session run → ⊥)
IsPreparation session rid run other = ⊥

-- a step was done, of which this tells
pub record IsStepDone {Place : Type 0} (Runs : Running Place) (step : StepTask) (told : Report) (old new : List Place) : Type 0 where
  pub does : DoesAs (program_in step.kit) step.kit.compiled.1
  pub start : Option StartOf
  pub for_step : IsStartFor step.kit step.rid step.pos step.step start
  pub ran : Option KernelResult
  pub tells : told ≡ report.Stepped step.rid step.pos step.kit ran
  pub run : HasRun Runs step.pipeline step.kit start ran old new

-- what was done for a job
abbrev pub Does : {Place : Type 0} → Running Place → Task → Report → List Place → List Place → Type 0
Does Runs (task.Step step) told old new = IsStepDone Runs step told old new
Does Runs other told old new = HasNoResult told × (new ≡ old)

-- it was done, and the report is of it, and right wherever the job is one
pub record HasDone {Place : Type 0} (Runs : Running Place) (session : Session) (taken : Task) (told : Report) (old new : List Place) : Type 0 where
  pub tells : job_told told ≡ job_of taken
  pub right : (sched : List SchedEntry) → IsTaskIn session sched taken → IsRight session sched told
  pub does : Does Runs taken told old new

-- a job that want of memory stopped has left the places as they were, but that of a step's pipeline
abbrev pub LeavesPlaces : {Place : Type 0} → Running Place → Cutting Place → Task → List Place → List Place → Type 0
LeavesPlaces Runs Cuts (task.Step step) old new =
    (start : Option StartOf) × IsStartFor step.kit step.rid step.pos step.step start × LeavesStart Runs Cuts step.pipeline step.kit start old new
LeavesPlaces Runs Cuts other old new = new ≡ old
