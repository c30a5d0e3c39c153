-- The jobs that a worker takes.
use Rattle.std.specs.Prelude.{◌≡◌, List, Some}
use Rattle.exp_runs.specs.Keys.{run_of}
use Rattle.exp_model.specs.declared.session.Session.{Session}
use Rattle.sched_state.specs.declared.entry.JobName.{JobName}
use Rattle.sched_state.specs.declared.entry.JobName.TheVariants as name
use Rattle.sched_state.specs.declared.entry.SchedEntry.{SchedEntry}
use Rattle.sched_state.specs.Lawful.{state_after}
use Rattle.sched_core.specs.declared.answer.Job.{Job}
use Rattle.sched_core.specs.declared.answer.Job.TheVariants as job
use Rattle.sched_core.specs.Calls.{IsJobFor}
use Rattle.lab_kits.specs.declared.kit.Kit.{Kit}
use Rattle.lab_kits.specs.Kits.{KitCall, KitText, kit_source}
use Rattle.stage_work.specs.declared.tasks.StepTask.{StepTask}
use Rattle.stage_work.specs.declared.tasks.Task.{Task}
use Rattle.stage_work.specs.declared.tasks.Task.TheVariants as task

-- the name of the job
abbrev pub job_of : Task → JobName
job_of (task.Prepare rid run) = name.Prepare rid
job_of (task.Step step) = name.Step step.rid step.pos
job_of (task.Analyze rid) = name.Analyze rid

-- the step, as the scheduler gave it out
abbrev pub step_job : StepTask → Job Kit
step_job step = job.Step step.rid step.pos step.pipeline step.step step.kit

-- what the scheduler gave out with a step, where this is its history
abbrev pub IsStepIn : Session → List SchedEntry → StepTask → Type 0
IsStepIn session sched step = IsJobFor kit_source KitText KitCall session (state_after session sched) (step_job step)

-- what a job has beside its name, where this is the scheduler's
-- history: a preparation its run, a step what was given out with it
abbrev pub IsTaskIn : Session → List SchedEntry → Task → Type 0
IsTaskIn session sched (task.Prepare rid run) = run_of (state_after session sched).runs rid ≡ Some run
IsTaskIn session sched (task.Step step) = IsStepIn session sched step
IsTaskIn session sched (task.Analyze rid) = Unit {0}

-- of that, what lasts while the history grows
abbrev pub LastsIn : Session → List SchedEntry → Task → Type 0
LastsIn session sched (task.Step step) = IsStepIn session sched step
LastsIn session sched other = Unit {0}
