-- What a worker reports of a job.
use Rattle.std.specs.Prelude.{◌≡◌, ℕ, ◌+◌, List, slice_get, Option, Some}
use Rattle.exp_runs.specs.declared.run.Run.{Run}
use Rattle.exp_runs.specs.Keys.{run_of}
use Rattle.exp_model.specs.declared.session.Session.{Session}
use Rattle.exp_model.specs.declared.step.HostStep.{HostStep}
use Rattle.sched_state.specs.declared.entry.JobName.{JobName}
use Rattle.sched_state.specs.declared.entry.JobName.TheVariants as name
use Rattle.sched_state.specs.declared.entry.KernelResult.{KernelResult}
use Rattle.sched_state.specs.declared.entry.SchedAct.{SchedAct}
use Rattle.sched_state.specs.declared.entry.SchedAct.TheVariants as act
use Rattle.sched_state.specs.declared.entry.SchedEntry.{SchedEntry}
use Rattle.sched_state.specs.Lawful.{HasResult, state_after}
use Rattle.sched_state.specs.Reports.{run_steps, step_effect}
use Rattle.sched_core.specs.Calls.{found_pipeline}
use Rattle.lab_kits.specs.Accepted.{IsAccepted}
use Rattle.lab_kits.specs.Kits.{IsKitOf}
use Rattle.lab_ties.specs.Judged.{OfRun}
use Rattle.stage_work.specs.declared.tasks.Report.{Report}
use Rattle.stage_work.specs.declared.tasks.Report.TheVariants as report

-- the job of which it tells
abbrev pub job_told : Report → JobName
job_told (report.Prepared rid kit) = name.Prepare rid
job_told (report.Refused rid) = name.Prepare rid
job_told (report.Stepped rid place kit ran) = name.Step rid place
job_told (report.Analyzed rid) = name.Analyze rid

-- the report of a step, with the run's pipeline, and the clock and word that it has to have behind this history
abbrev pub step_told : Session → List SchedEntry → (rid place : ℕ) → Option KernelResult → SchedAct
step_told session sched rid place ran =
    act.Stepped rid place (found_pipeline (run_of (state_after session sched).runs rid)) ((state_after session sched).clock + 1) ran
    (step_effect session rid place ran (state_after session sched)).word

-- the act that it is
abbrev pub act_told : Session → List SchedEntry → Report → SchedAct
act_told session sched (report.Prepared rid kit) = act.Prepared rid
act_told session sched (report.Refused rid) = act.SourceRefused rid
act_told session sched (report.Stepped rid place kit ran) = step_told session sched rid place ran
act_told session sched (report.Analyzed rid) = act.Analyzed rid

-- a kernel's step of the run stands at this place, and this is its result; or another step, and there is none
abbrev pub HasRanAt : Session → (place : ℕ) → Option KernelResult → Run → Type 0
HasRanAt session place ran run = (step : HostStep) × (slice_get (run_steps session run) place ≡ Some step) × HasResult (Some step) ran

-- It is right where this is the scheduler's history: the run is there. A source that is
-- told to be accepted is, with a kit for the run, and one that is told to be refused
-- isn't accepted; a step's kit is one for the run, and has a result if it is a kernel's
abbrev pub IsRight : Session → List SchedEntry → Report → Type 0
IsRight session sched (report.Prepared rid kit) = OfRun session sched rid (λ run. IsKitOf session run kit × IsAccepted session run)
IsRight session sched (report.Refused rid) = OfRun session sched rid (λ run. IsAccepted session run → ⊥)
IsRight session sched (report.Stepped rid place kit ran) = OfRun session sched rid (λ run. IsKitOf session run kit × HasRanAt session place ran run)
IsRight session sched (report.Analyzed rid) = Unit {0}

-- it has no result of a kernel
abbrev pub HasNoResult : Report → Type 0
HasNoResult (report.Stepped rid place kit (Some result)) = ⊥
HasNoResult other = Unit {0}
