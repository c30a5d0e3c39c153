-- What the report of a job changes.
use Rattle.std.specs.Prelude.{ℕ, ◌+◌, Bool, ◌&&◌, List, [], count_by, length, nat_le}
use Rattle.std.specs.Prelude.{nat_lt, slice_get, if◌then◌else◌, Option, Some, None}
use Rattle.limits.specs.Limits.{most_runs}
use Rattle.rtio_types.specs.declared.outcome.Outcome.{Outcome}
use Rattle.rtio_types.specs.declared.outcome.Outcome.TheVariants as outcome
use Rattle.exp_runs.specs.declared.run.Run.{Run}
use Rattle.exp_runs.specs.declared.run.Status.{Status}
use Rattle.exp_runs.specs.declared.run.Status.TheVariants as status
use Rattle.exp_runs.specs.Keys.{run_of, some_higher}
use Rattle.exp_runs.specs.Table.{with_status}
use Rattle.exp_model.specs.declared.session.Session.{Session}
use Rattle.exp_model.specs.declared.arrival.Arrival.{Arrival}
use Rattle.exp_model.specs.Sessions.{submits}
use Rattle.exp_model.specs.declared.session.Experiment.{Experiment}
use Rattle.exp_model.specs.declared.step.HostStep.{HostStep}
use Rattle.exp_model.specs.declared.step.HostStep.TheVariants as step
use Rattle.dataset_db.specs.Datasets.{Change, datasets_after}
use Rattle.sched_state.specs.declared.entry.KernelResult.{KernelResult}
use Rattle.sched_state.specs.declared.entry.StepWord.{StepWord}
use Rattle.sched_state.specs.declared.entry.StepWord.TheVariants as word
use Rattle.sched_state.specs.State.{SchedState, passes, with_run, off_stack, landed}
use Rattle.sched_state.specs.Arrivals.{at_clock, submitted}
use Rattle.sched_state.specs.Datasets.{Stage, stage, changes_by, kernel_changes}

-- the steps of a stage of the run's experiment
abbrev pub steps_in : (Experiment → List HostStep) → Option Experiment → List HostStep
steps_in of_stage None = []
steps_in of_stage (Some experiment) = of_stage experiment

abbrev pub steps_of : (Experiment → List HostStep) → Session → Run → List HostStep
steps_of of_stage session run = steps_in of_stage (slice_get session.experiments run.experiment)

abbrev pub run_steps : Session → Run → List HostStep
run_steps session run = steps_of (λ (e : Experiment). e.run) session run

-- a run stands elsewhere, with other datasets
abbrev pub after_stage : Status → ℕ → Stage → SchedState → SchedState
after_stage next rid done state =
    let now = with_run (with_status (if done.fine then next else status.Failed)) rid state in
    record now { datasets = datasets_after done.changes state.datasets }

-- a run was prepared or analyzed: it is deleted if it was doomed, with
-- no step done; else its steps are done, up to the first that fails
abbrev pub staged_run : (Experiment → List HostStep) → Status → Session → ℕ → SchedState → Option Run → SchedState
staged_run of_stage next session rid state None = state
staged_run of_stage next session rid state (Some run) =
    if run.doomed
    then with_run (with_status status.Deleted) rid state
    else after_stage next rid (stage (steps_of of_stage session run) state.datasets) state

abbrev pub staged : (Experiment → List HostStep) → Status → Session → ℕ → SchedState → SchedState
staged of_stage next session rid state = staged_run of_stage next session rid (landed rid state) (run_of state.runs rid)

abbrev pub prepared : Session → ℕ → SchedState → SchedState
prepared session rid state = staged (λ (e : Experiment). e.prepare) status.Prepared session rid state

abbrev pub analyzed : Session → ℕ → SchedState → SchedState
analyzed session rid state = staged (λ (e : Experiment). e.analyze) status.Done session rid state

-- a run's source was refused
abbrev pub refused : ℕ → SchedState → SchedState
refused rid state =
    let next = if passes (λ (run : Run). run.doomed) state.runs rid then status.Deleted else status.Failed in
    with_run (with_status next) rid (landed rid state)

-- the submissions still to arrive
abbrev pub submissions_left : List Arrival → ℕ
submissions_left arrivals = count_by submits arrivals

-- there is no room for one more run
abbrev pub is_full_of_runs : SchedState → Bool
is_full_of_runs state = nat_le most_runs (length state.runs + submissions_left state.arrivals)

-- what a step comes to: its word, the run's status then, and what else it changes
pub record Effect : Type 0 where
  pub word : StepWord
  pub status : Status
  pub state : SchedState

abbrev pub goes_on : SchedState → Effect
goes_on state = record { word = word.Ok; status = status.Running; state = state }

abbrev pub fails : StepWord → SchedState → Effect
fails how state = record { word = how; status = status.Failed; state = state }

abbrev pub after_kernel : Outcome → SchedState → Effect
after_kernel outcome.Returned state = goes_on state
after_kernel (outcome.Raised exception) state = fails (word.Raised exception) state
after_kernel outcome.Budget state = fails word.Budget state
after_kernel outcome.Horizon state = fails word.Horizon state

-- at a pause a run ends if it was ordered to, and lends its core where a run is higher and it has steps left
abbrev pub paused : Session → Run → SchedState → Effect
paused session run state =
    if run.terminate
    then record { word = word.Terminated; status = status.Terminated; state = state }
    else if nat_lt run.pos (length (run_steps session run)) && some_higher state.runs run.rid state.clock
    then record { word = word.Paused; status = status.Paused; state = state }
    else goes_on state

abbrev pub checked : Run → SchedState → Effect
checked run state =
    if run.terminate then record { word = word.Terminated; status = status.Terminated; state = state } else goes_on state

-- what a step comes to; the run's position and the clock have risen by then
abbrev pub after_storing : SchedState → Option (List Change) → Effect
after_storing state None = fails word.Failed state
after_storing state (Some changes) = goes_on (record state { datasets = datasets_after changes state.datasets })

abbrev pub effect : Session → Run → HostStep → Option KernelResult → SchedState → Effect
effect session run (step.Kernel name args) (Some result) state =
    after_kernel result.outcome (record state { datasets = datasets_after (kernel_changes result.sets) state.datasets })
effect session run (step.Kernel name args) None state = goes_on state
effect session run step.Pause result state = paused session run state
effect session run step.CheckTermination result state = checked run state
effect session run (step.Submit asked) result state =
    if is_full_of_runs state then fails word.Failed state else goes_on (submitted asked state)
effect session run other result state = after_storing state (changes_by other state.datasets)

-- a run that is running with no step left is done with them
abbrev pub status_then : Status → ℕ → ℕ → Status
status_then status.Running pos steps = if nat_le steps pos then status.RunDone else status.Running
status_then other pos steps = other

-- a run that neither runs nor is paused is on no stack
abbrev pub settle : Status → ℕ → SchedState → SchedState
settle status.Running rid state = with_run (with_status status.Running) rid state
settle status.Paused rid state = with_run (with_status status.Paused) rid state
settle other rid state = off_stack other rid state

abbrev pub moved_on : Run → Run
moved_on run = record run { pos = run.pos + 1 }

-- a step that there is has its effect, or none if the run is doomed
abbrev pub run_effect : Session → Run → Option HostStep → Option KernelResult → SchedState → Effect
run_effect session run None result state = goes_on state
run_effect session run (Some step) result state =
    if run.doomed
    then record { word = word.Deleted; status = status.Deleted; state = state }
    else effect session run step result state

-- then the run stands where the effect says, or is done with its steps, and its job isn't in flight any more
abbrev pub settled : Session → Run → Effect → Effect
settled session run end =
    let next = status_then end.status run.pos (length (run_steps session run)) in
    record end { status = next; state = settle next run.rid (landed run.rid end.state) }

abbrev pub step_effect_of : Session → ℕ → Option KernelResult → SchedState → Option Run → Effect
step_effect_of session place result now None = goes_on now
step_effect_of session place result now (Some run) =
    settled session run (run_effect session run (slice_get (run_steps session run) place) result now)

-- the report of a step at this position: the clock rises, what
-- arrives is taken, the position rises; then the step has its effect
abbrev pub after_clock : ℕ → SchedState → SchedState
after_clock rid state = with_run moved_on rid (at_clock (state.clock + 1) state)

abbrev pub step_effect : Session → ℕ → ℕ → Option KernelResult → SchedState → Effect
step_effect session rid place result state =
    step_effect_of session place result (after_clock rid state) (run_of (after_clock rid state).runs rid)
