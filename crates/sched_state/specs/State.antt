-- The state of a scheduler.
use Rattle.std.specs.Prelude.{ℕ, Bool, false, not, List, filter, find, ◌==◌, Option, Some, None}
use Rattle.std.specs.List.{list_any}
use Rattle.exp_runs.specs.declared.run.Run.{Run}
use Rattle.exp_runs.specs.declared.run.Status.{Status}
use Rattle.exp_runs.specs.Keys.{is_of, run_of}
use Rattle.exp_runs.specs.Table.{changed, with_status}
use Rattle.exp_model.specs.declared.arrival.Arrival.{Arrival}
use Rattle.dataset_db.specs.Datasets.{Dataset}
use Rattle.sched_state.specs.declared.entry.Flight.{Flight}
use Rattle.sched_state.specs.declared.entry.JobName.{JobName}
use Rattle.sched_state.specs.declared.entry.JobName.TheVariants.{Prepare, Step, Analyze}

-- the runs by number; those that hold a core, the last one that got it first;
-- the jobs in flight; the lab clock; what is still to arrive; the datasets
pub record SchedState : Type 0 where
  pub runs : List Run
  pub stack : List ℕ
  pub flying : List Flight
  pub clock : ℕ
  pub arrivals : List Arrival
  pub datasets : List Dataset

-- the run of a job
abbrev pub rid_of : JobName → ℕ
rid_of (Prepare rid) = rid
rid_of (Step rid pos) = rid
rid_of (Analyze rid) = rid

abbrev pub is_step_of : ℕ → JobName → Bool
is_step_of rid (Step other pos) = other == rid
is_step_of rid job = false

-- a step of the run is in flight
abbrev pub is_stepping : List Flight → ℕ → Bool
is_stepping flying rid = list_any (λ (flight : Flight). is_step_of rid flight.job) flying

-- the run with this number passes a test
abbrev pub found_passes : (Run → Bool) → Option Run → Bool
found_passes test None = false
found_passes test (Some run) = test run

abbrev pub passes : (Run → Bool) → List Run → ℕ → Bool
passes test runs rid = found_passes test (run_of runs rid)

-- the job is a step of a run of this pipeline
abbrev pub is_step_in : List Run → ℕ → JobName → Bool
is_step_in runs pipeline (Step rid pos) = passes (is_of pipeline) runs rid
is_step_in runs pipeline job = false

-- the stack of a pipeline, its top first
abbrev pub stack_of : SchedState → ℕ → List ℕ
stack_of state pipeline = filter (passes (is_of pipeline) state.runs) state.stack

-- its top
abbrev pub top_of : List Run → List ℕ → ℕ → Option ℕ
top_of runs stack pipeline = find (passes (is_of pipeline) runs) stack

-- the state with one run changed
abbrev pub with_run : (Run → Run) → ℕ → SchedState → SchedState
with_run change rid state = record state { runs = changed change rid state.runs }

-- a run gets a status, and is on no stack any more
abbrev pub off_stack : Status → ℕ → SchedState → SchedState
off_stack status rid state =
    record state { runs = changed (with_status status) rid state.runs; stack = filter (λ other. not (other == rid)) state.stack }

-- the job of a run isn't in flight any more
abbrev pub landed : ℕ → SchedState → SchedState
landed rid state = record state { flying = filter (λ (flight : Flight). not (rid_of flight.job == rid)) state.flying }
