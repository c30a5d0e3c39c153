-- What holds of each state that a lawful history leads to: where each
-- run stands, which of its jobs is in flight, and who is on the stacks.
use Rattle.std.specs.Prelude.{◌≡◌, ◌<ℤ◌, ℕ, ◌+◌, ◌^◌, ◌≤◌, ◌<◌, Bool, true, false, List, []}
use Rattle.std.specs.Prelude.{◌∷◌, filter, map, length, ◌==◌, ◌⊎◌, Option, Some, IsTrue}
use Rattle.std.specs.List.{AllByRecursion, list_any}
use Rattle.exp_runs.specs.declared.run.Run.{Run}
use Rattle.exp_runs.specs.declared.run.Status.{Status}
use Rattle.exp_runs.specs.declared.run.Status.TheVariants as status
use Rattle.exp_runs.specs.Keys.{run_of}
use Rattle.exp_model.specs.declared.session.Session.{Session}
use Rattle.exp_model.specs.declared.arrival.Arrival.{Arrival}
use Rattle.exp_model.specs.Sessions.{is_arrival, sizes_of}
use Rattle.sched_state.specs.declared.entry.Flight.{Flight}
use Rattle.sched_state.specs.declared.entry.JobName.{JobName}
use Rattle.sched_state.specs.declared.entry.JobName.TheVariants.{Prepare, Step, Analyze}
use Rattle.sched_state.specs.State.{SchedState, rid_of, top_of}
use Rattle.sched_state.specs.Boards.{AreNumbered}
use Rattle.sched_state.specs.Reports.{run_steps}

-- the jobs of a run that are in flight
abbrev pub jobs_of : List Flight → ℕ → List JobName
jobs_of flying rid = map (λ (flight : Flight). flight.job) (filter (λ (flight : Flight). rid_of flight.job == rid) flying)

-- a run holds a core, or lent it
abbrev pub is_on : List ℕ → ℕ → Bool
is_on stack rid = list_any (λ other. other == rid) stack

-- a step of the run is in flight, and the run's position is this far ahead of it
abbrev pub HasStep : ℕ → ℕ → ℕ → ℕ → List JobName → Type 0
HasStep steps ahead rid pos jobs = (place : ℕ) × (jobs ≡ Step rid place ∷ []) × (place < steps) × (pos ≡ place + ahead)

-- what goes with a status: the jobs in flight, whether the run is on a stack, and which one is on top of its pipeline's
abbrev pub StandsIn : ℕ → ℕ → ℕ → ℕ → List JobName → Bool → Option ℕ → Status → Type 0
StandsIn steps ahead rid pos jobs on top status.Pending = (jobs ≡ []) × (on ≡ false) × (pos < steps)
StandsIn steps ahead rid pos jobs on top status.Preparing = (jobs ≡ Prepare rid ∷ []) × (on ≡ false) × (pos < steps)
StandsIn steps ahead rid pos jobs on top status.Prepared = (jobs ≡ []) × (on ≡ false) × (pos < steps)
StandsIn steps ahead rid pos jobs on top status.Running = (top ≡ Some rid) × (((jobs ≡ []) × (pos < steps)) ⊎ HasStep steps ahead rid pos jobs)
StandsIn steps ahead rid pos jobs on top status.Paused = (jobs ≡ []) × (on ≡ true) × (pos < steps)
StandsIn steps ahead rid pos jobs on top status.Analyzing = (jobs ≡ Analyze rid ∷ []) × (on ≡ false)
StandsIn steps ahead rid pos jobs on top other = (jobs ≡ []) × (on ≡ false)

abbrev pub Stands : Session → (ℕ → ℕ) → SchedState → Run → Type 0
Stands session ahead state run =
    StandsIn (length (run_steps session run)) (ahead run.rid) run.rid run.pos (jobs_of state.flying run.rid) (is_on state.stack run.rid)
    (top_of state.runs state.stack run.pipeline) run.status

-- a run is of a pipeline and an experiment that there are, and due at a moment that may come
abbrev pub IsRunOf : Session → Run → Type 0
IsRunOf session run =
    record {
      pipeline : run.pipeline < length session.pipelines;
      experiment : run.experiment < length session.experiments;
      due : run.due ≤ 2 ^ 62;
    }

-- one of the same pipeline stands below another only if its priority is less
abbrev pub IsBelow : List Run → ℕ → ℕ → Type 0
IsBelow runs rid below =
    (upper lower : Run) → run_of runs rid ≡ Some upper → run_of runs below ≡ Some lower → lower.pipeline ≡ upper.pipeline → lower.priority <ℤ upper.priority

abbrev pub IsStack : List Run → List ℕ → Type 0
IsStack runs [] = Unit {0}
IsStack runs (rid ∷ rest) = AllByRecursion (IsBelow runs rid) rest × IsStack runs rest

-- it comes later, and may
abbrev pub ComesLater : Session → ℕ → Arrival → Type 0
ComesLater session clock arrival = (clock < arrival.at) × IsTrue (is_arrival (sizes_of session) arrival)

-- each run stands where its status says; while a step is reported its run's position is ahead of the job
abbrev pub IsSoundBy : Session → (ℕ → ℕ) → SchedState → Type 0
IsSoundBy session ahead state =
    record {
      numbered : AreNumbered state.runs;
      fit : AllByRecursion (IsRunOf session) state.runs;
      stands : AllByRecursion (Stands session ahead state) state.runs;
      known : AllByRecursion (λ (flight : Flight). rid_of flight.job < length state.runs) state.flying;
      stacked : AllByRecursion (λ rid. rid < length state.runs) state.stack;
      rising : IsStack state.runs state.stack;
      later : AllByRecursion (ComesLater session state.clock) state.arrivals;
    }

abbrev pub not_ahead : ℕ → ℕ
not_ahead rid = 0

abbrev pub IsSound : Session → SchedState → Type 0
IsSound session state = IsSoundBy session not_ahead state
