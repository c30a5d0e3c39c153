-- What holds of every lawful history: preemption, and datasets.
use Rattle.std.specs.Prelude.{◌≡◌, ℕ, ◌≤◌, ◌<ℤ◌, true, false, List, [], ◌∷◌, ◌++◌, filter}
use Rattle.std.specs.Prelude.{length, slice_get, if◌then◌else◌, Option, Some, None, IsTrue}
use Rattle.exp_runs.specs.declared.run.Run.{Run}
use Rattle.exp_runs.specs.declared.run.Status.TheVariants.{Prepared, Paused}
use Rattle.exp_runs.specs.Keys.{run_of, some_higher}
use Rattle.exp_model.specs.declared.session.Session.{Session}
use Rattle.exp_model.specs.declared.session.Experiment.{Experiment}
use Rattle.exp_model.specs.declared.step.HostStep.{HostStep}
use Rattle.exp_model.specs.declared.step.HostStep.TheVariants as step
use Rattle.dataset_db.specs.Datasets.{Dataset, Change, datasets_after}
use Rattle.sched_state.specs.declared.entry.KernelResult.{KernelResult}
use Rattle.sched_state.specs.declared.entry.SchedAct.{SchedAct}
use Rattle.sched_state.specs.declared.entry.SchedAct.TheVariants as act
use Rattle.sched_state.specs.Arrivals.{opening}
use Rattle.sched_state.specs.Datasets.{stage, changes_by, kernel_changes}
use Rattle.sched_state.specs.Reports.{after_clock, run_steps, steps_of}
use Rattle.sched_state.specs.declared.entry.Flight.{Flight}
use Rattle.sched_state.specs.declared.entry.JobName.{JobName}
use Rattle.sched_state.specs.declared.entry.JobName.TheVariants.{Prepare, Step}
use Rattle.sched_state.specs.declared.entry.SchedEntry.{SchedEntry}
use Rattle.sched_state.specs.State.{SchedState, is_step_in, stack_of}
use Rattle.exp_model.specs.Sessions.{is_session}
use Rattle.sched_state.specs.Picks.{is_over, next_date, pick}
use Rattle.sched_state.specs.Lawful.{IsLawful, state_after, after_entry}
use Rattle.sched_laws.specs.Sound.{is_on}

-- the chair takes the job
abbrev pub takes : ℕ → JobName → SchedEntry
takes chair job = record { chair = chair; act = act.Took job }

-- this job is taken next
abbrev pub and_takes : List SchedEntry → ℕ → JobName → List SchedEntry
and_takes before chair job = before ++ takes chair job ∷ []

-- the run began to prepare, and its due date was reached whenever it did
pub record BeganWhenDue (session : Session) (history : List SchedEntry) (run : Run) : Type 0 where
  pub began : (early : List SchedEntry) × (chair : ℕ) × (late : List SchedEntry) × (history ≡ early ++ takes chair (Prepare run.rid) ∷ late)
  pub due : (early late : List SchedEntry) (chair : ℕ) → history ≡ early ++ takes chair (Prepare run.rid) ∷ late → run.due ≤ (state_after session early).clock

-- the run comes upon its pipeline's stack by a step of it that is taken: it is prepared,
-- and was due; and each run that stands there is paused and has a lower priority
pub record Preempts (session : Session) (before : List SchedEntry) (entry : SchedEntry) (upper : Run) : Type 0 where
  pub taken : (place : ℕ) × (entry.act ≡ act.Took (Step upper.rid place))
  pub prepared : upper.status ≡ Prepared
  pub due : BeganWhenDue session before upper
  pub over :
      (lower : Run) → run_of (state_after session before).runs lower.rid ≡ Some lower
      → is_on (stack_of (state_after session before) upper.pipeline) lower.rid ≡ true
      → (lower.status ≡ Paused) × (lower.priority <ℤ upper.priority)

-- a run that an entry brings upon the stacks preempts those that stand on its pipeline's
abbrev pub PreemptsByPriority : Type 0
PreemptsByPriority =
    (session : Session) (before : List SchedEntry) (entry : SchedEntry) (rid : ℕ) → IsTrue (is_session session) → IsLawful session (before ++ entry ∷ [])
    → is_on (state_after session before).stack rid ≡ false → is_on (state_after session (before ++ entry ∷ [])).stack rid ≡ true
    → (upper : Run) × (run_of (state_after session before).runs rid ≡ Some upper) × Preempts session before entry upper

-- each run of a stack, its top first, has a greater priority than the one below it
abbrev pub IsRising : SchedState → List ℕ → Type 0
IsRising state [] = Unit {0}
IsRising state (rid ∷ []) = Unit {0}
IsRising state (rid ∷ below ∷ rest) =
    ((upper lower : Run) → run_of state.runs rid ≡ Some upper → run_of state.runs below ≡ Some lower → lower.priority <ℤ upper.priority)
    × IsRising state (below ∷ rest)

abbrev pub PrioritiesRise : Type 0
PrioritiesRise =
    (session : Session) (history : List SchedEntry) (pipeline : ℕ) → IsTrue (is_session session) → IsLawful session history
    → IsRising (state_after session history) (stack_of (state_after session history) pipeline)

-- a paused run goes on only where no run is higher
abbrev pub PausedRunsWait : Type 0
PausedRunsWait =
    (session : Session) (before : List SchedEntry) (chair rid place : ℕ) (run : Run) → IsTrue (is_session session)
    → IsLawful session (and_takes before chair (Step rid place)) → run_of (state_after session before).runs rid ≡ Some run → run.status ≡ Paused
    → some_higher (state_after session before).runs rid (state_after session before).clock ≡ false

-- the steps in flight of a pipeline
abbrev pub steps_flying : SchedState → ℕ → List Flight
steps_flying state pipeline = filter (λ (flight : Flight). is_step_in state.runs pipeline flight.job) state.flying

abbrev pub OneStepEach : Type 0
OneStepEach =
    (session : Session) (history : List SchedEntry) (pipeline : ℕ) → IsTrue (is_session session) → IsLawful session history
    → length (steps_flying (state_after session history) pipeline) ≤ 1

-- the sets and appends of an act
abbrev pub stage_changes : (Experiment → List HostStep) → Session → SchedState → Option Run → List Change
stage_changes of_stage session state None = []
stage_changes of_stage session state (Some run) =
    if run.doomed then [] else (stage (steps_of of_stage session run) state.datasets).changes

abbrev pub or_no_changes : Option (List Change) → List Change
or_no_changes None = []
or_no_changes (Some changes) = changes

abbrev pub changes_of_step : HostStep → Option KernelResult → List Dataset → List Change
changes_of_step (step.Kernel name args) (Some result) datasets = kernel_changes result.sets
changes_of_step step result datasets = or_no_changes (changes_by step datasets)

abbrev pub changes_of_found : Option HostStep → Option KernelResult → List Dataset → List Change
changes_of_found None result datasets = []
changes_of_found (Some step) result datasets = changes_of_step step result datasets

-- a step of a run that was deleted meanwhile changes nothing
abbrev pub changes_of_run : Session → ℕ → Option KernelResult → List Dataset → Option Run → List Change
changes_of_run session place result datasets None = []
changes_of_run session place result datasets (Some run) =
    if run.doomed then [] else changes_of_found (slice_get (run_steps session run) place) result datasets

abbrev pub changes_of_act : Session → SchedState → SchedAct → List Change
changes_of_act session state (act.Prepared rid) = stage_changes (λ (e : Experiment). e.prepare) session state (run_of state.runs rid)
changes_of_act session state (act.Stepped rid place pipeline clock result word) =
    changes_of_run session place result state.datasets (run_of (after_clock rid state).runs rid)
changes_of_act session state (act.Analyzed rid) = stage_changes (λ (e : Experiment). e.analyze) session state (run_of state.runs rid)
changes_of_act session state other = []

-- the sets and appends of a history, in order
abbrev pub changes_from : Session → SchedState → List SchedEntry → List Change
changes_from session state [] = []
changes_from session state (entry ∷ rest) = changes_of_act session state entry.act ++ changes_from session (after_entry session state entry) rest

-- the datasets are those that the sets and appends of the history make, in order
abbrev pub DatasetsAreSetAndAppended : Type 0
DatasetsAreSetAndAppended =
    (session : Session) (history : List SchedEntry) → IsTrue (is_session session) → IsLawful session history
    → (state_after session history).datasets ≡ datasets_after (changes_from session (opening session) history) []

-- with no job due, none in flight and no later date, all is over
abbrev pub NeverStuck : Type 0
NeverStuck =
    (session : Session) (history : List SchedEntry) → IsTrue (is_session session) → IsLawful session history
    → pick session (state_after session history) ≡ None → (state_after session history).flying ≡ [] → next_date (state_after session history) ≡ None
    → IsTrue (is_over (state_after session history))

-- there are never more than 64 runs
abbrev pub RunsAreFew : Type 0
RunsAreFew =
    (session : Session) (history : List SchedEntry) → IsTrue (is_session session) → IsLawful session history → length (state_after session history).runs ≤ 64

-- a run keeps what it was submitted with, whatever comes after
abbrev pub RunsStay : Type 0
RunsStay =
    (session : Session) (before after : List SchedEntry) (rid : ℕ) (run : Run) → run_of (state_after session before).runs rid ≡ Some run
    → (now : Run) × (run_of (state_after session (before ++ after)).runs rid ≡ Some now) × (now.experiment ≡ run.experiment)
    × (now.pipeline ≡ run.pipeline) × (now.due ≡ run.due) × (now.priority ≡ run.priority) × (now.flush ≡ run.flush)
