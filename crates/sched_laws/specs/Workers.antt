-- What the workers of a laboratory rest on: which jobs are in
-- flight and how they stand, and that what is over stays over.
use Rattle.std.specs.Prelude.{◌≡◌, ◌↔◌, ℕ, ◌≤◌, ◌<◌, ◌==◌, not, List, [], ◌∷◌, ◌++◌}
use Rattle.std.specs.Prelude.{filter, length, slice_get, Option, Some, None, IsTrue}
use Rattle.std.specs.List.{AllByRecursion}
use Rattle.exp_runs.specs.declared.run.Run.{Run}
use Rattle.exp_runs.specs.declared.run.Status.{Status}
use Rattle.exp_runs.specs.declared.run.Status.TheVariants.{Preparing, Running, Analyzing}
use Rattle.exp_runs.specs.Keys.{run_of}
use Rattle.exp_model.specs.declared.session.Session.{Session}
use Rattle.exp_model.specs.declared.session.Experiment.{Experiment}
use Rattle.exp_model.specs.declared.step.HostStep.{HostStep}
use Rattle.exp_model.specs.Sessions.{is_session}
use Rattle.sched_state.specs.declared.entry.Flight.{Flight}
use Rattle.sched_state.specs.declared.entry.JobName.{JobName}
use Rattle.sched_state.specs.declared.entry.JobName.TheVariants.{Prepare, Step, Analyze}
use Rattle.sched_state.specs.declared.entry.SchedAct.{SchedAct}
use Rattle.sched_state.specs.declared.entry.SchedAct.TheVariants as act
use Rattle.sched_state.specs.declared.entry.SchedEntry.{SchedEntry}
use Rattle.sched_state.specs.State.{SchedState, rid_of}
use Rattle.sched_state.specs.Picks.{is_over}
use Rattle.sched_state.specs.Lawful.{IsFlying, IsLawful, state_after, step_at}
use Rattle.sched_laws.specs.Ladder.{takes}

-- the job that an act reports
abbrev pub reported : SchedAct → Option JobName
reported (act.Prepared rid) = Some (Prepare rid)
reported (act.Stepped rid place pipeline clock result word) = Some (Step rid place)
reported (act.Analyzed rid) = Some (Analyze rid)
reported (act.SourceRefused rid) = Some (Prepare rid)
reported other = None

-- the chair reports the job
abbrev pub Reports : ℕ → JobName → SchedEntry → Type 0
Reports chair job entry = (entry.chair ≡ chair) × (reported entry.act ≡ Some job)

-- the chair took the job, and hasn't reported it since
abbrev pub HasTaken : List SchedEntry → ℕ → JobName → Type 0
HasTaken history chair job =
    (early : List SchedEntry) × (late : List SchedEntry)
    × (history ≡ early ++ takes chair job ∷ late) × AllByRecursion (λ entry. Reports chair job entry → ⊥) late

-- a job is in flight for a chair while that chair has taken and not yet reported it, and then alone
abbrev pub JobsFlyUntilReported : Type 0
JobsFlyUntilReported =
    (session : Session) (history : List SchedEntry) (chair : ℕ) (job : JobName) → IsTrue (is_session session) → IsLawful session history
    → HasTaken history chair job ↔ IsFlying (state_after session history) chair job

-- a job is reported by the chair that has taken it
abbrev pub TakersReport : Type 0
TakersReport =
    (session : Session) (before : List SchedEntry) (entry : SchedEntry) (job : JobName) → IsTrue (is_session session) → IsLawful session (before ++ entry ∷ [])
    → reported entry.act ≡ Some job → HasTaken before entry.chair job

-- the jobs of a run that are in flight
abbrev pub flights_of : SchedState → ℕ → List Flight
flights_of state rid = filter (λ (flight : Flight). rid_of flight.job == rid) state.flying

-- of each run at most one job is in flight
abbrev pub OneFlightARun : Type 0
OneFlightARun =
    (session : Session) (history : List SchedEntry) (rid : ℕ) → IsTrue (is_session session) → IsLawful session history
    → length (flights_of (state_after session history) rid) ≤ 1

-- and for one chair
abbrev pub OneChairARun : Type 0
OneChairARun =
    (session : Session) (history : List SchedEntry) (chair other : ℕ) (job next : JobName) → IsTrue (is_session session) → IsLawful session history
    → IsFlying (state_after session history) chair job → IsFlying (state_after session history) other next → rid_of job ≡ rid_of next
    → (other ≡ chair) × (next ≡ job)

-- those of other runs fly on where a job is reported
abbrev pub left_flying : Option JobName → List Flight → List Flight
left_flying None flying = flying
left_flying (Some job) flying = filter (λ (flight : Flight). not (rid_of flight.job == rid_of job)) flying

-- the jobs in flight after an act: one that is taken comes last, and one that is reported leaves
abbrev pub flying_after : ℕ → SchedAct → List Flight → List Flight
flying_after chair (act.Took job) flying = flying ++ record { chair = chair; job = job } ∷ []
flying_after chair what flying = left_flying (reported what) flying

-- by each entry the jobs in flight change so, and no other way
abbrev pub FlightsFollow : Type 0
FlightsFollow =
    (session : Session) (before : List SchedEntry) (entry : SchedEntry) → IsTrue (is_session session) → IsLawful session (before ++ entry ∷ [])
    → (state_after session (before ++ entry ∷ [])).flying ≡ flying_after entry.chair entry.act (state_after session before).flying

-- the status of a run while a job of it is in flight
abbrev pub status_for : JobName → Status
status_for (Prepare rid) = Preparing
status_for (Step rid place) = Running
status_for (Analyze rid) = Analyzing

-- a step that is in flight is the one at its run's position
abbrev pub StepStands : Session → SchedState → JobName → Run → Type 0
StepStands session state (Step rid place) run = (run.pos ≡ place) × (step : HostStep) × (step_at session state rid place ≡ Some step)
StepStands session state other run = Unit {0}

-- how the run of a job in flight stands: its pipeline is there, and its experiment, and the text of its kernels
pub record RunStands (session : Session) (state : SchedState) (job : JobName) (run : Run) : Type 0 where
  pub status : run.status ≡ status_for job
  pub pipeline : run.pipeline < length session.pipelines
  pub source : (experiment : Experiment) × (slice_get session.experiments run.experiment ≡ Some experiment) × (experiment.source < length session.sources)
  pub step : StepStands session state job run

-- while a job is in flight, its run stands so
abbrev pub FlyingJobsStand : Type 0
FlyingJobsStand =
    (session : Session) (history : List SchedEntry) (chair : ℕ) (job : JobName) → IsTrue (is_session session) → IsLawful session history
    → IsFlying (state_after session history) chair job
    → (run : Run) × (run_of (state_after session history).runs (rid_of job) ≡ Some run) × RunStands session (state_after session history) job run

-- once no arrival is left and every run ended, nothing comes but a halt, and all stays as it is
abbrev pub OverStays : Type 0
OverStays =
    (session : Session) (before after : List SchedEntry) → IsTrue (is_session session) → IsLawful session (before ++ after)
    → IsTrue (is_over (state_after session before))
    → (state_after session (before ++ after) ≡ state_after session before) × AllByRecursion (λ (entry : SchedEntry). entry.act ≡ act.Halted) after
