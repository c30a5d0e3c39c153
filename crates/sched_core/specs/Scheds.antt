-- A scheduler as its callers see it.
use Rattle.std.specs.Prelude.{◌≡◌, ℕ, List, [], slice_get, ℤ, Option, Some, None, IsTrue}
use Rattle.std.specs.List.{AllByRecursion}
use Rattle.exp_runs.specs.declared.run.Run.{Run}
use Rattle.exp_model.specs.declared.session.Session.{Session}
use Rattle.exp_model.specs.declared.session.Experiment.{Experiment}
use Rattle.exp_model.specs.declared.step.HostStep.{HostStep}
use Rattle.exp_model.specs.declared.step.HostStep.TheVariants.{Kernel}
use Rattle.sched_state.specs.declared.entry.SchedEntry.{SchedEntry}
use Rattle.sched_state.specs.State.{SchedState}
use Rattle.sched_state.specs.Lawful.{IsLawful, state_after}
use Rattle.sched_state.specs.Reports.{steps_in}
use Rattle.exp_model.specs.Sessions.{is_session}

-- its session and its history: all else that it tells is what these make of it
pub record SchedValue : Type 0 where
  pub session : Session
  pub history : List SchedEntry

abbrev pub new_sched : Session → SchedValue
new_sched session = record { session = session; history = [] }

-- where it stands
abbrev pub sched_state : SchedValue → SchedState
sched_state sched = state_after sched.session sched.history

-- what is true of every scheduler
pub record IsSched (sched : SchedValue) : Type 0 where
  pub session : IsTrue (is_session sched.session)
  pub lawful : IsLawful sched.session sched.history

-- the number of the source of a run's experiment
abbrev pub found_source : Option Experiment → Option ℕ
found_source None = None
found_source (Some experiment) = Some experiment.source

abbrev pub source_of_run : Session → Run → Option ℕ
source_of_run session run = found_source (slice_get session.experiments run.experiment)

module _ {P : Type 0} where
  -- a kernel step's function is there, and its arguments fit it
  abbrev pub HasCall : (P → List ℕ → List ℤ → Type 0) → P → HostStep → Type 0
  HasCall has_call kit (Kernel name args) = has_call kit name args
  HasCall has_call kit other = Unit {0}

  -- what is kept of an experiment's source is of that source,
  -- stands for its text, and has the functions of its kernel steps
  abbrev pub IsKitIn : (P → ℕ) → (P → List ℕ → Type 0) → (P → List ℕ → List ℤ → Type 0) → Session → ℕ → P → Type 0
  IsKitIn source stands_for has_call session experiment kit =
      record {
        same : found_source (slice_get session.experiments experiment) ≡ Some (source kit);
        text : (text : List ℕ) × (slice_get session.sources (source kit) ≡ Some text) × stands_for kit text;
        calls : AllByRecursion (HasCall has_call kit) (steps_in (λ (e : Experiment). e.run) (slice_get session.experiments experiment));
      }

  abbrev pub IsKitFor : (P → ℕ) → (P → List ℕ → Type 0) → (P → List ℕ → List ℤ → Type 0) → Session → Run → P → Type 0
  IsKitFor source stands_for has_call session run kit = IsKitIn source stands_for has_call session run.experiment kit
