-- The state of a scheduler as it is kept.
use Rattle.std.specs.Prelude.{◌≡◌, ℕ, ◌+◌, ◌<◌, Bool, true, false, List, [], ◌∷◌}
use Rattle.std.specs.Prelude.{drop, if◌then◌else◌, Option, Some, None, IsSome}
use Rattle.std.specs.List.{AllByRecursion}
use Rattle.exp_runs.specs.declared.run.Run.{Run}
use Rattle.exp_runs.specs.Keys.{run_of}
use Rattle.exp_model.specs.declared.arrival.Arrival.{Arrival}
use Rattle.exp_model.specs.declared.arrival.ArrivalAct.{ArrivalAct}
use Rattle.exp_model.specs.declared.arrival.ArrivalAct.TheVariants.{Submit, Delete}
use Rattle.dataset_db.specs.Datasets.{Change, Dataset, datasets_after}
use Rattle.exp_runs.specs.declared.run.Status.{Status}
use Rattle.exp_runs.specs.declared.run.Status.TheVariants.{Deleted}
use Rattle.exp_runs.specs.Table.{with_status}
use Rattle.exp_model.specs.declared.step.HostStep.{HostStep}
use Rattle.sched_state.specs.Datasets.{Stage, stage}
use Rattle.sched_state.specs.Reports.{after_stage}
use Rattle.sched_state.specs.declared.board.Board.{Board}
use Rattle.sched_state.specs.State.{SchedState, landed, with_run}

-- the state, with what is still to arrive and the datasets
abbrev pub state_with : List Arrival → List Dataset → Board → SchedState
state_with left datasets b =
    record {
      runs = b.runs.runs;
      stack = b.stack.items;
      flying = b.flying.items;
      clock = b.clock;
      arrivals = left;
      datasets = datasets;
    }

-- a change of the state, whatever is still to arrive and whatever the datasets are
pub record Becomes (change : SchedState → SchedState) (old new : Board) : Type 0 where
  pub state : (left : List Arrival) (datasets : List Dataset) → state_with left datasets new ≡ change (state_with left datasets old)
  pub taken : new.taken ≡ old.taken
  pub pipelines : new.runs.pipelines ≡ old.runs.pipelines

-- the state, where these are all arrivals
abbrev pub state_of : List Arrival → List Dataset → Board → SchedState
state_of arrivals datasets b = state_with (drop b.taken arrivals) datasets b

-- each number is that of a run
abbrev pub AreKnown : List Run → List ℕ → Type 0
AreKnown runs rids = AllByRecursion (λ rid. IsSome (run_of runs rid)) rids

-- what arrives names a pipeline that there is
abbrev pub IsActFor : ℕ → ArrivalAct → Type 0
IsActFor pipelines (Submit asked) = asked.pipeline < pipelines
IsActFor pipelines other = Unit {0}

-- the runs stand by their numbers, from this one on
abbrev pub AreNumberedFrom : ℕ → List Run → Type 0
AreNumberedFrom from [] = Unit {0}
AreNumberedFrom from (run ∷ runs) = (run.rid ≡ from) × AreNumberedFrom (from + 1) runs

abbrev pub AreNumbered : List Run → Type 0
AreNumbered runs = AreNumberedFrom 0 runs

-- stands where nothing arrives
abbrev pub no_arrival : Arrival
no_arrival = record { at = 0; act = Delete 0 }

-- what a step does to datasets was done, or it failed and left them
abbrev pub IsStored : Option (List Change) → Bool → List Dataset → List Dataset → Type 0
IsStored None fine old new = (fine ≡ false) × (new ≡ old)
IsStored (Some changes) fine old new = (fine ≡ true) × (new ≡ datasets_after changes old)

-- so were the steps of a stage, up to the first that fails
abbrev pub HasStored : Stage → Bool → List Dataset → List Dataset → Type 0
HasStored done fine old new = (fine ≡ done.fine) × (new ≡ datasets_after done.changes old)

-- a run was prepared or analyzed, and these were the steps of the stage
abbrev pub staged_by : List HostStep → Status → Run → SchedState → SchedState
staged_by steps next run state =
    if run.doomed then with_run (with_status Deleted) run.rid (landed run.rid state) else after_stage next run.rid (stage steps state.datasets) (landed run.rid state)
