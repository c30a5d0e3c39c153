-- That sources are refused rightly.
use Rattle.std.specs.Prelude.{◌≡◌, ℕ, List, Some}
use Rattle.exp_runs.specs.declared.run.Run.{Run}
use Rattle.exp_runs.specs.Keys.{run_of}
use Rattle.exp_model.specs.declared.session.Session.{Session}
use Rattle.sched_state.specs.declared.entry.SchedAct.{SchedAct}
use Rattle.sched_state.specs.declared.entry.SchedAct.TheVariants.{Prepared, SourceRefused}
use Rattle.sched_state.specs.declared.entry.SchedEntry.{SchedEntry}
use Rattle.sched_state.specs.Lawful.{state_after}
use Rattle.lab_kits.specs.Accepted.{IsAccepted}

-- there is a run with this number, of which it holds
abbrev pub OfRun : Session → List SchedEntry → (rid : ℕ) → (Run → Type 0) → Type 0
OfRun session sched rid P = (run : Run) × (run_of (state_after session sched).runs rid ≡ Some run) × P run

-- a run is reported as prepared only where its source is accepted, and its source as refused only where it isn't
abbrev pub IsJudged : Session → List SchedEntry → SchedAct → Type 0
IsJudged session sched (Prepared rid) = OfRun session sched rid (IsAccepted session)
IsJudged session sched (SourceRefused rid) = OfRun session sched rid (λ run. IsAccepted session run → ⊥)
IsJudged session sched act = Unit {0}
