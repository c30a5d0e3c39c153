-- Changes of a state.
use Rattle.std.proofs.Common.{◌≡◌, ℕ, Bool, false, ◌∙◌, ap, cond}
use Rattle.std.specs.Prelude.{Some, Result, Ok, Err, OnOk}
use Rattle.exp_runs.specs.declared.run.Run.{Run}
use Rattle.exp_runs.specs.declared.run.Status.TheVariants.{Deleted}
use Rattle.exp_runs.specs.Keys.{run_of}
use Rattle.exp_runs.specs.Statuses.{is_ended}
use Rattle.sched_state.specs.State.{SchedState, with_run, off_stack}
use Rattle.sched_state.specs.Arrivals.{is_busy, deleted, deleted_run, doomed}

pub ok-map : {X E : Type 0} {P Q : Type 0} (r : Result X E) → (P → Q) → OnOk r P → OnOk r Q
ok-map (Ok x) f p = f p
ok-map (Err e) f p = tt

chosen-last : (a b : Bool) (x y z : SchedState) → a ≡ false → b ≡ false → cond a x (cond b y z) ≡ z
chosen-last a b x y z e f = ap (λ c. cond c x (cond b y z)) e ∙ ap (λ c. cond c y z) f

-- a run that hasn't ended, and of which no job is in flight, is deleted at once
pub deleted-at : (rid : ℕ) (state : SchedState) (run : Run) → run_of state.runs rid ≡ Some run → is_ended run.status ≡ false → is_busy state.flying run ≡ false → deleted rid state ≡ off_stack Deleted rid state
deleted-at rid state run there lives idle =
    ap (deleted_run rid state) there
    ∙ chosen-last (is_ended run.status) (is_busy state.flying run) state (with_run (doomed run) rid state) (off_stack Deleted rid state) lives idle
