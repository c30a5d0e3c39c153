-- What stays with each order that arrives, each submission and each change of clock, arrivals and datasets holds after what
-- arrives, and after the effect of a step.
use Rattle.std.proofs.Common.{◌≡◌, ℕ, Bool, true, false, List, [], ◌∷◌, cond, fold, filter, length, refl}
use Rattle.std.specs.Prelude.{Option, Some, None, nat_lt, not, ◌&&◌, ◌||◌}
use Rattle.rtio_types.specs.declared.outcome.Outcome.{Outcome}
use Rattle.rtio_types.specs.declared.outcome.Outcome.TheVariants as outcome
use Rattle.exp_runs.specs.declared.run.Run.{Run}
use Rattle.exp_runs.specs.declared.run.Status.{Status}
use Rattle.exp_runs.specs.declared.run.Status.TheVariants as status
use Rattle.exp_runs.specs.Keys.{run_of, some_higher}
use Rattle.exp_runs.specs.Statuses.{is_ended, is_pending, is_preparing, is_prepared, is_running, is_paused}
use Rattle.exp_runs.specs.Table.{changed, with_fields, with_status}
use Rattle.exp_model.specs.declared.session.Session.{Session}
use Rattle.exp_model.specs.declared.arrival.Arrival.{Arrival}
use Rattle.exp_model.specs.declared.arrival.ArrivalAct.{ArrivalAct}
use Rattle.exp_model.specs.declared.arrival.ArrivalAct.TheVariants.{Submit, Delete, Terminate}
use Rattle.exp_model.specs.declared.arrival.Submission.{Submission}
use Rattle.exp_model.specs.declared.step.HostStep.{HostStep}
use Rattle.exp_model.specs.declared.step.HostStep.TheVariants as step
use Rattle.sched_state.specs.declared.entry.KernelResult.{KernelResult}
use Rattle.sched_state.specs.declared.entry.StepWord.TheVariants as word
use Rattle.sched_state.specs.State.{SchedState, with_run, off_stack}
use Rattle.sched_state.specs.Arrivals.{has_come, submitted, is_busy, deleted, deleted_run, doomed, ordered_to_end, terminated_run, arrived, at_clock}
use Rattle.dataset_db.specs.Datasets.{Change, Dataset, datasets_after}
use Rattle.sched_state.specs.Datasets.{changes_by, kernel_changes}
use Rattle.sched_state.specs.Reports.{Effect, run_steps, is_full_of_runs, fails, goes_on, after_kernel, effect, after_storing, run_effect, settle}

-- a step may submit a run, and change datasets
pub record IsKept (P : SchedState → Type 0) : Type 0 where
  pub push : (asked : Submission) (state : SchedState) → P state → P (submitted asked state)
  pub store : (datasets : List Dataset) (state : SchedState) → P state → P (record state { datasets = datasets })

-- orders change a run or delete it, and the clock moves
pub record IsSteady (P : SchedState → Type 0) : Type 0 where
  pub kept : IsKept P
  pub orders : (t d : Bool) (rid : ℕ) (run : Run) (state : SchedState) → run_of state.runs rid ≡ Some run → P state
      → P (with_run (with_fields run.pos t d) rid state)
  pub delete : (rid : ℕ) (run : Run) (state : SchedState) → run_of state.runs rid ≡ Some run → P state → P (off_stack status.Deleted rid state)
  pub moves : (clock : ℕ) (arrivals : List Arrival) (state : SchedState) → P state → P (record state { clock = clock; arrivals = arrivals })

module _ (P : SchedState → Type 0) (steady : IsSteady P) where
  either : (b : Bool) (x y : SchedState) → P x → P y → P (cond b x y)
  either true x y p q = p
  either false x y p q = q

  by-delete-of : (rid : ℕ) (state : SchedState) (found : Option Run) → run_of state.runs rid ≡ found → P state → P (deleted_run rid state found)
  by-delete-of rid state None there was = was
  by-delete-of rid state (Some run) there was =
      let busy : SchedState = with_run (doomed run) rid state in
      let idle : SchedState = off_stack status.Deleted rid state in
      either (is_ended run.status) state (cond (is_busy state.flying run) busy idle) was
      (either (is_busy state.flying run) busy idle (steady.orders run.terminate true rid run state there was) (steady.delete rid run state there was))

  by-delete : (rid : ℕ) (state : SchedState) → P state → P (deleted rid state)
  by-delete rid state was = by-delete-of rid state (run_of state.runs rid) refl was

  by-terminate-of : (rid : ℕ) (state : SchedState) (found : Option Run) → run_of state.runs rid ≡ found → P state → P (terminated_run rid state found)
  by-terminate-of rid state None there was = was
  by-terminate-of rid state (Some run) there was =
      let holds : Bool = is_running run.status || is_paused run.status in
      let waits : Bool = is_pending run.status || is_preparing run.status || is_prepared run.status in
      let ordered : SchedState = with_run (ordered_to_end run) rid state in
      either holds ordered (cond waits (deleted rid state) state) (steady.orders true run.doomed rid run state there was)
      (either waits (deleted rid state) state (by-delete rid state was) was)

  by-arrival : (state : SchedState) (what : ArrivalAct) → P state → P (arrived state what)
  by-arrival state (Submit asked) was = steady.kept.push asked state was
  by-arrival state (Delete rid) was = by-delete rid state was
  by-arrival state (Terminate rid) was = by-terminate-of rid state (run_of state.runs rid) refl was

  by-arrivals : (arrivals : List Arrival) (state : SchedState) → P state → P (fold (λ before (arrival : Arrival). arrived before arrival.act) state arrivals)
  by-arrivals [] state was = was
  by-arrivals (arrival ∷ arrivals) state was = by-arrivals arrivals (arrived state arrival.act) (by-arrival state arrival.act was)

  pub by-clock : (clock : ℕ) (state : SchedState) → P state → P (at_clock clock state)
  by-clock clock state was =
      let left : List Arrival = filter (λ arrival. not (has_come clock arrival)) state.arrivals in
      by-arrivals (filter (has_come clock) state.arrivals) (record state { clock = clock; arrivals = left }) (steady.moves clock left state was)

module _ (P : SchedState → Type 0) (kept : IsKept P) where
  abbrev Keeps : Effect → Type 0
  Keeps end = P end.state

  either-end : (b : Bool) (x y : Effect) → Keeps x → Keeps y → Keeps (cond b x y)
  either-end true x y p q = p
  either-end false x y p q = q

  by-kernel : (how : Outcome) (state : SchedState) → P state → Keeps (after_kernel how state)
  by-kernel outcome.Returned state was = was
  by-kernel (outcome.Raised exception) state was = was
  by-kernel outcome.Budget state was = was
  by-kernel outcome.Horizon state was = was

  by-storing : (state : SchedState) (found : Option (List Change)) → P state → Keeps (after_storing state found)
  by-storing state None was = was
  by-storing state (Some changes) was = kept.store (datasets_after changes state.datasets) state was

  by-effect : (session : Session) (run : Run) (what : HostStep) (result : Option KernelResult) (state : SchedState) → P state
      → Keeps (effect session run what result state)
  by-effect session run (step.Kernel name args) (Some result) state was =
      by-kernel result.outcome _ (kept.store (datasets_after (kernel_changes result.sets) state.datasets) state was)
  by-effect session run (step.Kernel name args) None state was = was
  by-effect session run step.Pause result state was =
      let lends : Bool = nat_lt run.pos (length (run_steps session run)) && some_higher state.runs run.rid state.clock in
      let ends : Effect = record { word = word.Terminated; status = status.Terminated; state = state } in
      let lent : Effect = record { word = word.Paused; status = status.Paused; state = state } in
      either-end run.terminate ends (cond lends lent (goes_on state)) was (either-end lends lent (goes_on state) was was)
  by-effect session run step.CheckTermination result state was =
      either-end run.terminate (record { word = word.Terminated; status = status.Terminated; state = state }) (goes_on state) was was
  by-effect session run (step.Submit asked) result state was =
      either-end (is_full_of_runs state) (fails word.Failed state) (goes_on (submitted asked state)) was (kept.push asked state was)
  by-effect session run (step.Set name value broadcast persist archive) result state was =
      by-storing state (changes_by (step.Set name value broadcast persist archive) state.datasets) was
  by-effect session run (step.Append name item) result state was = by-storing state (changes_by (step.Append name item) state.datasets) was
  by-effect session run (step.Sum name target) result state was = by-storing state (changes_by (step.Sum name target) state.datasets) was

  pub by-run-effect : (session : Session) (run : Run) (what : Option HostStep) (result : Option KernelResult) (state : SchedState) → P state
      → Keeps (run_effect session run what result state)
  by-run-effect session run None result state was = was
  by-run-effect session run (Some what) result state was =
      either-end run.doomed (record { word = word.Deleted; status = status.Deleted; state = state }) (effect session run what result state) was
      (by-effect session run what result state was)

-- a run stands elsewhere, on its stack or off it
pub by-settling : (P : SchedState → Type 0) (is : Status) (rid : ℕ) (state : SchedState) → P (with_run (with_status is) rid state) → P (off_stack is rid state)
    → P (settle is rid state)
by-settling P status.Pending rid state on off = off
by-settling P status.Preparing rid state on off = off
by-settling P status.Prepared rid state on off = off
by-settling P status.Running rid state on off = on
by-settling P status.Paused rid state on off = on
by-settling P status.RunDone rid state on off = off
by-settling P status.Analyzing rid state on off = off
by-settling P status.Done rid state on off = off
by-settling P status.Failed rid state on off = off
by-settling P status.Terminated rid state on off = off
by-settling P status.Deleted rid state on off = off

pub settle-runs : (is : Status) (rid : ℕ) (state : SchedState) → (settle is rid state).runs ≡ changed (with_status is) rid state.runs
settle-runs is rid state = by-settling (λ s. s.runs ≡ changed (with_status is) rid state.runs) is rid state refl refl
