-- Runs stand by their numbers after every history.
use Rattle.std.proofs.Common.{◌≡◌, ℕ, ◌+◌, Bool, true, false, List, [], ◌∷◌, cond, fold, filter, length, refl, arith}
use Rattle.std.specs.Prelude.{Option, Some, None, slice_get, nat_lt, not, ◌&&◌, ◌||◌}
use Rattle.rtio_types.specs.declared.outcome.Outcome.{Outcome}
use Rattle.rtio_types.specs.declared.outcome.Outcome.TheVariants as outcome
use Rattle.exp_runs.specs.declared.run.Run.{Run}
use Rattle.exp_runs.specs.declared.run.Status.{Status}
use Rattle.exp_runs.specs.declared.run.Status.TheVariants as status
use Rattle.exp_runs.specs.Keys.{run_of, some_higher}
use Rattle.exp_runs.specs.Statuses.{is_ended, is_pending, is_preparing, is_prepared, is_running, is_paused}
use Rattle.exp_runs.specs.Table.{with_status}
use Rattle.exp_model.specs.declared.session.Session.{Session}
use Rattle.exp_model.specs.declared.session.Experiment.{Experiment}
use Rattle.exp_model.specs.declared.arrival.Arrival.{Arrival}
use Rattle.exp_model.specs.declared.arrival.ArrivalAct.{ArrivalAct}
use Rattle.exp_model.specs.declared.arrival.ArrivalAct.TheVariants.{Submit, Delete, Terminate}
use Rattle.exp_model.specs.declared.arrival.Submission.{Submission}
use Rattle.exp_model.specs.declared.step.HostStep.{HostStep}
use Rattle.exp_model.specs.declared.step.HostStep.TheVariants as step
use Rattle.sched_state.specs.declared.entry.JobName.{JobName}
use Rattle.sched_state.specs.declared.entry.JobName.TheVariants.{Prepare, Step, Analyze}
use Rattle.sched_state.specs.declared.entry.KernelResult.{KernelResult}
use Rattle.sched_state.specs.declared.entry.SchedAct.{SchedAct}
use Rattle.sched_state.specs.declared.entry.SchedAct.TheVariants as act
use Rattle.sched_state.specs.declared.entry.SchedEntry.{SchedEntry}
use Rattle.sched_state.specs.declared.entry.StepWord.TheVariants as word
use Rattle.sched_state.specs.State.{SchedState, passes, with_run, off_stack, landed}
use Rattle.sched_state.specs.Arrivals.{has_come, new_run, submitted, is_busy, deleted, deleted_run, doomed, ordered_to_end, terminated_run, arrived, at_clock, opening}
use Rattle.sched_state.specs.Picks.{taken}
use Rattle.dataset_db.specs.Datasets.{Change}
use Rattle.sched_state.specs.Datasets.{Stage, stage, changes_by}
use Rattle.sched_state.specs.Reports.{Effect, after_stage, moved_on, steps_of, run_steps, staged, staged_run, is_full_of_runs, fails, goes_on, after_kernel, effect, after_storing, settle, status_then, run_effect, step_effect, step_effect_of, after_clock}
use Rattle.sched_state.specs.Lawful.{after_act, after_entry, state_after}
use Rattle.sched_state.specs.Boards.{AreNumbered}
use Rattle.sched_state.proofs.Numbered.{changed-numbered, pushed-numbered}

abbrev pub Numbers : SchedState → Type 0
Numbers state = AreNumbered state.runs

abbrev KeepsNumber : (Run → Run) → Type 0
KeepsNumber change = (r : Run) → (change r).rid ≡ r.rid

either : (b : Bool) (x y : SchedState) → Numbers x → Numbers y → Numbers (cond b x y)
either true x y p q = p
either false x y p q = q

by-run : (change : Run → Run) → KeepsNumber change → (rid : ℕ) (state : SchedState) → Numbers state → Numbers (with_run change rid state)
by-run change same rid state was = changed-numbered change same rid 0 state.runs was

by-status : (status : Status) (rid : ℕ) (state : SchedState) → Numbers state → Numbers (with_run (with_status status) rid state)
by-status status rid state was = by-run (with_status status) (λ r. refl) rid state was

by-submission : (asked : Submission) (state : SchedState) → Numbers state → Numbers (submitted asked state)
by-submission asked state was = pushed-numbered 0 state.runs (new_run (length state.runs) asked) was (omega arith)

by-delete-of : (rid : ℕ) (state : SchedState) (found : Option Run) → Numbers state → Numbers (deleted_run rid state found)
by-delete-of rid state None was = was
by-delete-of rid state (Some run) was =
    either (is_ended run.status) state (cond (is_busy state.flying run) (with_run (doomed run) rid state) (off_stack status.Deleted rid state)) was (either (is_busy state.flying run) (with_run (doomed run) rid state) (off_stack status.Deleted rid state)
    (by-run (doomed run) (λ r. refl) rid state was) (by-status status.Deleted rid state was))

by-delete : (rid : ℕ) (state : SchedState) → Numbers state → Numbers (deleted rid state)
by-delete rid state was = by-delete-of rid state (run_of state.runs rid) was

by-terminate-of : (rid : ℕ) (state : SchedState) (found : Option Run) → Numbers state → Numbers (terminated_run rid state found)
by-terminate-of rid state None was = was
by-terminate-of rid state (Some run) was =
    let waits : Bool = is_pending run.status || is_preparing run.status || is_prepared run.status in
    either (is_running run.status || is_paused run.status) (with_run (ordered_to_end run) rid state) (cond waits (deleted rid state) state) (by-run (ordered_to_end run) (λ r. refl) rid state was)
    (either waits (deleted rid state) state (by-delete rid state was) was)

pub by-arrival : (state : SchedState) (what : ArrivalAct) → Numbers state → Numbers (arrived state what)
by-arrival state (Submit asked) was = by-submission asked state was
by-arrival state (Delete rid) was = by-delete rid state was
by-arrival state (Terminate rid) was = by-terminate-of rid state (run_of state.runs rid) was

by-arrivals : (arrivals : List Arrival) (state : SchedState) → Numbers state → Numbers (fold (λ before (arrival : Arrival). arrived before arrival.act) state arrivals)
by-arrivals [] state was = was
by-arrivals (arrival ∷ arrivals) state was = by-arrivals arrivals (arrived state arrival.act) (by-arrival state arrival.act was)

pub by-clock : (clock : ℕ) (state : SchedState) → Numbers state → Numbers (at_clock clock state)
by-clock clock state was = by-arrivals (filter (has_come clock) state.arrivals) (record state { clock = clock; arrivals = filter (λ arrival. not (has_come clock arrival)) state.arrivals }) was

by-taking : (chair : ℕ) (job : JobName) (state : SchedState) → Numbers state → Numbers (taken chair job state)
by-taking chair (Prepare rid) state was = by-status status.Preparing rid state was
by-taking chair (Step rid place) state was = by-status status.Running rid state was
by-taking chair (Analyze rid) state was = by-status status.Analyzing rid state was

by-stage-of : (of_stage : Experiment → List HostStep) (then_ : Status) (session : Session) (rid : ℕ) (state : SchedState) (found : Option Run) → Numbers state → Numbers (staged_run of_stage then_ session rid state found)
by-stage-of of_stage then_ session rid state None was = was
by-stage-of of_stage then_ session rid state (Some run) was =
    let done : Stage = stage (steps_of of_stage session run) state.datasets in
    either run.doomed (with_run (with_status status.Deleted) rid state) (after_stage then_ rid done state) (by-status status.Deleted rid state was)
    (by-status (cond done.fine then_ status.Failed) rid state was)

by-stage : (of_stage : Experiment → List HostStep) (then_ : Status) (session : Session) (rid : ℕ) (state : SchedState) → Numbers state → Numbers (staged of_stage then_ session rid state)
by-stage of_stage then_ session rid state was = by-stage-of of_stage then_ session rid (landed rid state) (run_of state.runs rid) was

abbrev Keeps : Effect → Type 0
Keeps end = Numbers end.state

either-end : (b : Bool) (x y : Effect) → Keeps x → Keeps y → Keeps (cond b x y)
either-end true x y p q = p
either-end false x y p q = q

by-kernel : (how : Outcome) (state : SchedState) → Numbers state → Keeps (after_kernel how state)
by-kernel outcome.Returned state was = was
by-kernel (outcome.Raised exception) state was = was
by-kernel outcome.Budget state was = was
by-kernel outcome.Horizon state was = was

by-storing : (state : SchedState) (found : Option (List Change)) → Numbers state → Keeps (after_storing state found)
by-storing state None was = was
by-storing state (Some changes) was = was

by-effect : (session : Session) (run : Run) (what : HostStep) (result : Option KernelResult) (state : SchedState) → Numbers state → Keeps (effect session run what result state)
by-effect session run (step.Kernel name args) (Some result) state was = by-kernel result.outcome _ was
by-effect session run (step.Kernel name args) None state was = was
by-effect session run step.Pause result state was =
    let lends : Bool = nat_lt run.pos (length (run_steps session run)) && some_higher state.runs run.rid state.clock in
    let ends : Effect = record { word = word.Terminated; status = status.Terminated; state = state } in
    let lent : Effect = record { word = word.Paused; status = status.Paused; state = state } in
    either-end run.terminate ends (cond lends lent (goes_on state)) was (either-end lends lent (goes_on state) was was)
by-effect session run step.CheckTermination result state was = either-end run.terminate (record { word = word.Terminated; status = status.Terminated; state = state }) (goes_on state) was was
by-effect session run (step.Submit asked) result state was = either-end (is_full_of_runs state) (fails word.Failed state) (goes_on (submitted asked state)) was (by-submission asked state was)
by-effect session run (step.Set name value broadcast persist archive) result state was = by-storing state (changes_by (step.Set name value broadcast persist archive) state.datasets) was
by-effect session run (step.Append name item) result state was = by-storing state (changes_by (step.Append name item) state.datasets) was
by-effect session run (step.Sum name target) result state was = by-storing state (changes_by (step.Sum name target) state.datasets) was

by-settling : (then_ : Status) (rid : ℕ) (state : SchedState) → Numbers state → Numbers (settle then_ rid state)
by-settling status.Pending rid state was = by-status status.Pending rid state was
by-settling status.Preparing rid state was = by-status status.Preparing rid state was
by-settling status.Prepared rid state was = by-status status.Prepared rid state was
by-settling status.Running rid state was = by-status status.Running rid state was
by-settling status.Paused rid state was = by-status status.Paused rid state was
by-settling status.RunDone rid state was = by-status status.RunDone rid state was
by-settling status.Analyzing rid state was = by-status status.Analyzing rid state was
by-settling status.Done rid state was = by-status status.Done rid state was
by-settling status.Failed rid state was = by-status status.Failed rid state was
by-settling status.Terminated rid state was = by-status status.Terminated rid state was
by-settling status.Deleted rid state was = by-status status.Deleted rid state was

by-run-effect : (session : Session) (run : Run) (what : Option HostStep) (result : Option KernelResult) (state : SchedState) → Numbers state → Keeps (run_effect session run what result state)
by-run-effect session run None result state was = was
by-run-effect session run (Some what) result state was = either-end run.doomed (record { word = word.Deleted; status = status.Deleted; state = state }) (effect session run what result state) was (by-effect session run what result state was)

by-step-of : (session : Session) (place : ℕ) (result : Option KernelResult) (now : SchedState) (found : Option Run) → Numbers now → Keeps (step_effect_of session place result now found)
by-step-of session place result now None was = was
by-step-of session place result now (Some run) was =
    let end : Effect = run_effect session run (slice_get (run_steps session run) place) result now in
    by-settling (status_then end.status run.pos (length (run_steps session run))) run.rid (landed run.rid end.state) (by-run-effect session run (slice_get (run_steps session run) place) result now was)

by-step : (session : Session) (rid place : ℕ) (result : Option KernelResult) (state : SchedState) → Numbers state → Keeps (step_effect session rid place result state)
by-step session rid place result state was =
    let now : SchedState = after_clock rid state in
    by-step-of session place result now (run_of now.runs rid) (by-run moved_on (λ r. refl) rid (at_clock (state.clock + 1) state) (by-clock (state.clock + 1) state was))

by-act : (session : Session) (chair : ℕ) (what : SchedAct) (state : SchedState) → Numbers state → Numbers (after_act session chair what state)
by-act session chair (act.Took job) state was = by-taking chair job state was
by-act session chair (act.Prepared rid) state was = by-stage (λ (e : Experiment). e.prepare) status.Prepared session rid state was
by-act session chair (act.Stepped rid place pipeline clock result word) state was = by-step session rid place result state was
by-act session chair (act.Analyzed rid) state was = by-stage (λ (e : Experiment). e.analyze) status.Done session rid state was
by-act session chair (act.SourceRefused rid) state was = by-status (cond (passes (λ (run : Run). run.doomed) state.runs rid) status.Deleted status.Failed) rid (landed rid state) was
by-act session chair (act.Jumped clock) state was = by-clock clock state was
by-act session chair act.Halted state was = was

by-history : (session : Session) (history : List SchedEntry) (state : SchedState) → Numbers state → Numbers (fold (after_entry session) state history)
by-history session [] state was = was
by-history session (entry ∷ rest) state was = by-history session rest (after_entry session state entry) (by-act session entry.chair entry.act state was)

-- after any history
pub numbered-after : (session : Session) (history : List SchedEntry) → Numbers (state_after session history)
numbered-after session history = by-history session history (opening session) (by-clock 0 (record { runs = []; stack = []; flying = []; clock = 0; arrivals = session.arrivals; datasets = [] }) tt)
