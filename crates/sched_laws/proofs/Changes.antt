-- The datasets after a history are those that its sets and appends make.
use Rattle.std.proofs.Common.{◌≡◌, ℕ, ◌+◌, Bool, true, false, List, [], ◌∷◌, ◌++◌, cond, fold, filter, length, refl, sym, ◌∙◌, ap}
use Rattle.std.specs.Prelude.{Option, Some, None, slice_get, nat_lt, not, ◌&&◌, ◌||◌}
use Rattle.rtio_types.specs.declared.outcome.Outcome.{Outcome}
use Rattle.rtio_types.specs.declared.outcome.Outcome.TheVariants as outcome
use Rattle.exp_runs.specs.declared.run.Run.{Run}
use Rattle.exp_runs.specs.declared.run.Status.{Status}
use Rattle.exp_runs.specs.declared.run.Status.TheVariants as status
use Rattle.exp_runs.specs.Keys.{run_of, some_higher}
use Rattle.exp_runs.specs.Statuses.{is_ended, is_pending, is_preparing, is_prepared, is_running, is_paused}
use Rattle.exp_runs.specs.Table.{with_status}
use Rattle.exp_model.specs.declared.session.Session.{Session}
use Rattle.exp_model.specs.declared.session.Experiment.{Experiment}
use Rattle.exp_model.specs.declared.arrival.Arrival.{Arrival}
use Rattle.exp_model.specs.declared.arrival.ArrivalAct.{ArrivalAct}
use Rattle.exp_model.specs.declared.arrival.ArrivalAct.TheVariants.{Submit, Delete, Terminate}
use Rattle.exp_model.specs.declared.step.HostStep.{HostStep}
use Rattle.exp_model.specs.declared.step.HostStep.TheVariants as step
use Rattle.dataset_db.specs.Datasets.{Dataset, Change, datasets_after, after}
use Rattle.sched_state.specs.declared.entry.JobName.{JobName}
use Rattle.sched_state.specs.declared.entry.JobName.TheVariants.{Prepare, Step, Analyze}
use Rattle.sched_state.specs.declared.entry.KernelResult.{KernelResult}
use Rattle.sched_state.specs.declared.entry.SchedAct.{SchedAct}
use Rattle.sched_state.specs.declared.entry.SchedAct.TheVariants as act
use Rattle.sched_state.specs.declared.entry.SchedEntry.{SchedEntry}
use Rattle.sched_state.specs.declared.entry.StepWord.TheVariants as word
use Rattle.sched_state.specs.State.{SchedState, with_run, off_stack, landed}
use Rattle.sched_state.specs.Arrivals.{has_come, submitted, is_busy, deleted, deleted_run, doomed, ordered_to_end, terminated_run, arrived, at_clock, opening}
use Rattle.sched_state.specs.Picks.{taken}
use Rattle.sched_state.specs.Datasets.{Stage, stage, changes_by, kernel_changes}
use Rattle.sched_state.specs.Reports.{Effect, steps_of, run_steps, after_stage, staged, staged_run, is_full_of_runs, fails, goes_on, after_kernel, effect, after_storing, status_then, run_effect, step_effect, step_effect_of, after_clock}
use Rattle.sched_state.specs.Lawful.{after_act, after_entry}
use Rattle.sched_laws.proofs.Moving.{by-settling}
use Rattle.sched_laws.specs.Ladder.{stage_changes, or_no_changes, changes_of_step, changes_of_found, changes_of_run, changes_of_act, changes_from, DatasetsAreSetAndAppended}

-- the state has these datasets
abbrev Has : List Dataset → SchedState → Type 0
Has datasets state = state.datasets ≡ datasets

either : (datasets : List Dataset) (b : Bool) (x y : SchedState) → Has datasets x → Has datasets y → Has datasets (cond b x y)
either datasets true x y p q = p
either datasets false x y p q = q

by-delete-of : (rid : ℕ) (state : SchedState) (found : Option Run) → Has state.datasets (deleted_run rid state found)
by-delete-of rid state None = refl
by-delete-of rid state (Some run) =
    either state.datasets (is_ended run.status) state (cond (is_busy state.flying run) (with_run (doomed run) rid state) (off_stack status.Deleted rid state))
    refl
    (either state.datasets (is_busy state.flying run) (with_run (doomed run) rid state) (off_stack status.Deleted rid state) refl refl)

by-delete : (rid : ℕ) (state : SchedState) → Has state.datasets (deleted rid state)
by-delete rid state = by-delete-of rid state (run_of state.runs rid)

by-terminate-of : (rid : ℕ) (state : SchedState) (found : Option Run) → Has state.datasets (terminated_run rid state found)
by-terminate-of rid state None = refl
by-terminate-of rid state (Some run) =
    let waits : Bool = is_pending run.status || is_preparing run.status || is_prepared run.status in
    either state.datasets (is_running run.status || is_paused run.status) (with_run (ordered_to_end run) rid state) (cond waits (deleted rid state) state) refl
    (either state.datasets waits (deleted rid state) state (by-delete rid state) refl)

by-arrival : (state : SchedState) (what : ArrivalAct) → Has state.datasets (arrived state what)
by-arrival state (Submit asked) = refl
by-arrival state (Delete rid) = by-delete rid state
by-arrival state (Terminate rid) = by-terminate-of rid state (run_of state.runs rid)

by-arrivals : (arrivals : List Arrival) (state : SchedState)
    → Has state.datasets (fold (λ before (arrival : Arrival). arrived before arrival.act) state arrivals)
by-arrivals [] state = refl
by-arrivals (arrival ∷ arrivals) state = by-arrivals arrivals (arrived state arrival.act) ∙ by-arrival state arrival.act

by-clock : (clock : ℕ) (state : SchedState) → Has state.datasets (at_clock clock state)
by-clock clock state =
    by-arrivals (filter (has_come clock) state.arrivals)
    (record state { clock = clock; arrivals = filter (λ arrival. not (has_come clock arrival)) state.arrivals })

by-taking : (chair : ℕ) (job : JobName) (state : SchedState) → Has state.datasets (taken chair job state)
by-taking chair (Prepare rid) state = refl
by-taking chair (Step rid place) state = refl
by-taking chair (Analyze rid) state = refl

-- the state has the datasets that these changes make
stage-at : (then_ : Status) (rid : ℕ) (done : Stage) (state : SchedState) (b : Bool)
    → (cond b (with_run (with_status status.Deleted) rid state) (after_stage then_ rid done state)).datasets ≡ datasets_after
    (cond b [] done.changes) state.datasets
stage-at then_ rid done state true = refl
stage-at then_ rid done state false = refl

by-stage-of : (of_stage : Experiment → List HostStep) (then_ : Status) (session : Session) (rid : ℕ) (state : SchedState) (found : Option Run)
    → (staged_run of_stage then_ session rid state found).datasets ≡ datasets_after (stage_changes of_stage session state found) state.datasets
by-stage-of of_stage then_ session rid state None = refl
by-stage-of of_stage then_ session rid state (Some run) = stage-at then_ rid (stage (steps_of of_stage session run) state.datasets) state run.doomed

by-stage : (of_stage : Experiment → List HostStep) (then_ : Status) (session : Session) (rid : ℕ) (state : SchedState)
    → (staged of_stage then_ session rid state).datasets ≡ datasets_after (stage_changes of_stage session state (run_of state.runs rid)) state.datasets
by-stage of_stage then_ session rid state = by-stage-of of_stage then_ session rid (landed rid state) (run_of state.runs rid)

abbrev EndHas : List Dataset → Effect → Type 0
EndHas datasets end = end.state.datasets ≡ datasets

either-end : (datasets : List Dataset) (b : Bool) (x y : Effect) → EndHas datasets x → EndHas datasets y → EndHas datasets (cond b x y)
either-end datasets true x y p q = p
either-end datasets false x y p q = q

by-kernel : (how : Outcome) (state : SchedState) → EndHas state.datasets (after_kernel how state)
by-kernel outcome.Returned state = refl
by-kernel (outcome.Raised exception) state = refl
by-kernel outcome.Budget state = refl
by-kernel outcome.Horizon state = refl

by-storing : (state : SchedState) (found : Option (List Change)) → EndHas (datasets_after (or_no_changes found) state.datasets) (after_storing state found)
by-storing state None = refl
by-storing state (Some changes) = refl

by-effect : (session : Session) (run : Run) (what : HostStep) (result : Option KernelResult) (state : SchedState)
    → EndHas (datasets_after (changes_of_step what result state.datasets) state.datasets) (effect session run what result state)
by-effect session run (step.Kernel name args) (Some result) state =
    by-kernel result.outcome (record state { datasets = datasets_after (kernel_changes result.sets) state.datasets })
by-effect session run (step.Kernel name args) None state = refl
by-effect session run step.Pause result state =
    let lends : Bool = nat_lt run.pos (length (run_steps session run)) && some_higher state.runs run.rid state.clock in
    let ends : Effect = record { word = word.Terminated; status = status.Terminated; state = state } in
    let lent : Effect = record { word = word.Paused; status = status.Paused; state = state } in
    either-end state.datasets run.terminate ends (cond lends lent (goes_on state)) refl (either-end state.datasets lends lent (goes_on state) refl refl)
by-effect session run step.CheckTermination result state =
    either-end state.datasets run.terminate (record { word = word.Terminated; status = status.Terminated; state = state }) (goes_on state) refl refl
by-effect session run (step.Submit asked) result state =
    either-end state.datasets (is_full_of_runs state) (fails word.Failed state) (goes_on (submitted asked state)) refl refl
by-effect session run (step.Set name value broadcast persist archive) result state =
    by-storing state (changes_by (step.Set name value broadcast persist archive) state.datasets)
by-effect session run (step.Append name item) result state = by-storing state (changes_by (step.Append name item) state.datasets)
by-effect session run (step.Sum name target) result state = by-storing state (changes_by (step.Sum name target) state.datasets)

doomed-at : (session : Session) (run : Run) (what : HostStep) (result : Option KernelResult) (state : SchedState) (b : Bool)
    → EndHas (datasets_after (cond b [] (changes_of_step what result state.datasets)) state.datasets)
    (cond b (record { word = word.Deleted; status = status.Deleted; state = state }) (effect session run what result state))
doomed-at session run what result state true = refl
doomed-at session run what result state false = by-effect session run what result state

none-at : (b : Bool) (state : SchedState) → state.datasets ≡ datasets_after (cond b [] []) state.datasets
none-at true state = refl
none-at false state = refl

by-run-effect : (session : Session) (run : Run) (what : Option HostStep) (result : Option KernelResult) (state : SchedState)
    → EndHas (datasets_after (cond run.doomed [] (changes_of_found what result state.datasets)) state.datasets) (run_effect session run what result state)
by-run-effect session run None result state = none-at run.doomed state
by-run-effect session run (Some what) result state = doomed-at session run what result state run.doomed

by-step-of : (session : Session) (place : ℕ) (result : Option KernelResult) (now : SchedState) (found : Option Run)
    → EndHas (datasets_after (changes_of_run session place result now.datasets found) now.datasets) (step_effect_of session place result now found)
by-step-of session place result now None = refl
by-step-of session place result now (Some run) =
    let end : Effect = run_effect session run (slice_get (run_steps session run) place) result now in
    by-settling (Has end.state.datasets) (status_then end.status run.pos (length (run_steps session run))) run.rid (landed run.rid end.state) refl refl
    ∙ by-run-effect session run (slice_get (run_steps session run) place) result now

by-step : (session : Session) (rid place : ℕ) (result : Option KernelResult) (state : SchedState)
    → EndHas (datasets_after (changes_of_run session place result state.datasets (run_of (after_clock rid state).runs rid)) state.datasets)
    (step_effect session rid place result state)
by-step session rid place result state =
    let now : SchedState = after_clock rid state in
    let same : now.datasets ≡ state.datasets = by-clock (state.clock + 1) state in
    by-step-of session place result now (run_of now.runs rid)
    ∙ ap (λ datasets. datasets_after (changes_of_run session place result datasets (run_of now.runs rid)) datasets) same

by-act : (session : Session) (chair : ℕ) (what : SchedAct) (state : SchedState)
    → (after_act session chair what state).datasets ≡ datasets_after (changes_of_act session state what) state.datasets
by-act session chair (act.Took job) state = by-taking chair job state
by-act session chair (act.Prepared rid) state = by-stage (λ (e : Experiment). e.prepare) status.Prepared session rid state
by-act session chair (act.Stepped rid place pipeline clock result word) state = by-step session rid place result state
by-act session chair (act.Analyzed rid) state = by-stage (λ (e : Experiment). e.analyze) status.Done session rid state
by-act session chair (act.SourceRefused rid) state = refl
by-act session chair (act.Jumped clock) state = by-clock clock state
by-act session chair act.Halted state = refl

after-append : (xs ys : List Change) (datasets : List Dataset) → datasets_after (xs ++ ys) datasets ≡ datasets_after ys (datasets_after xs datasets)
after-append [] ys datasets = refl
after-append (x ∷ xs) ys datasets = after-append xs ys (after datasets x)

by-history : (session : Session) (history : List SchedEntry) (state : SchedState)
    → (fold (after_entry session) state history).datasets ≡ datasets_after (changes_from session state history) state.datasets
by-history session [] state = refl
by-history session (entry ∷ rest) state =
    by-history session rest (after_entry session state entry)
    ∙ ap (datasets_after (changes_from session (after_entry session state entry) rest)) (by-act session entry.chair entry.act state)
    ∙ sym (after-append (changes_of_act session state entry.act) (changes_from session (after_entry session state entry) rest) state.datasets)

pub datasets-made : DatasetsAreSetAndAppended
datasets-made session history ok lawful =
    by-history session history (opening session)
    ∙ ap (datasets_after (changes_from session (opening session) history))
    (by-clock 0 (record { runs = []; stack = []; flying = []; clock = 0; arrivals = session.arrivals; datasets = [] }))
