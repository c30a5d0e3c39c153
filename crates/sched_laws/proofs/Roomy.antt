-- There are at most 64 runs, counting the submissions that are still to arrive.
use Rattle.std.proofs.Common.{◌≡◌, ℕ, ◌+◌, ◌<◌, ◌≤◌, Bool, true, false, List, [], ◌∷◌, ◌++◌, cond, filter, fold, length, refl, ap, arith}
use Rattle.std.specs.Prelude.{Option, Some, None, not, nat_lt, slice_get, count_by, ◌==◌, ◌&&◌, ◌||◌, IsTrue}
use Rattle.std.proofs.lemmas.Bool.Decides.{nat_tests}
use Rattle.std.proofs.lemmas.List.{length-append, length-map}
use Rattle.std.proofs.lemmas.List.Sums.{sum_by-cons}
use Rattle.rtio_types.specs.declared.outcome.Outcome.{Outcome}
use Rattle.rtio_types.specs.declared.outcome.Outcome.TheVariants as outcome
use Rattle.exp_runs.specs.declared.run.Run.{Run}
use Rattle.exp_runs.specs.declared.run.Status.{Status}
use Rattle.exp_runs.specs.declared.run.Status.TheVariants as status
use Rattle.exp_runs.specs.Keys.{run_of, some_higher}
use Rattle.exp_runs.specs.Statuses.{is_ended, is_paused, is_pending, is_prepared, is_preparing, is_running}
use Rattle.exp_runs.specs.Table.{changed}
use Rattle.exp_model.specs.declared.arrival.Arrival.{Arrival}
use Rattle.exp_model.specs.declared.arrival.ArrivalAct.{ArrivalAct}
use Rattle.exp_model.specs.declared.arrival.ArrivalAct.TheVariants.{Submit, Delete, Terminate}
use Rattle.exp_model.specs.declared.session.Session.{Session}
use Rattle.exp_model.specs.declared.session.Experiment.{Experiment}
use Rattle.exp_model.specs.declared.step.HostStep.{HostStep}
use Rattle.exp_model.specs.declared.step.HostStep.TheVariants as step
use Rattle.exp_model.specs.Sessions.{is_session, submits}
use Rattle.dataset_db.specs.Datasets.{Change}
use Rattle.sched_state.specs.declared.entry.JobName.TheVariants.{Prepare, Step, Analyze}
use Rattle.sched_state.specs.declared.entry.KernelResult.{KernelResult}
use Rattle.sched_state.specs.declared.entry.SchedAct.{SchedAct}
use Rattle.sched_state.specs.declared.entry.SchedAct.TheVariants as act
use Rattle.sched_state.specs.declared.entry.SchedEntry.{SchedEntry}
use Rattle.sched_state.specs.declared.entry.StepWord.TheVariants as word
use Rattle.sched_state.specs.State.{SchedState, landed, off_stack, passes, with_run}
use Rattle.sched_state.specs.Datasets.{changes_by, stage}
use Rattle.sched_state.specs.Reports.{Effect, after_clock, after_kernel, after_stage, after_storing, effect, fails, goes_on, is_full_of_runs, moved_on, run_effect, run_steps, staged_run, status_then, step_effect, step_effect_of, steps_of}
use Rattle.sched_state.specs.Lawful.{after_act, after_entry, state_after}
use Rattle.sched_state.proofs.Openings.{session-few}
use Rattle.sched_laws.proofs.Moving.{by-settling}
use Rattle.sched_laws.proofs.Arriving.{clock-moved}
use Rattle.sched_state.specs.Arrivals.{arrived, at_clock, deleted, deleted_run, doomed, has_come, is_busy, new_run, opening, ordered_to_end, submitted, terminated_run}

-- as many runs as before
abbrev Many : ℕ → SchedState → Type 0
Many n state = length state.runs ≡ n

many-at : (n : ℕ) (b : Bool) (x y : SchedState) → Many n x → Many n y → Many n (cond b x y)
many-at n true x y p q = p
many-at n false x y p q = q

many-change : (f : Run → Run) (rid : ℕ) (runs : List Run) → length (changed f rid runs) ≡ length runs
many-change f rid runs = length-map runs (λ (r : Run). cond (r.rid == rid) (f r) r)

many-delete : (rid : ℕ) (state : SchedState) (found : Option Run) → Many (length state.runs) (deleted_run rid state found)
many-delete rid state None = refl
many-delete rid state (Some run) =
    many-at (length state.runs) (is_ended run.status) state
    (cond (is_busy state.flying run) (with_run (doomed run) rid state) (off_stack status.Deleted rid state)) refl
    (many-at (length state.runs) (is_busy state.flying run) (with_run (doomed run) rid state) (off_stack status.Deleted rid state)
    (many-change (doomed run) rid state.runs) (many-change (λ (r : Run). record r { status = status.Deleted }) rid state.runs))

many-terminate : (rid : ℕ) (state : SchedState) (found : Option Run) → Many (length state.runs) (terminated_run rid state found)
many-terminate rid state None = refl
many-terminate rid state (Some run) =
    let waits : Bool = is_pending run.status || is_preparing run.status || is_prepared run.status in
    many-at (length state.runs) (is_running run.status || is_paused run.status) (with_run (ordered_to_end run) rid state) (cond waits (deleted rid state) state)
    (many-change (ordered_to_end run) rid state.runs)
    (many-at (length state.runs) waits (deleted rid state) state (many-delete rid state (run_of state.runs rid)) refl)

count-cons : (a : Arrival) (rest : List Arrival) → count_by submits (a ∷ rest) ≡ cond (submits a) 1 0 + count_by submits rest
count-cons a rest = sum_by-cons (λ (x : Arrival). cond (submits x) 1 0) a rest

-- an arrival adds the run that it submits, and takes none away
more-at : (state : SchedState) (at : ℕ) (what : ArrivalAct) (rest : List Arrival)
    → length (arrived state what).runs + count_by submits rest ≤ length state.runs + count_by submits (record { at = at; act = what } ∷ rest)
more-at state at (Submit asked) rest =
    let one : length (state.runs ++ new_run (length state.runs) asked ∷ []) ≡ length state.runs + 1 =
    length-append state.runs (new_run (length state.runs) asked ∷ []) in
    let c : count_by submits (record { at = at; act = Submit asked } ∷ rest) ≡ 1 + count_by submits rest =
    count-cons (record { at = at; act = Submit asked }) rest in
    omega (arith, one, c)
more-at state at (Delete rid) rest =
    let same : length (arrived state (Delete rid)).runs ≡ length state.runs = many-delete rid state (run_of state.runs rid) in
    let c : count_by submits (record { at = at; act = Delete rid } ∷ rest) ≡ 0 + count_by submits rest =
    count-cons (record { at = at; act = Delete rid }) rest in
    omega (arith, same, c)
more-at state at (Terminate rid) rest =
    let same : length (arrived state (Terminate rid)).runs ≡ length state.runs = many-terminate rid state (run_of state.runs rid) in
    let c : count_by submits (record { at = at; act = Terminate rid } ∷ rest) ≡ 0 + count_by submits rest =
    count-cons (record { at = at; act = Terminate rid }) rest in
    omega (arith, same, c)

more : (arrivals : List Arrival) (state : SchedState)
    → length (fold (λ before (arrival : Arrival). arrived before arrival.act) state arrivals).runs ≤ length state.runs + count_by submits arrivals
more [] state = omega arith
more (a ∷ arrivals) state =
    let rest : length (fold (λ before (arrival : Arrival). arrived before arrival.act) (arrived state a.act) arrivals).runs ≤ length
    (arrived state a.act).runs + count_by submits arrivals = more arrivals (arrived state a.act) in
    let one : length (arrived state a.act).runs + count_by submits arrivals ≤ length state.runs + count_by submits (a ∷ arrivals) =
    more-at state a.at a.act arrivals in
    omega (arith, rest, one)

-- each arrival has come or is left
parted-at : (t : Arrival → Bool) (a : Arrival) (come left all : List Arrival) (b : Bool) → count_by submits come + count_by submits left ≡ count_by submits all
    → count_by submits (cond b (a ∷ come) come) + count_by submits (cond (not b) (a ∷ left) left) ≡ count_by submits (a ∷ all)
parted-at t a come left all true e =
    let c : count_by submits (a ∷ come) ≡ cond (submits a) 1 0 + count_by submits come = count-cons a come in
    let d : count_by submits (a ∷ all) ≡ cond (submits a) 1 0 + count_by submits all = count-cons a all in
    omega (arith, c, d, e)
parted-at t a come left all false e =
    let c : count_by submits (a ∷ left) ≡ cond (submits a) 1 0 + count_by submits left = count-cons a left in
    let d : count_by submits (a ∷ all) ≡ cond (submits a) 1 0 + count_by submits all = count-cons a all in
    omega (arith, c, d, e)

parted : (clock : ℕ) (arrivals : List Arrival)
    → count_by submits (filter (has_come clock) arrivals) + count_by submits (filter (λ a. not (has_come clock a)) arrivals) ≡ count_by submits arrivals
parted clock [] = refl
parted clock (a ∷ arrivals) =
    parted-at (has_come clock) a (filter (has_come clock) arrivals) (filter (λ x. not (has_come clock x)) arrivals) arrivals (has_come clock a)
    (parted clock arrivals)

-- with what is still to be submitted there are at most 64
abbrev pub IsRoomy : SchedState → Type 0
IsRoomy state = length state.runs + count_by submits state.arrivals ≤ 64

pub clock-roomy : (clock : ℕ) (state : SchedState) → IsRoomy state → IsRoomy (at_clock clock state)
clock-roomy clock state was =
    let start : SchedState = record state { clock = clock; arrivals = filter (λ arrival. not (has_come clock arrival)) state.arrivals } in
    let come : length (at_clock clock state).runs ≤ length state.runs + count_by submits (filter (has_come clock) state.arrivals) =
    more (filter (has_come clock) state.arrivals) start in
    let left : count_by submits (at_clock clock state).arrivals ≡ count_by submits (filter (λ arrival. not (has_come clock arrival)) state.arrivals) =
    ap (count_by submits) (clock-moved clock state).2 in
    let parts = parted clock state.arrivals in
    omega (arith, come, left, parts, was)

-- the effect of a step
roomy-at : (b : Bool) (x y : Effect) → (b ≡ true → IsRoomy x.state) → (b ≡ false → IsRoomy y.state) → IsRoomy (cond b x y).state
roomy-at true x y p q = p refl
roomy-at false x y p q = q refl

kernel-roomy : (how : Outcome) (state : SchedState) → IsRoomy state → IsRoomy (after_kernel how state).state
kernel-roomy outcome.Returned state was = was
kernel-roomy (outcome.Raised exception) state was = was
kernel-roomy outcome.Budget state was = was
kernel-roomy outcome.Horizon state was = was

storing-roomy : (state : SchedState) (found : Option (List Change)) → IsRoomy state → IsRoomy (after_storing state found).state
storing-roomy state None was = was
storing-roomy state (Some changes) was = was

effect-roomy : (session : Session) (run : Run) (what : HostStep) (result : Option KernelResult) (state : SchedState) → IsRoomy state
    → IsRoomy (effect session run what result state).state
effect-roomy session run (step.Kernel name args) (Some result) state was = kernel-roomy result.outcome _ was
effect-roomy session run (step.Kernel name args) None state was = was
effect-roomy session run step.Pause result state was =
    let lends : Bool = nat_lt run.pos (length (run_steps session run)) && some_higher state.runs run.rid state.clock in
    let ends : Effect = record { word = word.Terminated; status = status.Terminated; state = state } in
    let lent : Effect = record { word = word.Paused; status = status.Paused; state = state } in
    roomy-at run.terminate ends (cond lends lent (goes_on state)) (λ e. was) (λ e. roomy-at lends lent (goes_on state) (λ h. was) (λ h. was))
effect-roomy session run step.CheckTermination result state was =
    roomy-at run.terminate (record { word = word.Terminated; status = status.Terminated; state = state }) (goes_on state) (λ e. was) (λ e. was)
effect-roomy session run (step.Submit asked) result state was =
    roomy-at (is_full_of_runs state) (fails word.Failed state) (goes_on (submitted asked state)) (λ e. was)
    (λ e.
    let one : length (state.runs ++ new_run (length state.runs) asked ∷ []) ≡ length state.runs + 1 =
    length-append state.runs (new_run (length state.runs) asked ∷ []) in
    let free : length state.runs + count_by submits state.arrivals < 64 = grind (arith, nat_tests) in
    omega (arith, one, free))
effect-roomy session run (step.Set name value broadcast persist archive) result state was =
    storing-roomy state (changes_by (step.Set name value broadcast persist archive) state.datasets) was
effect-roomy session run (step.Append name item) result state was = storing-roomy state (changes_by (step.Append name item) state.datasets) was
effect-roomy session run (step.Sum name target) result state was = storing-roomy state (changes_by (step.Sum name target) state.datasets) was

-- a run changed, and no arrival
changed-roomy : (f : Run → Run) (rid : ℕ) (runs : List Run) (arrivals : List Arrival) → length runs + count_by submits arrivals ≤ 64
    → length (changed f rid runs) + count_by submits arrivals ≤ 64
changed-roomy f rid runs arrivals was = let same = many-change f rid runs in omega (arith, same, was)

run-effect-roomy : (session : Session) (run : Run) (what : Option HostStep) (result : Option KernelResult) (state : SchedState) → IsRoomy state
    → IsRoomy (run_effect session run what result state).state
run-effect-roomy session run None result state was = was
run-effect-roomy session run (Some what) result state was =
    roomy-at run.doomed (record { word = word.Deleted; status = status.Deleted; state = state }) (effect session run what result state) (λ e. was)
    (λ e. effect-roomy session run what result state was)

step-of-roomy : (session : Session) (place : ℕ) (result : Option KernelResult) (now : SchedState) (found : Option Run) → IsRoomy now
    → IsRoomy (step_effect_of session place result now found).state
step-of-roomy session place result now None was = was
step-of-roomy session place result now (Some run) was =
    let end : Effect = run_effect session run (slice_get (run_steps session run) place) result now in
    let next : Status = status_then end.status run.pos (length (run_steps session run)) in
    let room : IsRoomy (with_run (λ (r : Run). record r { status = next }) run.rid (landed run.rid end.state)) =
    changed-roomy (λ (r : Run). record r { status = next }) run.rid end.state.runs end.state.arrivals
    (run-effect-roomy session run (slice_get (run_steps session run) place) result now was) in
    by-settling IsRoomy next run.rid (landed run.rid end.state) room room

step-roomy : (session : Session) (rid place : ℕ) (result : Option KernelResult) (state : SchedState) → IsRoomy state
    → IsRoomy (step_effect session rid place result state).state
step-roomy session rid place result state was =
    let later : SchedState = at_clock (state.clock + 1) state in
    step-of-roomy session place result (after_clock rid state) (run_of (after_clock rid state).runs rid)
    (changed-roomy moved_on rid later.runs later.arrivals (clock-roomy (state.clock + 1) state was))

stage-roomy : (of_stage : Experiment → List HostStep) (next : Status) (session : Session) (rid : ℕ) (state : SchedState) (found : Option Run) → IsRoomy state
    → IsRoomy (staged_run of_stage next session rid state found)
stage-roomy of_stage next session rid state None was = was
stage-roomy of_stage next session rid state (Some run) was = at run.doomed
  where
    at : (b : Bool)
        → IsRoomy (cond b (with_run (λ (r : Run). record r { status = status.Deleted }) rid state)
        (after_stage next rid (stage (steps_of of_stage session run) state.datasets) state))
    at true = changed-roomy (λ (r : Run). record r { status = status.Deleted }) rid state.runs state.arrivals was
    at false =
        changed-roomy (λ (r : Run). record r { status = cond (stage (steps_of of_stage session run) state.datasets).fine next status.Failed }) rid state.runs
        state.arrivals was

pub act-roomy : (session : Session) (chair : ℕ) (what : SchedAct) (state : SchedState) → IsRoomy state → IsRoomy (after_act session chair what state)
act-roomy session chair (act.Took (Prepare rid)) state was =
    changed-roomy (λ (r : Run). record r { status = status.Preparing }) rid state.runs state.arrivals was
act-roomy session chair (act.Took (Step rid place)) state was =
    changed-roomy (λ (r : Run). record r { status = status.Running }) rid state.runs state.arrivals was
act-roomy session chair (act.Took (Analyze rid)) state was =
    changed-roomy (λ (r : Run). record r { status = status.Analyzing }) rid state.runs state.arrivals was
act-roomy session chair (act.Prepared rid) state was =
    stage-roomy (λ (e : Experiment). e.prepare) status.Prepared session rid (landed rid state) (run_of state.runs rid) was
act-roomy session chair (act.Stepped rid pos pipeline clock result word) state was = step-roomy session rid pos result state was
act-roomy session chair (act.Analyzed rid) state was =
    stage-roomy (λ (e : Experiment). e.analyze) status.Done session rid (landed rid state) (run_of state.runs rid) was
act-roomy session chair (act.SourceRefused rid) state was =
    changed-roomy (λ (r : Run). record r { status = cond (passes (λ (run : Run). run.doomed) state.runs rid) status.Deleted status.Failed }) rid state.runs
    state.arrivals was
act-roomy session chair (act.Jumped clock) state was = clock-roomy clock state was
act-roomy session chair act.Halted state was = was

all-roomy : (session : Session) (history : List SchedEntry) (state : SchedState) → IsRoomy state → IsRoomy (fold (after_entry session) state history)
all-roomy session [] state was = was
all-roomy session (entry ∷ rest) state was = all-roomy session rest (after_entry session state entry) (act-roomy session entry.chair entry.act state was)

-- after any history of a session that is served
pub roomy-after : (session : Session) (history : List SchedEntry) → IsTrue (is_session session) → IsRoomy (state_after session history)
roomy-after session history ok =
    let few : count_by submits session.arrivals ≤ 64 = session-few session ok in
    all-roomy session history (opening session) (clock-roomy 0
    (record { runs = []; stack = []; flying = []; clock = 0; arrivals = session.arrivals; datasets = [] }) (omega (arith, few)))
