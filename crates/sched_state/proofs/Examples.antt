-- Sessions of one worker, computed: each kernel returns and sets nothing.
use Rattle.std.proofs.Common.{◌≡◌, ℕ, zero, suc, ◌+◌, refl, List, [], ◌∷◌, ◌++◌, false, map}
use Rattle.std.specs.Prelude.{ℤ, pos, Option, Some, None, filter_map}
use Rattle.rtio_types.specs.declared.outcome.Outcome.TheVariants as outcome
use Rattle.exp_runs.specs.declared.run.Run.{Run}
use Rattle.exp_runs.specs.declared.run.Status.{Status}
use Rattle.exp_runs.specs.declared.run.Status.TheVariants as status
use Rattle.exp_model.specs.declared.session.Session.{Session}
use Rattle.exp_model.specs.declared.arrival.Arrival.{Arrival}
use Rattle.exp_model.specs.declared.arrival.ArrivalAct.{ArrivalAct}
use Rattle.exp_model.specs.declared.arrival.ArrivalAct.TheVariants.{Submit, Delete, Terminate}
use Rattle.exp_model.specs.declared.session.Experiment.{Experiment}
use Rattle.exp_model.specs.declared.step.HostStep.{HostStep}
use Rattle.exp_model.specs.declared.step.HostStep.TheVariants as step
use Rattle.sched_state.specs.declared.entry.JobName.{JobName}
use Rattle.sched_state.specs.declared.entry.JobName.TheVariants.{Prepare, Step, Analyze}
use Rattle.sched_state.specs.declared.entry.KernelResult.{KernelResult}
use Rattle.sched_state.specs.declared.entry.SchedAct.{SchedAct}
use Rattle.sched_state.specs.declared.entry.SchedAct.TheVariants.{Took, Prepared, Stepped, Analyzed, Jumped}
use Rattle.sched_state.specs.declared.entry.StepWord.{StepWord}
use Rattle.sched_state.specs.declared.entry.StepWord.TheVariants as word
use Rattle.sched_state.specs.State.{SchedState}
use Rattle.sched_state.specs.Arrivals.{opening}
use Rattle.sched_state.specs.Picks.{pick, next_date}
use Rattle.sched_state.specs.Reports.{step_effect}
use Rattle.sched_state.specs.Lawful.{after_act, step_at}

-- what one worker writes down, as far as this many turns go
abbrev outcome_of : Option HostStep → Option KernelResult
outcome_of (Some (step.Kernel name args)) = Some (record { outcome = outcome.Returned; sets = []; steps = 0 })
outcome_of other = None

abbrev report : Session → SchedState → JobName → SchedAct
report session state (Prepare rid) = Prepared rid
report session state (Analyze rid) = Analyzed rid
report session state (Step rid place) =
    let result = outcome_of (step_at session state rid place) in
    Stepped rid place 0 (state.clock + 1) result (step_effect session rid place result state).word

abbrev turn : Session → SchedState → Option JobName → Option ℕ → List SchedAct
turn session state (Some job) date = Took job ∷ report session (after_act session 0 (Took job) state) job ∷ []
turn session state None (Some clock) = Jumped clock ∷ []
turn session state None None = []

abbrev all_after : Session → List SchedAct → SchedState → SchedState
all_after session [] state = state
all_after session (act ∷ acts) state = all_after session acts (after_act session 0 act state)

-- the acts of one worker, and the state in the end
abbrev played : ℕ → Session → SchedState → List SchedAct × SchedState
played zero session state = ([], state)
played (suc turns) session state =
    let acts = turn session state (pick session state) (next_date state) in
    let rest = played turns session (all_after session acts state) in
    (acts ++ rest.0, rest.1)

-- the step lines of a report: clock, run, position, word
abbrev line_of : SchedAct → Option (ℕ × ℕ × ℕ × StepWord)
line_of (Stepped rid place pipeline clock result word) = Some (clock, rid, place, word)
line_of other = None

abbrev lines : List SchedAct → List (ℕ × ℕ × ℕ × StepWord)
lines acts = filter_map line_of acts

abbrev statuses : SchedState → List Status
statuses state = map (λ (run : Run). run.status) state.runs

abbrev told : Session → List (ℕ × ℕ × ℕ × StepWord) × List Status
told session = let end = played 20 session (opening session) in (lines end.0, statuses end.1)

kernel : HostStep
kernel = step.Kernel (109 ∷ 97 ∷ 105 ∷ 110 ∷ []) []

experiment : List HostStep → Experiment
experiment run = record { source = 0; prepare = []; run = run; analyze = [] }

session_of : List Experiment → List Arrival → Session
session_of experiments arrivals =
    record {
      cost = 0;
      budget = 20000;
      workers = 1;
      lanes = 8;
      depth = 128;
      horizon = 134217728;
      pipelines = record { edges = [] } ∷ [];
      sources = [] ∷ [];
      experiments = experiments;
      arrivals = arrivals;
    }

submit : ℕ → ℤ → ℕ → ArrivalAct
submit number priority due =
    Submit (record { experiment = number; pipeline = 0; priority = priority; due = due; flush = false })

at : ℕ → ArrivalAct → Arrival
at clock act = record { at = clock; act = act }

two : List Experiment
two = experiment (kernel ∷ step.Pause ∷ kernel ∷ []) ∷ experiment (kernel ∷ []) ∷ []

a_due_run_of_higher_priority_goes_first : told (session_of two (at 0 (submit 0 (pos 0) 0) ∷ at 0 (submit 1 (pos 5) 1) ∷ []))
    ≡ ((1, 0, 0, word.Ok) ∷ (2, 0, 1, word.Paused) ∷ (3, 1, 0, word.Ok) ∷ (4, 0, 2, word.Ok) ∷ [], status.Done ∷ status.Done ∷ [])
unfolding kernel experiment session_of submit at two
a_due_run_of_higher_priority_goes_first = refl

a_later_due_date_is_waited_for : told (session_of two (at 0 (submit 0 (pos 0) 0) ∷ at 0 (submit 1 (pos 5) 9) ∷ []))
    ≡ ((1, 0, 0, word.Ok) ∷ (2, 0, 1, word.Ok) ∷ (3, 0, 2, word.Ok) ∷ (10, 1, 0, word.Ok) ∷ [], status.Done ∷ status.Done ∷ [])
unfolding kernel experiment session_of submit at two
a_later_due_date_is_waited_for = refl

equal_priority_is_not_higher : told (session_of two (at 0 (submit 0 (pos 0) 0) ∷ at 0 (submit 1 (pos 0) 1) ∷ []))
    ≡ ((1, 0, 0, word.Ok) ∷ (2, 0, 1, word.Ok) ∷ (3, 0, 2, word.Ok) ∷ (4, 1, 0, word.Ok) ∷ [], status.Done ∷ status.Done ∷ [])
unfolding kernel experiment session_of submit at two
equal_priority_is_not_higher = refl

a_waiting_run_is_deleted_at_once : told (session_of two (at 0 (submit 0 (pos 0) 0) ∷ at 0 (submit 1 (pos 5) 9) ∷ at 1 (Delete 1) ∷ []))
    ≡ ((1, 0, 0, word.Ok) ∷ (2, 0, 1, word.Ok) ∷ (3, 0, 2, word.Ok) ∷ [], status.Done ∷ status.Deleted ∷ [])
unfolding kernel experiment session_of submit at two
a_waiting_run_is_deleted_at_once = refl

a_run_terminates_at_its_pause : told (session_of two (at 0 (submit 0 (pos 0) 0) ∷ at 1 (Terminate 0) ∷ []))
    ≡ ((1, 0, 0, word.Ok) ∷ (2, 0, 1, word.Terminated) ∷ [], status.Terminated ∷ [])
unfolding kernel experiment session_of submit at two
a_run_terminates_at_its_pause = refl

a_run_in_flight_is_deleted_at_its_report : told (session_of two (at 0 (submit 0 (pos 0) 0) ∷ at 1 (Delete 0) ∷ []))
    ≡ ((1, 0, 0, word.Deleted) ∷ [], status.Deleted ∷ [])
unfolding kernel experiment session_of submit at two
a_run_in_flight_is_deleted_at_its_report = refl

an_append_to_nothing_fails : told (session_of (experiment (step.Append (122 ∷ []) (pos 1) ∷ []) ∷ []) (at 0 (submit 0 (pos 0) 0) ∷ []))
    ≡ ((1, 0, 0, word.Failed) ∷ [], status.Failed ∷ [])
unfolding kernel experiment session_of submit at two
an_append_to_nothing_fails = refl
