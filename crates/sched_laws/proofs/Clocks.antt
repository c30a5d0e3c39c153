-- The clock of a lawful history is low: it jumps to dates that may come, and rises by one at the report of a step.
use Rattle.std.proofs.Common.{◌≡◌, ℕ, ◌+◌, ◌≤◌, ◌^◌, Bool, true, false, List, [], ◌∷◌, ◌++◌, cond, length, refl, sym, ◌∙◌, ap, subst, arith, append_assoc, append-nil}
use Rattle.std.specs.Prelude.{Option, Some, None, slice_get, IsTrue}
use Rattle.std.proofs.lemmas.List.{length-append}
use Rattle.exp_runs.specs.declared.run.Run.{Run}
use Rattle.exp_runs.specs.declared.run.Status.{Status}
use Rattle.exp_runs.specs.declared.run.Status.TheVariants as status
use Rattle.exp_runs.specs.Keys.{run_of}
use Rattle.exp_model.specs.declared.session.Session.{Session}
use Rattle.exp_model.specs.declared.session.Experiment.{Experiment}
use Rattle.exp_model.specs.declared.step.HostStep.{HostStep}
use Rattle.exp_model.specs.Sessions.{is_session}
use Rattle.sched_state.specs.declared.entry.JobName.TheVariants.{Prepare, Step, Analyze}
use Rattle.sched_state.specs.declared.entry.KernelResult.{KernelResult}
use Rattle.sched_state.specs.declared.entry.SchedAct.{SchedAct}
use Rattle.sched_state.specs.declared.entry.SchedAct.TheVariants as act
use Rattle.sched_state.specs.declared.entry.SchedEntry.{SchedEntry}
use Rattle.sched_state.specs.State.{SchedState, landed, with_run}
use Rattle.sched_state.specs.Arrivals.{opening}
use Rattle.sched_state.specs.Datasets.{stage}
use Rattle.sched_state.specs.Lawful.{IsLawful, IsLawfulAfter, MayCome, after_act, after_entry, state_after}
use Rattle.sched_state.specs.Reports.{Effect, after_clock, after_stage, run_effect, run_steps, staged_run, status_then, step_effect, step_effect_of, steps_of}
use Rattle.sched_laws.specs.Sound.{IsSound}
use Rattle.sched_laws.proofs.Arriving.{clock-moved, opening-sound}
use Rattle.sched_laws.proofs.Moving.{IsKept, by-run-effect, by-settling}
use Rattle.sched_laws.proofs.Dates.{date-later}
use Rattle.sched_laws.proofs.Histories.{by-act, state-pushed}
use Rattle.sched_laws.specs.Sound.{not_ahead}

-- the clock shows this
abbrev Shows : ℕ → SchedState → Type 0
Shows n state = state.clock ≡ n

shows-kept : (n : ℕ) → IsKept (Shows n)
shows-kept n = record { push = λ asked state was. was; store = λ datasets state was. was }

step-clock : (session : Session) (place : ℕ) (result : Option KernelResult) (now : SchedState) (found : Option Run)
    → Shows now.clock (step_effect_of session place result now found).state
step-clock session place result now None = refl
step-clock session place result now (Some run) =
    let what : Option HostStep = slice_get (run_steps session run) place in
    let end : Effect = run_effect session run what result now in
    by-settling (Shows end.state.clock) (status_then end.status run.pos (length (run_steps session run))) run.rid (landed run.rid end.state) refl refl
    ∙ by-run-effect (Shows now.clock) (shows-kept now.clock) session run what result now refl

-- the report of a step
pub stepped-clock : (session : Session) (rid place : ℕ) (result : Option KernelResult) (state : SchedState)
    → (step_effect session rid place result state).state.clock ≡ state.clock + 1
stepped-clock session rid place result state =
    let now : SchedState = after_clock rid state in
    step-clock session place result now (run_of now.runs rid) ∙ (clock-moved (state.clock + 1) state).1

stage-clock : (of_stage : Experiment → List HostStep) (next : Status) (session : Session) (rid : ℕ) (state : SchedState) (found : Option Run)
    → Shows state.clock (staged_run of_stage next session rid state found)
stage-clock of_stage next session rid state None = refl
stage-clock of_stage next session rid state (Some run) = at run.doomed
  where
    at : (b : Bool)
        → Shows state.clock
        (cond b (with_run (λ (r : Run). record r { status = status.Deleted }) rid state)
        (after_stage next rid (stage (steps_of of_stage session run) state.datasets) state))
    at true = refl
    at false = refl

-- after so many entries
abbrev IsLow : ℕ → SchedState → Type 0
IsLow count state = state.clock ≤ 2 ^ 62 + count

act-low : (session : Session) (chair count : ℕ) (what : SchedAct) (state : SchedState) → IsSound session state → MayCome session state chair what
    → IsLow count state → IsLow (count + 1) (after_act session chair what state)
act-low session chair count (act.Took (Prepare rid)) state sound may low = omega (arith, low)
act-low session chair count (act.Took (Step rid place)) state sound may low = omega (arith, low)
act-low session chair count (act.Took (Analyze rid)) state sound may low = omega (arith, low)
act-low session chair count (act.Prepared rid) state sound may low =
    let same = stage-clock (λ (e : Experiment). e.prepare) status.Prepared session rid (landed rid state) (run_of state.runs rid) in omega (arith, low, same)
act-low session chair count (act.Stepped rid place pipeline clock result word) state sound may low =
    let up = stepped-clock session rid place result state in omega (arith, low, up)
act-low session chair count (act.Analyzed rid) state sound may low =
    let same = stage-clock (λ (e : Experiment). e.analyze) status.Done session rid (landed rid state) (run_of state.runs rid) in omega (arith, low, same)
act-low session chair count (act.SourceRefused rid) state sound may low = omega (arith, low)
act-low session chair count (act.Jumped clock) state sound may low =
    let date = date-later session state clock sound may.2 in
    let is = (clock-moved clock state).1 in
    omega (arith, date, is)
act-low session chair count act.Halted state sound may low = omega (arith, low)

low-from : (session : Session) (before rest : List SchedEntry) → IsTrue (is_session session) → IsLawfulAfter session before rest
    → IsSound session (state_after session before) → IsLow (length before) (state_after session before)
    → IsLow (length (before ++ rest)) (state_after session (before ++ rest))
low-from session before [] ok lawful sound low =
    let P : List SchedEntry → Type 0 = λ h. IsLow (length h) (state_after session h) in subst P (sym (append-nil before)) low
low-from session before (entry ∷ rest) ok lawful sound low =
    let state : SchedState = state_after session before in
    let next : List SchedEntry = before ++ entry ∷ [] in
    let P : List SchedEntry → Type 0 = λ h. IsLow (length h) (state_after session h) in
    let S : SchedState → Type 0 = λ s. IsSound session s in
    let count : length next ≡ length before + 1 = length-append before (entry ∷ []) in
    let is : state_after session next ≡ after_entry session state entry = state-pushed session before entry in
    let shows : (state_after session next).clock ≡ (after_entry session state entry).clock = ap (λ (s : SchedState). s.clock) is in
    let here = act-low session entry.chair (length before) entry.act state sound lawful.0.0 low in
    subst P (append_assoc before (entry ∷ []) rest)
    (low-from session next rest ok lawful.1 (subst S (sym is) (by-act session entry.chair entry.act state ok sound lawful.0.0))
    (omega (arith, count, shows, here)))

-- the clock is at most a date that may come, and one more for each entry
pub clock-after : (session : Session) (history : List SchedEntry) → IsTrue (is_session session) → IsLawful session history
    → (state_after session history).clock ≤ 2 ^ 62 + length history
clock-after session history ok lawful =
    let none : (opening session).clock ≡ 0 =
    (clock-moved 0 (record { runs = []; stack = []; flying = []; clock = 0; arrivals = session.arrivals; datasets = [] })).1 in
    low-from session [] history ok lawful (opening-sound session not_ahead ok) (omega (arith, none))
