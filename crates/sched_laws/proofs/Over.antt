-- Once all is over, nothing comes but a halt.
use Rattle.std.proofs.Common.{◌≡◌, ℕ, Bool, true, false, List, [], ◌∷◌, ◌++◌, cond, filter, length, map, refl, sym, ◌∙◌, ap, arith, subst, append_assoc, append-nil}
use Rattle.std.specs.Prelude.{Option, Some, None, IsTrue, ◌==◌, ◌&&◌, option_map, slice_get, nat_le, nat_lt}
use Rattle.std.specs.List.{AllByRecursion, list_all}
use Rattle.std.proofs.lemmas.Bool.{eqb-true}
use Rattle.exp_runs.specs.declared.run.Run.{Run}
use Rattle.exp_runs.specs.declared.run.Status.{Status}
use Rattle.exp_runs.specs.declared.run.Status.TheVariants as status
use Rattle.exp_runs.specs.Keys.{can_analyze, can_prepare, is_due, is_of, run_of}
use Rattle.exp_runs.specs.Statuses.{is_ended, is_pending, is_run_done}
use Rattle.exp_model.specs.declared.session.Session.{Session}
use Rattle.exp_model.specs.declared.arrival.Arrival.{Arrival}
use Rattle.sched_state.specs.declared.entry.JobName.{JobName}
use Rattle.sched_state.specs.declared.entry.JobName.TheVariants.{Prepare, Step, Analyze}
use Rattle.sched_state.specs.declared.entry.SchedAct.{SchedAct}
use Rattle.sched_state.specs.declared.entry.SchedAct.TheVariants as act
use Rattle.sched_state.specs.declared.entry.SchedEntry.{SchedEntry}
use Rattle.sched_state.specs.State.{SchedState, top_of}
use Rattle.sched_state.specs.Picks.{earlier, earliest, is_over, next_date, pick, waits_longer}
use Rattle.sched_state.specs.Reports.{run_steps}
use Rattle.sched_state.specs.Lawful.{IsFlying, IsLawfulAfter, MayCome, after_act, state_after}
use Rattle.sched_state.proofs.Openings.{first, second}
use Rattle.sched_state.proofs.Chosen.{best-chosen}
use Rattle.sched_laws.specs.Sound.{IsSound, Stands, StandsIn, is_on, jobs_of, not_ahead}
use Rattle.sched_laws.specs.Waits.{is_waiting, waits_in}
use Rattle.sched_laws.specs.Workers.{OverStays}
use Rattle.sched_laws.proofs.Lookups.{found-has}
use Rattle.sched_laws.proofs.Flying.{none-there}
use Rattle.sched_laws.proofs.Statuses.{when-done, when-pending}
use Rattle.sched_laws.proofs.Picked.{analyzes-by, picked, prepares-by, steps-by}
use Rattle.sched_laws.proofs.Taking.{found-test}
use Rattle.sched_laws.proofs.Reporting.{in-flight}
use Rattle.sched_laws.proofs.Waiting.{due-there, due-waits}
use Rattle.sched_laws.proofs.Arriving.{all-from-test}
use Rattle.sched_laws.proofs.Histories.{lawful-back, lawful-front, sound-after, state-pushed}

-- what ended doesn't wait, and has no job
waits-not : (jobs : List JobName) (is : Status) → is_ended is ≡ true → waits_in jobs is ≡ true → ⊥
waits-not jobs status.Pending e h = cc
waits-not jobs status.Preparing e h = cc
waits-not jobs status.Prepared e h = cc
waits-not jobs status.Running e h = cc
waits-not jobs status.Paused e h = cc
waits-not jobs status.RunDone e h = cc
waits-not jobs status.Analyzing e h = cc
waits-not jobs status.Done e h = cc
waits-not jobs status.Failed e h = cc
waits-not jobs status.Terminated e h = cc
waits-not jobs status.Deleted e h = cc

ended-idle : (steps ahead rid pos : ℕ) (jobs : List JobName) (on : Bool) (top : Option ℕ) (is : Status) → is_ended is ≡ true
    → StandsIn steps ahead rid pos jobs on top is → jobs ≡ []
ended-idle steps ahead rid pos jobs on top status.Pending e h = absurd (cc)
ended-idle steps ahead rid pos jobs on top status.Preparing e h = absurd (cc)
ended-idle steps ahead rid pos jobs on top status.Prepared e h = absurd (cc)
ended-idle steps ahead rid pos jobs on top status.Running e h = absurd (cc)
ended-idle steps ahead rid pos jobs on top status.Paused e h = absurd (cc)
ended-idle steps ahead rid pos jobs on top status.RunDone e h = absurd (cc)
ended-idle steps ahead rid pos jobs on top status.Analyzing e h = absurd (cc)
ended-idle steps ahead rid pos jobs on top status.Done e h = h.0
ended-idle steps ahead rid pos jobs on top status.Failed e h = h.0
ended-idle steps ahead rid pos jobs on top status.Terminated e h = h.0
ended-idle steps ahead rid pos jobs on top status.Deleted e h = h.0

longer-not : (clock due : ℕ) (is : Status) → is_ended is ≡ true → (is_pending is && nat_lt clock due) ≡ false
longer-not clock due status.Pending e = absurd (cc)
longer-not clock due status.Preparing e = refl
longer-not clock due status.Prepared e = refl
longer-not clock due status.Running e = refl
longer-not clock due status.Paused e = refl
longer-not clock due status.RunDone e = refl
longer-not clock due status.Analyzing e = refl
longer-not clock due status.Done e = refl
longer-not clock due status.Failed e = refl
longer-not clock due status.Terminated e = refl
longer-not clock due status.Deleted e = refl

-- every run ended
abbrev AllEnded : SchedState → Type 0
AllEnded state = AllByRecursion (λ (r : Run). IsTrue (is_ended r.status)) state.runs

all-ended : (state : SchedState) → IsTrue (is_over state) → AllEnded state
all-ended state over =
    all-from-test (λ (r : Run). is_ended r.status) state.runs (second (length state.arrivals == 0) (list_all (λ (r : Run). is_ended r.status) state.runs) over)

is-ended : (state : SchedState) (x : ℕ) (run : Run) → IsTrue (is_over state) → run_of state.runs x ≡ Some run → is_ended run.status ≡ true
is-ended state x run over there = found-has (λ (r : Run). IsTrue (is_ended r.status)) state.runs x run (all-ended state over) there

-- so none is due
none-due : (session : Session) (state : SchedState) (job : JobName) → IsSound session state → IsTrue (is_over state) → pick session state ≡ Some job → ⊥
none-due session state (Prepare rid) was over e =
    let due = picked session state (Prepare rid) e in
    let chosen = best-chosen (can_prepare due.0 state.clock) state.runs was.numbered rid (prepares-by state due.0 rid due.1) in
    let is : chosen.0.status ≡ status.Pending =
    when-pending chosen.0.status (first (is_pending chosen.0.status) (nat_le chosen.0.due state.clock)
    (second (is_of due.0 chosen.0) (is_due state.clock chosen.0) chosen.2)) in
    cc (ap is_ended is, is-ended state rid chosen.0 over chosen.1)
none-due session state (Step rid place) was over e =
    let due = picked session state (Step rid place) e in
    let found = due-there session state due.0.0 rid was (steps-by state due.0.0 rid due.0.1).1 in
    let waiting : is_waiting state.flying found.0 ≡ true =
    sym (found-test (is_waiting state.flying) state.runs rid found.0 found.1) ∙ due-waits session state rid place was e in
    waits-not (jobs_of state.flying found.0.rid) found.0.status (is-ended state rid found.0 over found.1) waiting
none-due session state (Analyze rid) was over e =
    let due = picked session state (Analyze rid) e in
    let chosen = best-chosen (can_analyze due.0) state.runs was.numbered rid (analyzes-by state due.0 rid due.1) in
    let is : chosen.0.status ≡ status.RunDone = when-done chosen.0.status (second (is_of due.0 chosen.0) (is_run_done chosen.0.status) chosen.2) in
    cc (ap is_ended is, is-ended state rid chosen.0 over chosen.1)

-- none is in flight
none-flies : (session : Session) (state : SchedState) (chair : ℕ) (job : JobName) → IsSound session state → IsTrue (is_over state) → IsFlying state chair job
    → ⊥
none-flies session state chair job was over flies =
    let f = in-flight session not_ahead state chair job was flies in
    let r : Run = f.0 in
    let stood : Stands session not_ahead state r = found-has (Stands session not_ahead state) state.runs _ r was.stands f.1.0 in
    let idle : jobs_of state.flying r.rid ≡ [] =
    ended-idle (length (run_steps session r)) 0 r.rid r.pos (jobs_of state.flying r.rid) (is_on state.stack r.rid)
    (top_of state.runs state.stack r.pipeline) r.status (is-ended state _ r over f.1.0) stood in
    none-there f.1.1.0 f.1.1.1 job (sym idle ∙ f.1.1.2)

-- and no date is left
filter-ended : (clock : ℕ) (runs : List Run) → AllByRecursion (λ (r : Run). IsTrue (is_ended r.status)) runs → filter (waits_longer clock) runs ≡ []
filter-ended clock [] all = refl
filter-ended clock (r ∷ runs) all =
    ap (λ b. cond b (r ∷ filter (waits_longer clock) runs) (filter (waits_longer clock) runs)) (longer-not clock r.due r.status all.0)
    ∙ filter-ended clock runs all.1

none-left : (arrivals : List Arrival) → length arrivals ≡ 0 → arrivals ≡ []
none-left [] e = refl
none-left (a ∷ arrivals) e = absurd (omega (arith, e))

no-date : (state : SchedState) → IsTrue (is_over state) → next_date state ≡ None
no-date state over =
    let ended : Bool = list_all (λ (r : Run). is_ended r.status) state.runs in
    let no_more : state.arrivals ≡ [] = none-left state.arrivals (eqb-true (length state.arrivals) 0 (first (length state.arrivals == 0) ended over)) in
    ap (λ (left : List Arrival). earlier (option_map (λ (a : Arrival). a.at) (slice_get left 0))
    (earliest (map (λ (r : Run). r.due) (filter (waits_longer state.clock) state.runs)))) no_more
    ∙ ap (λ (runs : List Run). earlier None (earliest (map (λ (r : Run). r.due) runs))) (filter-ended state.clock state.runs (all-ended state over))

only-halts : (session : Session) (state : SchedState) (chair : ℕ) (what : SchedAct) → IsSound session state → IsTrue (is_over state)
    → MayCome session state chair what → what ≡ act.Halted
only-halts session state chair (act.Took job) was over may = absurd (none-due session state job was over may)
only-halts session state chair (act.Prepared rid) was over may = absurd (none-flies session state chair (Prepare rid) was over may)
only-halts session state chair (act.Stepped rid place pipeline clock result word) was over may =
    absurd (none-flies session state chair (Step rid place) was over may.0)
only-halts session state chair (act.Analyzed rid) was over may = absurd (none-flies session state chair (Analyze rid) was over may)
only-halts session state chair (act.SourceRefused rid) was over may = absurd (none-flies session state chair (Prepare rid) was over may)
only-halts session state chair (act.Jumped clock) was over may = let none : next_date state ≡ None = no-date state over in absurd (cc (may.2))
only-halts session state chair act.Halted was over may = refl

abbrev StaysOver : Session → List SchedEntry → List SchedEntry → List SchedEntry → Type 0
StaysOver session before rest whole =
    (state_after session whole ≡ state_after session before) × AllByRecursion (λ (entry : SchedEntry). entry.act ≡ act.Halted) rest

over-from : (session : Session) (before rest : List SchedEntry) → IsLawfulAfter session before rest → IsSound session (state_after session before)
    → IsTrue (is_over (state_after session before))
    → StaysOver session before rest (before ++ rest)
over-from session before [] lawful was over = (ap (state_after session) (append-nil before), tt)
over-from session before (entry ∷ rest) lawful was over =
    let Q : SchedState → Type 0 = λ s. IsSound session s × IsTrue (is_over s) in
    let state : SchedState = state_after session before in
    let halts : entry.act ≡ act.Halted = only-halts session state entry.chair entry.act was over lawful.0.0 in
    let same : state_after session (before ++ entry ∷ []) ≡ state =
    state-pushed session before entry ∙ ap (λ what. after_act session entry.chair what state) halts in
    let kept : Q (state_after session (before ++ entry ∷ [])) = subst Q (sym same) (was, over) in
    let further = over-from session (before ++ entry ∷ []) rest lawful.1 kept.0 kept.1 in
    (ap (state_after session) (sym (append_assoc before (entry ∷ []) rest)) ∙ further.0 ∙ same, (halts, further.1))

pub over-stays : OverStays
over-stays session before after ok lawful over =
    over-from session before after (lawful-back session [] before after lawful) (sound-after session before ok (lawful-front session [] before after lawful))
    over
