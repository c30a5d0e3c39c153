-- A run that comes upon a stack was prepared when it was due, and stands over paused runs of lower priority.
use Rattle.std.proofs.Common.{◌≡◌, ℕ, ◌≤◌, Bool, true, false, List, [], ◌∷◌, ◌++◌, filter, length, refl, sym, ◌∙◌, ap, arith, subst, append_assoc, append-nil, inl, inr}
use Rattle.std.specs.Prelude.{◌<ℤ◌, Option, Some, IsTrue, ◌⊎◌, nat_le}
use Rattle.std.specs.List.{AllByRecursion}
use Rattle.std.proofs.lemmas.Bool.{eqb-true, leb-true}
use Rattle.exp_runs.specs.declared.run.Run.{Run}
use Rattle.exp_runs.specs.declared.run.Status.{Status}
use Rattle.exp_runs.specs.declared.run.Status.TheVariants as status
use Rattle.exp_runs.specs.Keys.{can_prepare, can_run, is_due, is_of, run_of}
use Rattle.exp_runs.specs.Statuses.{is_pending, is_prepared, is_running}
use Rattle.exp_model.specs.declared.session.Session.{Session}
use Rattle.exp_model.specs.Sessions.{is_session}
use Rattle.sched_state.specs.declared.entry.JobName.TheVariants.{Prepare, Step, Analyze}
use Rattle.sched_state.specs.declared.entry.SchedAct.{SchedAct}
use Rattle.sched_state.specs.declared.entry.SchedAct.TheVariants as act
use Rattle.sched_state.specs.declared.entry.SchedEntry.{SchedEntry}
use Rattle.sched_state.specs.State.{SchedState, passes, top_of}
use Rattle.sched_state.specs.Picks.{pick}
use Rattle.sched_state.specs.Reports.{run_steps}
use Rattle.sched_state.specs.Lawful.{IsFlying, IsLawful, MayCome, after_entry, state_after}
use Rattle.sched_state.proofs.Openings.{first, second}
use Rattle.sched_state.proofs.Chosen.{best-chosen}
use Rattle.sched_state.proofs.Numbers.{numbered-after}
use Rattle.sched_laws.specs.Sound.{IsBelow, IsSound, Stands, StandsIn, is_on, jobs_of, not_ahead}
use Rattle.sched_laws.specs.Ladder.{PreemptsByPriority, takes}
use Rattle.sched_laws.proofs.Lookups.{found-has, found-number}
use Rattle.sched_laws.proofs.Flying.{top-on}
use Rattle.sched_laws.proofs.Coming.{OnlyIf, ReportsPrepared, TakesStep, by-act, has_prepared, on-narrowed, only-steady}
use Rattle.sched_laws.proofs.Moving.{by-clock}
use Rattle.sched_laws.proofs.Holding.{were-taken}
use Rattle.sched_laws.proofs.Statuses.{when-on, when-prepared, when-running}
use Rattle.sched_laws.proofs.Picked.{Begins, StepsBy, Yields, picked, prepares-by, steps-by}
use Rattle.sched_laws.proofs.Taking.{begins-under, found-test}
use Rattle.sched_laws.proofs.Idle.{on-has}
use Rattle.sched_laws.proofs.Histories.{lawful-back, lawful-front, sound-after, state-pushed}
use Rattle.sched_laws.proofs.Ends.{stay}

-- the run that yields is paused
yields-paused : (session : Session) (state : SchedState) (lower : Run) → IsSound session state → run_of state.runs lower.rid ≡ Some lower
    → is_on state.stack lower.rid ≡ true
    → Yields state (top_of state.runs state.stack lower.pipeline) → lower.status ≡ status.Paused
yields-paused session state lower was there on yields = at (is_running lower.status) refl
  where
    stood : Stands session not_ahead state lower
    stood = found-has (Stands session not_ahead state) state.runs lower.rid lower was.stands there

    at : (b : Bool) → is_running lower.status ≡ b → lower.status ≡ status.Paused
    at true e =
        let Z : Status → Type 0 =
        λ s. StandsIn (length (run_steps session lower)) 0 lower.rid lower.pos (jobs_of state.flying lower.rid) (is_on state.stack lower.rid)
        (top_of state.runs state.stack lower.pipeline) s in
        let stands : Z status.Running = subst Z (when-running lower.status e) stood in
        let Y : Option ℕ → Type 0 = λ top. Yields state top in
        let lends : Yields state (Some lower.rid) = subst Y stands.0 yields in
        absurd (cc (found-test (λ (r : Run). is_running r.status) state.runs lower.rid lower there, lends.0))
    at false e =
        let Y : Bool → Type 0 =
        λ b. StandsIn (length (run_steps session lower)) 0 lower.rid lower.pos (jobs_of state.flying lower.rid) b
        (top_of state.runs state.stack lower.pipeline) lower.status in
        when-on (length (run_steps session lower)) 0 lower.rid lower.pos (jobs_of state.flying lower.rid)
        (top_of state.runs state.stack lower.pipeline) lower.status e (subst Y on stood)

-- a step of a run that isn't on the stacks is due because the run begins
pub begins-off : (state : SchedState) (pipeline rid : ℕ) → is_on state.stack rid ≡ false → StepsBy state pipeline rid → Begins state pipeline rid
begins-off state pipeline rid off (inl due) = absurd (cc ((top-on (passes (is_of pipeline) state.runs) rid state.stack due.0).0, off))
begins-off state pipeline rid off (inr (inl due)) = due
begins-off state pipeline rid off (inr (inr due)) = absurd (cc ((top-on (passes (is_of pipeline) state.runs) rid state.stack due.0).0, off))

-- so it is prepared, and each run on its pipeline's stack is paused and of lower priority
begun-by : (session : Session) (state : SchedState) (rid place : ℕ) → IsSound session state → pick session state ≡ Some (Step rid place)
    → is_on state.stack rid ≡ false
    → (upper : Run) × (run_of state.runs rid ≡ Some upper) × (upper.status ≡ status.Prepared) × Begins state upper.pipeline rid
begun-by session state rid place was e off =
    let due = picked session state (Step rid place) e in
    let pipeline : ℕ = due.0.0 in
    let begins = begins-off state pipeline rid off (steps-by state pipeline rid due.0.1).1 in
    let chosen = best-chosen (can_run pipeline) state.runs was.numbered rid begins.0 in
    let own : chosen.0.pipeline ≡ pipeline = eqb-true chosen.0.pipeline pipeline (first (is_of pipeline chosen.0) (is_prepared chosen.0.status) chosen.2) in
    let B : ℕ → Type 0 = λ p. Begins state p rid in
    (chosen.0, chosen.1, when-prepared chosen.0.status (second (is_of pipeline chosen.0) (is_prepared chosen.0.status) chosen.2), subst B (sym own) begins)

lends : (session : Session) (state : SchedState) (rid : ℕ) (upper lower : Run) → IsSound session state → run_of state.runs rid ≡ Some upper
    → Begins state upper.pipeline rid
    → run_of state.runs lower.rid ≡ Some lower → is_on (filter (passes (is_of upper.pipeline) state.runs) state.stack) lower.rid ≡ true
    → (lower.status ≡ status.Paused) × (lower.priority <ℤ upper.priority)
lends session state rid upper lower was there begins found on =
    let narrow = on-narrowed (passes (is_of upper.pipeline) state.runs) lower.rid state.stack on in
    let like : lower.pipeline ≡ upper.pipeline =
    eqb-true lower.pipeline upper.pipeline (sym (found-test (is_of upper.pipeline) state.runs lower.rid lower found) ∙ narrow.1) in
    let below : AllByRecursion (IsBelow state.runs rid) state.stack =
    begins-under session state upper.pipeline rid upper (top_of state.runs state.stack upper.pipeline) was there refl begins.0 refl begins.1 in
    let Y : ℕ → Type 0 = λ p. Yields state (top_of state.runs state.stack p) in (
      yields-paused session state lower was found narrow.0 (subst Y (sym like) begins.1),
      on-has
          (IsBelow state.runs rid) lower.rid state.stack below narrow.0 upper lower there found like,
    )

-- whenever a run began to prepare, its due date was reached
pub due-reached : (session : Session) (history early late : List SchedEntry) (chair : ℕ) (run : Run) → IsTrue (is_session session) → IsLawful session history
    → history ≡ early ++ takes chair (Prepare run.rid) ∷ late → run_of (state_after session history).runs run.rid ≡ Some run
    → run.due ≤ (state_after session early).clock
due-reached session history early late chair run ok lawful parts there =
    let L : List SchedEntry → Type 0 = λ h. IsLawful session h in
    let S : List SchedEntry → Type 0 = λ h. run_of (state_after session h).runs run.rid ≡ Some run in
    let state : SchedState = state_after session early in
    let follows = (lawful-back session [] early (takes chair (Prepare run.rid) ∷ late) (subst L parts lawful)).0 in
    let due = picked session state (Prepare run.rid) follows.0 in
    let chosen = best-chosen (can_prepare due.0 state.clock) state.runs (numbered-after session early) run.rid (prepares-by state due.0 run.rid due.1) in
    let reached : is_due state.clock chosen.0 ≡ true = second (is_of due.0 chosen.0) (is_due state.clock chosen.0) chosen.2 in
    let le : chosen.0.due ≤ state.clock = leb-true chosen.0.due state.clock (second (is_pending chosen.0.status) (nat_le chosen.0.due state.clock) reached) in
    let stays = stay session early (takes chair (Prepare run.rid) ∷ late) run.rid chosen.0 chosen.1 in
    let same : stays.0 ≡ run = cc (stays.1, subst S parts there) in
    let kept : run.due ≡ chosen.0.due = ap (λ (r : Run). r.due) (sym same) ∙ stays.4 in
    omega (arith, le, kept)

-- a run that is prepared began to prepare
abbrev Began : List SchedEntry → ℕ → Type 0
Began history x = (early : List SchedEntry) × (chair : ℕ) × (late : List SchedEntry) × (history ≡ early ++ takes chair (Prepare x) ∷ late)

abbrev IfPrepared : ℕ → List SchedEntry → SchedState → Type 0
IfPrepared x history state = has_prepared state.runs x ≡ true → Began history x

began-longer : (before rest : List SchedEntry) (x : ℕ) → Began before x → Began (before ++ rest) x
began-longer before rest x was = (was.0, was.1, was.2 ++ rest, ap (λ h. h ++ rest) was.3 ∙ append_assoc was.0 (takes was.1 (Prepare x) ∷ was.2) rest)

reports-began : (session : Session) (state : SchedState) (chair x : ℕ) (what : SchedAct) → MayCome session state chair what → ReportsPrepared x what
    → IsFlying state chair (Prepare x)
reports-began session state chair x (act.Took job) may e = absurd e
reports-began session state chair x (act.Prepared rid) may e = let P : ℕ → Type 0 = λ y. IsFlying state chair (Prepare y) in subst P e may
reports-began session state chair x (act.Stepped rid place pipeline clock result word) may e = absurd e
reports-began session state chair x (act.Analyzed rid) may e = absurd e
reports-began session state chair x (act.SourceRefused rid) may e = absurd e
reports-began session state chair x (act.Jumped clock) may e = absurd e
reports-began session state chair x act.Halted may e = absurd e

prepared-from : (session : Session) (x : ℕ) (before rest : List SchedEntry) → IsTrue (is_session session) → IsLawful session (before ++ rest)
    → IfPrepared x before (state_after session before)
    → IfPrepared x (before ++ rest) (state_after session (before ++ rest))
prepared-from session x before [] ok lawful was =
    let P : List SchedEntry → Type 0 = λ h. IfPrepared x h (state_after session h) in subst P (sym (append-nil before)) was
prepared-from session x before (entry ∷ rest) ok lawful was =
    let P : List SchedEntry → Type 0 = λ h. IfPrepared x h (state_after session h) in
    let L : List SchedEntry → Type 0 = λ h. IsLawful session h in
    let Q : SchedState → Type 0 = λ s. IfPrepared x (before ++ entry ∷ []) s in
    let state : SchedState = state_after session before in
    let front : IsLawful session before = lawful-front session [] before (entry ∷ rest) lawful in
    let may : MayCome session state entry.chair entry.act = (lawful-back session [] before (entry ∷ rest) lawful).0.0 in
    let came = by-act session entry.chair entry.act state x ok (sound-after session before ok front) may in
    let next : Q (after_entry session state entry) = λ h. began-longer before (entry ∷ []) x (at front may (came.1 h)) in
    subst P (append_assoc before (entry ∷ []) rest)
    (prepared-from session x (before ++ entry ∷ []) rest ok (subst L (sym (append_assoc before (entry ∷ []) rest)) lawful)
    (subst Q (sym (state-pushed session before entry)) next))
  where
    at : IsLawful session before → MayCome session (state_after session before) entry.chair entry.act
        → (has_prepared (state_after session before).runs x ≡ true) ⊎ ReportsPrepared x entry.act → Began before x
    at front may (inl h) = was h
    at front may (inr e) =
        let took =
        were-taken session before ok front entry.chair (Prepare x) (reports-began session (state_after session before) entry.chair x entry.act may e) in
        (took.0, entry.chair, took.1, took.2)

has-begun : (session : Session) (history : List SchedEntry) (x : ℕ) → IsTrue (is_session session) → IsLawful session history
    → IfPrepared x history (state_after session history)
has-begun session history x ok lawful =
    prepared-from session x [] history ok lawful
    (λ h. absurd ((by-clock (OnlyIf x (Unit {0}) ⊥) (only-steady x (Unit {0}) ⊥) 0
    (record { runs = []; stack = []; flying = []; clock = 0; arrivals = session.arrivals; datasets = [] }) (λ k. tt, λ k. absurd (cc))).1 h))

takes-step : (session : Session) (state : SchedState) (chair x : ℕ) (what : SchedAct) → MayCome session state chair what → TakesStep x what
    → (place : ℕ) × (pick session state ≡ Some (Step x place)) × (what ≡ act.Took (Step x place))
takes-step session state chair x (act.Took (Prepare rid)) may e = absurd e
takes-step session state chair x (act.Took (Step rid place)) may e = (place, may ∙ ap (λ y. Some (Step y place)) e, ap (λ y. act.Took (Step y place)) e)
takes-step session state chair x (act.Took (Analyze rid)) may e = absurd e
takes-step session state chair x (act.Prepared rid) may e = absurd e
takes-step session state chair x (act.Stepped rid place pipeline clock result word) may e = absurd e
takes-step session state chair x (act.Analyzed rid) may e = absurd e
takes-step session state chair x (act.SourceRefused rid) may e = absurd e
takes-step session state chair x (act.Jumped clock) may e = absurd e
takes-step session state chair x act.Halted may e = absurd e

comes-by : (x : ℕ) (what : SchedAct) (state : SchedState) → is_on state.stack x ≡ false → (is_on state.stack x ≡ true) ⊎ TakesStep x what → TakesStep x what
comes-by x what state off (inl h) = absurd (cc (h, off))
comes-by x what state off (inr e) = e

pub preempts : PreemptsByPriority
preempts session before entry rid ok lawful off on =
    let S : SchedState → Type 0 = λ s. is_on s.stack rid ≡ true in
    let state : SchedState = state_after session before in
    let front : IsLawful session before = lawful-front session [] before (entry ∷ []) lawful in
    let may : MayCome session state entry.chair entry.act = (lawful-back session [] before (entry ∷ []) lawful).0.0 in
    let was : IsSound session state = sound-after session before ok front in
    let came = by-act session entry.chair entry.act state rid ok was may in
    let taken =
    takes-step session state entry.chair rid entry.act may (comes-by rid entry.act state off (came.0 (subst S (state-pushed session before entry) on))) in
    let begins = begun-by session state rid taken.0 was taken.1 off in
    let upper : Run = begins.0 in
    let number : upper.rid ≡ rid = found-number state.runs rid upper begins.1 in
    let own : run_of state.runs upper.rid ≡ Some upper = ap (run_of state.runs) number ∙ begins.1 in
    let prepared : has_prepared state.runs upper.rid ≡ true =
    found-test (λ (r : Run). is_prepared r.status) state.runs upper.rid upper own ∙ ap is_prepared begins.2 in (
      upper,
      begins.1,
      record {
        taken = (taken.0, taken.2 ∙ ap (λ y. act.Took (Step y taken.0)) (sym number));
        prepared = begins.2;
        due = record {
          began = has-begun session before upper.rid ok front prepared;
          due = λ early late chair parts. due-reached session before early late chair upper ok front parts own;
        };
        over = λ lower found stands. lends session state rid upper lower was begins.1 begins.3 found stands;
      },
    )
