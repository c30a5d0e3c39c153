-- A history uses up the jobs that are left, and reports each once.
use Rattle.std.proofs.Common.{◌≡◌, ◌≢◌, ℕ, ◌+◌, ◌-◌, ◌*◌, ◌<◌, ◌≤◌, Bool, true, false, List, [], ◌∷◌, ◌++◌, cond, length, refl, sym, ◌∙◌, ap, arith, subst, append_assoc, append-nil, inl, inr}
use Rattle.std.specs.Prelude.{Option, Some, None, IsTrue, ◌==◌, ◌⊎◌, count_by, is_some, slice_get}
use Rattle.std.specs.List.{AllByRecursion, sum_by}
use Rattle.std.proofs.lemmas.Bool.{eq-eqb}
use Rattle.std.proofs.lemmas.Bool.Decides.{eqb_tells}
use Rattle.std.proofs.lemmas.List.Sums.{sum_by-cons}
use Rattle.exp_runs.specs.declared.run.Run.{Run}
use Rattle.exp_runs.specs.declared.run.Status.{Status}
use Rattle.exp_runs.specs.declared.run.Status.TheVariants as status
use Rattle.exp_runs.specs.Keys.{run_of}
use Rattle.exp_model.specs.declared.session.Session.{Session}
use Rattle.exp_model.specs.declared.session.Experiment.{Experiment}
use Rattle.exp_model.specs.Sessions.{is_session}
use Rattle.sched_state.specs.declared.entry.JobName.{JobName}
use Rattle.sched_state.specs.declared.entry.JobName.TheVariants.{Prepare, Step, Analyze}
use Rattle.sched_state.specs.declared.entry.SchedEntry.{SchedEntry}
use Rattle.sched_state.specs.State.{SchedState, rid_of}
use Rattle.sched_state.specs.Boards.{AreNumberedFrom}
use Rattle.sched_state.specs.Reports.{run_steps, steps_in}
use Rattle.sched_state.specs.Lawful.{IsFlying, IsLawfulAfter, state_after}
use Rattle.sched_state.proofs.Numbers.{numbered-after}
use Rattle.sched_laws.specs.Sound.{IsSound, Stands, not_ahead}
use Rattle.sched_laws.specs.Workers.{StepStands, reported, status_for}
use Rattle.sched_laws.specs.Left.{FewJobsAreLeft, JobsAreReportedOnce, ReportsUseUp, is_report, jobs_left, left_in, left_of}
use Rattle.sched_laws.proofs.Lookups.{found-has}
use Rattle.sched_laws.proofs.Flying.{eqb-no}
use Rattle.sched_laws.proofs.Taking.{found-within}
use Rattle.sched_laws.proofs.Reporting.{in-flight}
use Rattle.sched_laws.proofs.Standing.{stands-so}
use Rattle.sched_laws.proofs.Flights.{report-flies}
use Rattle.sched_laws.proofs.Roomy.{roomy-after}
use Rattle.sched_laws.proofs.Stays.{Stays, stays-here, stays-stable}
use Rattle.sched_laws.proofs.Through.{by-act as stays-act}
use Rattle.sched_laws.proofs.Left.{HasRoom, Uses, few-steps, found-at, weight}
use Rattle.sched_laws.proofs.UsedUp.{by_report, used-none, uses-act}
use Rattle.sched_laws.proofs.Histories.{by-act, lawful-back, lawful-front, sound-after, state-pushed}

-- what an entry uses up
abbrev uses_up : (ℕ → Bool) → SchedEntry → ℕ
uses_up t entry = by_report t (reported entry.act)

uses-from : (session : Session) (t : ℕ → Bool) (room : ℕ → ℕ) (bound n : ℕ) → IsTrue (is_session session) → HasRoom t room bound
    → (before rest : List SchedEntry) (used : ℕ) → IsLawfulAfter session before rest
    → IsSound session (state_after session before) → Uses session t room bound used n (state_after session before).runs
    → Uses session t room bound (used + sum_by (uses_up t) rest) n (state_after session (before ++ rest)).runs
uses-from session t room bound n ok free before [] used lawful was uses =
    let P : List SchedEntry → Type 0 = λ h. Uses session t room bound (used + 0) n (state_after session h).runs in
    subst P (sym (append-nil before)) (used-none session t room bound n ok free used (state_after session before).runs uses)
uses-from session t room bound n ok free before (entry ∷ rest) used lawful was uses =
    let state : SchedState = state_after session before in
    let Q : SchedState → Type 0 = λ s. IsSound session s × Uses session t room bound (used + uses_up t entry) n s.runs in
    let next : Q (state_after session (before ++ entry ∷ [])) =
    subst Q (sym (state-pushed session before entry)) (
      by-act session entry.chair entry.act state ok was lawful.0.0,
      uses-act session t room bound n ok free
          entry.chair used entry.act state was lawful.0.0 uses,
    ) in
    let further = uses-from session t room bound n ok free (before ++ entry ∷ []) rest (used + uses_up t entry) lawful.1 next.0 next.1 in
    let P : List SchedEntry → Type 0 = λ h. Uses session t room bound (used + uses_up t entry + sum_by (uses_up t) rest) n (state_after session h).runs in
    let R : ℕ → Type 0 = λ u. Uses session t room bound u n (state_after session (before ++ entry ∷ rest)).runs in
    let count : sum_by (uses_up t) (entry ∷ rest) ≡ uses_up t entry + sum_by (uses_up t) rest = sum_by-cons (uses_up t) entry rest in
    let same : used + uses_up t entry + sum_by (uses_up t) rest ≡ used + sum_by (uses_up t) (entry ∷ rest) = omega (arith, count) in
    subst R same (subst P (append_assoc before (entry ∷ []) rest) further)

-- all runs count
abbrev all_runs : ℕ → Bool
all_runs rid = true

abbrev room_for : ℕ → ℕ
room_for runs = 18 * (64 - runs)

report-counts : (found : Option JobName) → by_report all_runs found ≡ cond (is_some found) 1 0
report-counts None = refl
report-counts (Some job) = refl

reports-count : (entries : List SchedEntry) → sum_by (uses_up all_runs) entries ≡ count_by is_report entries
reports-count [] = refl
reports-count (entry ∷ entries) =
    let a : sum_by (uses_up all_runs) (entry ∷ entries) ≡ uses_up all_runs entry + sum_by (uses_up all_runs) entries =
    sum_by-cons (uses_up all_runs) entry entries in
    let b : count_by is_report (entry ∷ entries) ≡ cond (is_report entry) 1 0 + count_by is_report entries =
    sum_by-cons (λ (e : SchedEntry). cond (is_report e) 1 0) entry entries in
    let c : uses_up all_runs entry ≡ cond (is_report entry) 1 0 = report-counts (reported entry.act) in
    let rest : sum_by (uses_up all_runs) entries ≡ count_by is_report entries = reports-count entries in
    omega (arith, a, b, c, rest)

pub use-up : ReportsUseUp
use-up session before after ok lawful =
    let state : SchedState = state_after session before in
    let free : HasRoom all_runs room_for 0 = λ k low h. omega (arith, h) in
    let all = uses-from session all_runs room_for 0 (jobs_left session state) ok free before after 0 (lawful-back session [] before after lawful)
    (sound-after session before ok (lawful-front session [] before after lawful)) (numbered-after session before, omega arith, λ k. omega arith) in
    let roomy = roomy-after session (before ++ after) ok in
    let most = all.2 (omega (arith, roomy)) in
    let count = reports-count after in
    omega (arith, most, count)

-- a run has 18 jobs at most
most-left : (steps pos : ℕ) (is : Status) → steps ≤ 16 → left_in steps pos is ≤ 18
most-left steps pos status.Pending h = omega (arith, h)
most-left steps pos status.Preparing h = omega (arith, h)
most-left steps pos status.Prepared h = omega (arith, h)
most-left steps pos status.Running h = omega (arith, h)
most-left steps pos status.Paused h = omega (arith, h)
most-left steps pos status.RunDone h = omega (arith, h)
most-left steps pos status.Analyzing h = omega (arith, h)
most-left steps pos status.Done h = omega (arith, h)
most-left steps pos status.Failed h = omega (arith, h)
most-left steps pos status.Terminated h = omega (arith, h)
most-left steps pos status.Deleted h = omega (arith, h)

most-all : (session : Session) (runs : List Run) → IsTrue (is_session session) → sum_by (left_of session) runs ≤ 18 * length runs
most-all session [] ok = omega arith
most-all session (r ∷ runs) ok =
    let a : sum_by (left_of session) (r ∷ runs) ≡ left_of session r + sum_by (left_of session) runs = sum_by-cons (left_of session) r runs in
    let one : left_of session r ≤ 18 = most-left (length (run_steps session r)) r.pos r.status (few-steps session r ok) in
    let rest : sum_by (left_of session) runs ≤ 18 * length runs = most-all session runs ok in
    omega (arith, a, one, rest)

pub few-left : FewJobsAreLeft
few-left session history ok lawful =
    let roomy = roomy-after session history ok in
    let most = most-all session (state_after session history).runs ok in
    omega (arith, roomy, most)

-- one run counts
abbrev one_run : ℕ → ℕ → Bool
one_run x rid = rid == x

sum-none : (session : Session) (x from : ℕ) (runs : List Run) → AreNumberedFrom from runs → x < from → sum_by (weight session (one_run x)) runs ≡ 0
sum-none session x from [] all h = refl
sum-none session x from (r ∷ runs) all h =
    let w : Run → ℕ = weight session (one_run x) in
    let here : r.rid ≡ from = all.0 in
    let a : sum_by w (r ∷ runs) ≡ w r + sum_by w runs = sum_by-cons w r runs in
    let none : w r ≡ 0 = ap (λ b. cond b (left_of session r) 0) (eqb-no r.rid x (λ e. omega (arith, e, here, h))) in
    let rest : sum_by w runs ≡ 0 = sum-none session x (from + 1) runs all.1 (omega (arith, h)) in
    omega (arith, a, none, rest)

sum-one-at : (session : Session) (x from : ℕ) (run r : Run) (runs : List Run) → r.rid ≡ from → AreNumberedFrom (from + 1) runs → run_of (r ∷ runs) x ≡ Some run
    → (run_of runs x ≡ Some run → sum_by (weight session (one_run x)) runs ≡ left_of session run)
    → ((r.rid == x) ≡ true) × (r.rid ≡ x) ⊎ ((r.rid == x) ≡ false) × (r.rid ≢ x)
    → sum_by (weight session (one_run x)) (r ∷ runs) ≡ left_of session run
sum-one-at session x from run r runs here all there rest (inl e) =
    let w : Run → ℕ = weight session (one_run x) in
    let same : r ≡ run = cc (found-at r run runs x true e.0 there) in
    let a : sum_by w (r ∷ runs) ≡ w r + sum_by w runs = sum_by-cons w r runs in
    let own : w r ≡ left_of session run = ap (λ b. cond b (left_of session r) 0) e.0 ∙ ap (left_of session) same in
    let none : sum_by w runs ≡ 0 = sum-none session x (from + 1) runs all (omega (arith, e.1, here)) in
    omega (arith, a, own, none)
sum-one-at session x from run r runs here all there rest (inr e) =
    let w : Run → ℕ = weight session (one_run x) in
    let a : sum_by w (r ∷ runs) ≡ w r + sum_by w runs = sum_by-cons w r runs in
    let none : w r ≡ 0 = ap (λ b. cond b (left_of session r) 0) e.0 in
    let own : sum_by w runs ≡ left_of session run = rest (found-at r run runs x false e.0 there) in
    omega (arith, a, own, none)

sum-one : (session : Session) (x from : ℕ) (run : Run) (runs : List Run) → AreNumberedFrom from runs → run_of runs x ≡ Some run
    → sum_by (weight session (one_run x)) runs ≡ left_of session run
sum-one session x from run [] all there = absurd (cc)
sum-one session x from run (r ∷ runs) all there =
    sum-one-at session x from run r runs all.0 all.1 there (sum-one session x (from + 1) run runs all.1) (eqb_tells r.rid x)

-- how much is left of a run while this job of it is in flight
abbrev left_for : ℕ → JobName → ℕ
left_for steps (Prepare rid) = steps + 2
left_for steps (Step rid place) = steps - place + 1
left_for steps (Analyze rid) = 1

by-place : (session : Session) (state : SchedState) (job : JobName) (r : Run) → r.status ≡ status_for job → StepStands session state job r
    → left_of session r ≡ left_for (length (run_steps session r)) job
by-place session state (Prepare rid) r is stands = ap (left_in (length (run_steps session r)) r.pos) is
by-place session state (Step rid place) r is stands =
    ap (left_in (length (run_steps session r)) r.pos) is ∙ ap (λ p. length (run_steps session r) - p + 1) stands.0
by-place session state (Analyze rid) r is stands = ap (left_in (length (run_steps session r)) r.pos) is

flight-left : (session : Session) (state : SchedState) (chair : ℕ) (job : JobName) → IsSound session state → IsFlying state chair job
    → (run : Run) × (run_of state.runs (rid_of job) ≡ Some run) × (left_of session run ≡ left_for (length (run_steps session run)) job)
flight-left session state chair job was flies =
    let f = in-flight session not_ahead state chair job was flies in
    let so = stands-so session state job f.0 f.1 (found-has (Stands session not_ahead state) state.runs (rid_of job) f.0 was.stands f.1.0) in
    (f.0, f.1.0, by-place session state job f.0 so.0 so.1)

steps-alike : (session : Session) (one other : Run) → other.experiment ≡ one.experiment → length (run_steps session other) ≡ length (run_steps session one)
steps-alike session one other e = ap (λ n. length (steps_in (λ (x : Experiment). x.run) (slice_get session.experiments n))) e

abbrev no_room : ℕ → ℕ
no_room runs = 0

only-room : (x : ℕ) → HasRoom (one_run x) no_room (x + 1)
only-room x k low h =
    let most : ℕ = 18 in
    let none : cond (one_run x k) most 0 ≡ 0 = ap (λ b. cond b most 0) (eqb-no k x (λ e. omega (arith, e, low))) in
    omega (arith, none)

-- after a job was reported, less is left of its run, and so the job isn't in flight again
once-from : (session : Session) (job : JobName) (first : Run) (old : List Run) (before rest : List SchedEntry) (used : ℕ) → IsTrue (is_session session)
    → run_of old (rid_of job) ≡ Some first
    → IsLawfulAfter session before rest → IsSound session (state_after session before) → Stays old (state_after session before).runs → 1 ≤ used
    → Uses session (one_run (rid_of job)) no_room (rid_of job + 1) used (left_for (length (run_steps session first)) job) (state_after session before).runs
    → AllByRecursion (λ (later : SchedEntry). reported later.act ≡ Some job → ⊥) rest
once-from session job first old before [] used ok there lawful was stays some uses = tt
once-from session job first old before (entry ∷ rest) used ok there lawful was stays some uses =
    let x : ℕ = rid_of job in
    let n : ℕ = left_for (length (run_steps session first)) job in
    let state : SchedState = state_after session before in
    let Q : SchedState → Type 0 =
    λ s. IsSound session s × Stays old s.runs × Uses session (one_run x) no_room (x + 1) (used + uses_up (one_run x) entry) n s.runs in
    let next : Q (state_after session (before ++ entry ∷ [])) =
    subst Q (sym (state-pushed session before entry)) (
      by-act session entry.chair entry.act state ok was lawful.0.0,
      stays-act (Stays old) (stays-stable old) session entry.chair entry.act state stays,
      uses-act session (one_run x) no_room (x + 1) n ok (only-room x) entry.chair used entry.act state was lawful.0.0 uses,
    ) in
    let here : reported entry.act ≡ Some job → ⊥ = λ e.
    let flight = flight-left session state entry.chair job was (report-flies session entry.chair entry.act state job lawful.0.0 e) in
    let kept = stays.1 x first there in
    let same : kept.0 ≡ flight.0 = cc (kept.1, flight.1) in
    let alike : length (run_steps session flight.0) ≡ length (run_steps session first) =
    ap (λ r. length (run_steps session r)) (sym same) ∙ steps-alike session first kept.0 kept.2 in
    let left : left_of session flight.0 ≡ n = flight.2 ∙ ap (λ steps. left_for steps job) alike in
    let sum : sum_by (weight session (one_run x)) state.runs ≡ left_of session flight.0 = sum-one session x 0 flight.0 state.runs was.numbered flight.1 in
    let roomy = roomy-after session before ok in
    let less = uses.2 (omega (arith, roomy)) in
    omega (arith, left, sum, less, some) in (
      here,
      once-from session job first old (before ++ entry ∷ []) rest (used + uses_up (one_run x) entry) ok there lawful.1 next.0 next.1
          (omega (arith, some)) next.2,
    )

report-uses : (x : ℕ) (job : JobName) (found : Option JobName) → found ≡ Some job → rid_of job ≡ x → by_report (one_run x) found ≡ 1
report-uses x job None e own = absurd (cc)
report-uses x job (Some other) e own =
    let is : other ≡ job = cc in
    ap (λ b. cond b 1 0) (eq-eqb (rid_of other) x (ap rid_of is ∙ own))

pub reported-once : JobsAreReportedOnce
reported-once session early late entry job ok lawful e =
    let x : ℕ = rid_of job in
    let state : SchedState = state_after session early in
    let was : IsSound session state = sound-after session early ok (lawful-front session [] early (entry ∷ late) lawful) in
    let rest = lawful-back session [] early (entry ∷ late) lawful in
    let flight = flight-left session state entry.chair job was (report-flies session entry.chair entry.act state job rest.0.0 e) in
    let n : ℕ = left_for (length (run_steps session flight.0)) job in
    let sum : sum_by (weight session (one_run x)) state.runs ≡ left_of session flight.0 = sum-one session x 0 flight.0 state.runs was.numbered flight.1 in
    let within : x < length state.runs = found-within state.runs x flight.0 was.numbered flight.1 in
    let left : left_of session flight.0 ≡ n = flight.2 in
    let start : Uses session (one_run x) no_room (x + 1) 0 n state.runs = (was.numbered, omega (arith, within), λ k. omega (arith, sum, left)) in
    let Q : SchedState → Type 0 =
    λ s. IsSound session s × Stays state.runs s.runs × Uses session (one_run x) no_room (x + 1) (0 + uses_up (one_run x) entry) n s.runs in
    let next : Q (state_after session (early ++ entry ∷ [])) =
    subst Q (sym (state-pushed session early entry)) (
      by-act session entry.chair entry.act state ok was rest.0.0,
      stays-act (Stays state.runs) (stays-stable state.runs) session entry.chair entry.act state (stays-here state.runs was.numbered),
      uses-act session (one_run x) no_room (x + 1) n ok (only-room x) entry.chair 0 entry.act state was rest.0.0 start,
    ) in
    let one : uses_up (one_run x) entry ≡ 1 = report-uses x job (reported entry.act) e refl in
    once-from session job flight.0 state.runs (early ++ entry ∷ []) late (0 + uses_up (one_run x) entry) ok flight.1 rest.1 next.0 next.1
    (omega (arith, one)) next.2
