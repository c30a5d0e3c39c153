-- Priorities rise along each stack, and of each pipeline at most one step is in flight.
use Rattle.std.proofs.Common.{◌≡◌, ◌≢◌, ℕ, ◌<◌, ◌≤◌, Bool, true, false, List, [], ◌∷◌, ◌++◌, cond, filter, length, refl, sym, ◌∙◌, ap, arith, subst, append_assoc, inl, inr}
use Rattle.std.specs.Prelude.{Option, Some, None, ◌==◌, ◌⊎◌}
use Rattle.std.specs.List.{AllByRecursion}
use Rattle.std.proofs.lemmas.Bool.{eqb-true}
use Rattle.std.proofs.lemmas.Bool.Decides.{eqb_tells}
use Rattle.std.proofs.lemmas.List.Elements.{recursion_from_All, filter_passes}
use Rattle.exp_runs.specs.declared.run.Run.{Run}
use Rattle.exp_runs.specs.declared.run.Status.{Status}
use Rattle.exp_runs.specs.declared.run.Status.TheVariants as status
use Rattle.exp_runs.specs.Keys.{is_of}
use Rattle.exp_model.specs.declared.session.Session.{Session}
use Rattle.sched_state.specs.declared.entry.Flight.{Flight}
use Rattle.sched_state.specs.declared.entry.JobName.{JobName}
use Rattle.sched_state.specs.declared.entry.JobName.TheVariants.{Prepare, Step, Analyze}
use Rattle.sched_state.specs.State.{SchedState, is_step_in, passes, rid_of, top_of}
use Rattle.sched_state.specs.Lawful.{state_after}
use Rattle.sched_state.specs.Reports.{run_steps}
use Rattle.sched_laws.specs.Sound.{HasStep, IsSound, IsStack, Stands, StandsIn, is_on, jobs_of, not_ahead}
use Rattle.sched_laws.specs.Ladder.{IsRising, OneStepEach, PrioritiesRise, steps_flying}
use Rattle.sched_laws.proofs.Lookups.{all-weaker, found-below, found-has, found-number}
use Rattle.sched_laws.proofs.Flying.{flight-there, jobs-other, jobs-own, top-on}
use Rattle.sched_laws.proofs.Stacks.{stack-filter}
use Rattle.sched_laws.proofs.Statuses.{when-steps}
use Rattle.sched_laws.proofs.Taking.{found-test, on-known}
use Rattle.sched_laws.proofs.Histories.{sound-after}

own-rises : (state : SchedState) (pipeline : ℕ) (stack : List ℕ) → IsStack state.runs stack
    → AllByRecursion (λ x. passes (is_of pipeline) state.runs x ≡ true) stack → IsRising state stack
own-rises state pipeline [] was all = tt
own-rises state pipeline (x ∷ []) was all = tt
own-rises state pipeline (x ∷ y ∷ rest) was all = (
  (λ upper lower a b.
      let up : upper.pipeline ≡ pipeline = eqb-true upper.pipeline pipeline (sym (found-test (is_of pipeline) state.runs x upper a) ∙ all.0) in
      let down : lower.pipeline ≡ pipeline = eqb-true lower.pipeline pipeline (sym (found-test (is_of pipeline) state.runs y lower b) ∙ all.1.0) in
      was.0.0 upper lower a b (down ∙ sym up)),
  own-rises state pipeline (y ∷ rest) was.1 all.1,
)

pub priorities-rise : PrioritiesRise
priorities-rise session history pipeline ok lawful =
    let state : SchedState = state_after session history in
    let t : ℕ → Bool = passes (is_of pipeline) state.runs in
    let passing : AllByRecursion (λ x. t x ≡ true) (filter t state.stack) =
    recursion_from_All (λ x. t x ≡ true) (filter t state.stack) (filter_passes t state.stack) in
    own-rises state pipeline (filter t state.stack) (stack-filter state.runs t state.stack (sound-after session history ok lawful).rising) passing

-- a step in flight is that of the run on top of its pipeline's stack
abbrev IsTop : SchedState → ℕ → Flight → Type 0
IsTop state pipeline f = is_step_in state.runs pipeline f.job ≡ true → top_of state.runs state.stack pipeline ≡ Some (rid_of f.job)

step-top : (session : Session) (state : SchedState) (pipeline : ℕ) (job : JobName) (front back : List JobName) → IsSound session state
    → rid_of job < length state.runs → jobs_of state.flying (rid_of job) ≡ front ++ job ∷ back → is_step_in state.runs pipeline job ≡ true
    → top_of state.runs state.stack pipeline ≡ Some (rid_of job)
step-top session state pipeline (Prepare rid) front back was within there h = absurd (cc)
step-top session state pipeline (Analyze rid) front back was within there h = absurd (cc)
step-top session state pipeline (Step rid place) front back was within there h =
    let found = found-below 0 state.runs rid was.numbered (omega arith) (omega (arith, within)) in
    let r : Run = found.0 in
    let number : r.rid ≡ rid = found-number state.runs rid r found.1 in
    let stood : Stands session not_ahead state r = found-has (Stands session not_ahead state) state.runs rid r was.stands found.1 in
    let jobs : jobs_of state.flying r.rid ≡ front ++ Step rid place ∷ back = ap (jobs_of state.flying) number ∙ there in
    let is : r.status ≡ status.Running =
    when-steps (length (run_steps session r)) 0 r.rid r.pos (jobs_of state.flying r.rid) front back (is_on state.stack r.rid)
    (top_of state.runs state.stack r.pipeline) rid place r.status jobs stood in
    let Z : Status → Type 0 =
    λ s. StandsIn (length (run_steps session r)) 0 r.rid r.pos (jobs_of state.flying r.rid) (is_on state.stack r.rid)
    (top_of state.runs state.stack r.pipeline) s in
    let run : Z status.Running = subst Z is stood in
    let own : r.pipeline ≡ pipeline = eqb-true r.pipeline pipeline (sym (found-test (is_of pipeline) state.runs rid r found.1) ∙ h) in
    ap (top_of state.runs state.stack) (sym own) ∙ run.0 ∙ ap Some number

all-top : (session : Session) (state : SchedState) (pipeline : ℕ) (before after : List Flight) → IsSound session state → state.flying ≡ before ++ after
    → AllByRecursion (λ (f : Flight). rid_of f.job < length state.runs) after → AllByRecursion (IsTop state pipeline) after
all-top session state pipeline before [] was e known = tt
all-top session state pipeline before (f ∷ after) was e known =
    let there = flight-there before after f (rid_of f.job) refl in (
      (λ h. step-top session state pipeline f.job there.0 there.1 was known.0 (ap (λ fs. jobs_of fs (rid_of f.job)) e ∙ there.2) h),
      all-top session state pipeline (before ++ f ∷ []) after was (e ∙ sym (append_assoc before (f ∷ []) after)) known.1,
    )

-- so they are among the jobs of one run
few-at : (t : Flight → Bool) (rid : ℕ) (f : Flight) (flying : List Flight) (b : Bool) → t f ≡ b → (t f ≡ true → rid_of f.job ≡ rid)
    → length (filter t flying) ≤ length (jobs_of flying rid)
    → ((rid_of f.job == rid) ≡ true) × (rid_of f.job ≡ rid) ⊎ ((rid_of f.job == rid) ≡ false) × (rid_of f.job ≢ rid)
    → length (cond b (f ∷ filter t flying) (filter t flying)) ≤ length (jobs_of (f ∷ flying) rid)
few-at t rid f flying true e own rest (inl h) =
    let one : length (jobs_of (f ∷ flying) rid) ≡ length (f.job ∷ jobs_of flying rid) = ap length (jobs-own f flying rid h.1) in omega (arith, one, rest)
few-at t rid f flying true e own rest (inr h) = absurd (h.1 (own e))
few-at t rid f flying false e own rest (inl h) =
    let one : length (jobs_of (f ∷ flying) rid) ≡ length (f.job ∷ jobs_of flying rid) = ap length (jobs-own f flying rid h.1) in omega (arith, one, rest)
few-at t rid f flying false e own rest (inr h) =
    let same : length (jobs_of (f ∷ flying) rid) ≡ length (jobs_of flying rid) = ap length (jobs-other f flying rid h.1) in omega (arith, same, rest)

few : (t : Flight → Bool) (rid : ℕ) (flying : List Flight) → AllByRecursion (λ (f : Flight). t f ≡ true → rid_of f.job ≡ rid) flying
    → length (filter t flying) ≤ length (jobs_of flying rid)
few t rid [] all = omega arith
few t rid (f ∷ flying) all = few-at t rid f flying (t f) refl all.0 (few t rid flying all.1) (eqb_tells (rid_of f.job) rid)

pub one-job : (steps ahead rid pos : ℕ) (jobs : List JobName) (on : Bool) (top : Option ℕ) (is : Status) → StandsIn steps ahead rid pos jobs on top is
    → length jobs ≤ 1
one-job steps ahead rid pos jobs on top status.Pending h = let n : length jobs ≡ 0 = ap length h.0 in omega (arith, n)
one-job steps ahead rid pos jobs on top status.Preparing h = let n : length jobs ≡ 1 = ap length h.0 in omega (arith, n)
one-job steps ahead rid pos jobs on top status.Prepared h = let n : length jobs ≡ 0 = ap length h.0 in omega (arith, n)
one-job steps ahead rid pos jobs on top status.Running h = at h.1
  where
    at : ((jobs ≡ []) × (pos < steps)) ⊎ HasStep steps ahead rid pos jobs → length jobs ≤ 1
    at (inl k) = let n : length jobs ≡ 0 = ap length k.0 in omega (arith, n)
    at (inr k) = let n : length jobs ≡ 1 = ap length k.1 in omega (arith, n)
one-job steps ahead rid pos jobs on top status.Paused h = let n : length jobs ≡ 0 = ap length h.0 in omega (arith, n)
one-job steps ahead rid pos jobs on top status.RunDone h = let n : length jobs ≡ 0 = ap length h.0 in omega (arith, n)
one-job steps ahead rid pos jobs on top status.Analyzing h = let n : length jobs ≡ 1 = ap length h.0 in omega (arith, n)
one-job steps ahead rid pos jobs on top status.Done h = let n : length jobs ≡ 0 = ap length h.0 in omega (arith, n)
one-job steps ahead rid pos jobs on top status.Failed h = let n : length jobs ≡ 0 = ap length h.0 in omega (arith, n)
one-job steps ahead rid pos jobs on top status.Terminated h = let n : length jobs ≡ 0 = ap length h.0 in omega (arith, n)
one-job steps ahead rid pos jobs on top status.Deleted h = let n : length jobs ≡ 0 = ap length h.0 in omega (arith, n)

none-passes : (t : Flight → Bool) (flying : List Flight) → AllByRecursion (λ (f : Flight). t f ≡ true → ⊥) flying → length (filter t flying) ≤ 0
none-passes t [] all = omega arith
none-passes t (f ∷ flying) all = at (none-passes t flying all.1) (t f) refl
  where
    at : length (filter t flying) ≤ 0 → (b : Bool) → t f ≡ b → length (cond b (f ∷ filter t flying) (filter t flying)) ≤ 0
    at ih true e = absurd (all.0 e)
    at ih false e = ih

one-at : (session : Session) (state : SchedState) (pipeline : ℕ) (top : Option ℕ) → IsSound session state → top_of state.runs state.stack pipeline ≡ top
    → length (steps_flying state pipeline) ≤ 1
one-at session state pipeline None was e =
    let t : Flight → Bool = λ f. is_step_in state.runs pipeline f.job in
    let none : length (filter t state.flying) ≤ 0 =
    none-passes t state.flying (all-weaker (IsTop state pipeline) (λ (f : Flight). t f ≡ true → ⊥) (λ f h k. cc (h k, e)) state.flying
    (all-top session state pipeline [] state.flying was refl was.known)) in
    omega (arith, none)
one-at session state pipeline (Some top) was e =
    let t : Flight → Bool = λ f. is_step_in state.runs pipeline f.job in
    let some : length (filter t state.flying) ≤ length (jobs_of state.flying top) =
    few t top state.flying (all-weaker (IsTop state pipeline) (λ (f : Flight). t f ≡ true → rid_of f.job ≡ top) (λ f h k. cc (h k, e)) state.flying
    (all-top session state pipeline [] state.flying was refl was.known)) in
    let on = top-on (passes (is_of pipeline) state.runs) top state.stack e in
    let found = found-below 0 state.runs top was.numbered (omega arith) (omega (arith, on-known (length state.runs) top state.stack was.stacked on.0)) in
    let number : found.0.rid ≡ top = found-number state.runs top found.0 found.1 in
    let stood : Stands session not_ahead state found.0 = found-has (Stands session not_ahead state) state.runs top found.0 was.stands found.1 in
    let most : length (jobs_of state.flying found.0.rid) ≤ 1 =
    one-job (length (run_steps session found.0)) 0 found.0.rid found.0.pos (jobs_of state.flying found.0.rid) (is_on state.stack found.0.rid)
    (top_of state.runs state.stack found.0.pipeline) found.0.status stood in
    let same : length (jobs_of state.flying found.0.rid) ≡ length (jobs_of state.flying top) = ap (λ x. length (jobs_of state.flying x)) number in
    omega (arith, some, most, same)

pub one-step : OneStepEach
one-step session history pipeline ok lawful =
    let state : SchedState = state_after session history in
    one-at session state pipeline (top_of state.runs state.stack pipeline) (sound-after session history ok lawful) refl
