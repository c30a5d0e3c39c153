-- Soundness through what arrives.
use Rattle.std.proofs.Common.{◌≡◌, ◌≢◌, ℕ, zero, suc, ◌+◌, ◌<◌, ◌≤◌, ◌^◌, Bool, true, false, List, [], ◌∷◌, ◌++◌, cond, filter, fold, length, map, refl, sym, ◌∙◌, ap, arith, subst, inl, inr}
use Rattle.std.specs.Prelude.{Option, Some, None, not, nat_le, slice_get, ◌&&◌, ◌||◌, ◌==◌, ◌⊎◌, IsTrue}
use Rattle.std.specs.List.{AllByRecursion, list_all}
use Rattle.std.proofs.lemmas.Bool.{leb-true}
use Rattle.std.proofs.lemmas.Bool.Decides.{nat_tests}
use Rattle.std.proofs.lemmas.List.{length-append}
use Rattle.exp_runs.specs.declared.run.Run.{Run}
use Rattle.exp_runs.specs.declared.run.Status.{Status}
use Rattle.exp_runs.specs.declared.run.Status.TheVariants as status
use Rattle.exp_runs.specs.Keys.{is_of, run_of}
use Rattle.exp_runs.specs.Statuses.{is_ended, is_pending, is_preparing, is_prepared, is_running, is_paused, is_analyzing}
use Rattle.exp_model.specs.declared.session.Session.{Session}
use Rattle.exp_model.specs.declared.session.Experiment.{Experiment}
use Rattle.exp_model.specs.declared.arrival.Arrival.{Arrival}
use Rattle.exp_model.specs.declared.arrival.ArrivalAct.{ArrivalAct}
use Rattle.exp_model.specs.declared.arrival.ArrivalAct.TheVariants.{Submit, Delete, Terminate}
use Rattle.exp_model.specs.declared.arrival.Submission.{Submission}
use Rattle.exp_model.specs.declared.step.HostStep.{HostStep}
use Rattle.exp_model.specs.Steps.{Sizes, is_run_step, is_submission}
use Rattle.exp_model.specs.Sessions.{is_session, is_act, is_arrival, is_experiment, is_from_to, sizes_of}
use Rattle.sched_state.specs.declared.entry.Flight.{Flight}
use Rattle.sched_state.specs.declared.entry.JobName.TheVariants.{Step}
use Rattle.sched_state.specs.State.{SchedState, rid_of, is_stepping, found_passes, passes, top_of, with_run, off_stack}
use Rattle.sched_state.specs.Arrivals.{has_come, new_run, submitted, is_busy, deleted, deleted_run, doomed, ordered_to_end, terminated_run, arrived, at_clock, opening}
use Rattle.sched_state.specs.Reports.{run_steps, steps_in}
use Rattle.sched_state.proofs.Openings.{first, second, session-arrivals, session-experiments, asked-fits}
use Rattle.sched_state.proofs.Numbered.{none-past, pushed-numbered}
use Rattle.sched_state.proofs.Stepped.{run-part}
use Rattle.sched_laws.specs.Sound.{ComesLater, IsRunOf, IsSoundBy, Stands, StandsIn, jobs_of, is_on}
use Rattle.sched_laws.proofs.Lookups.{all-push, all-weaker, found-pushed, top-same}
use Rattle.sched_laws.proofs.Flying.{none-past as no-flights, not-stepping, eqb-no}
use Rattle.sched_laws.proofs.Stacks.{kept-pushed, stack-kept, stands-moved}
use Rattle.sched_laws.proofs.Steady.{one-changes, off-stacks, StandsThere}

-- an experiment that is there has a step to run
in-list : (sizes : Sizes) (experiments : List Experiment) (n : ℕ) → list_all (is_experiment sizes) experiments ≡ true → n < length experiments
    → (e : Experiment) × (slice_get experiments n ≡ Some e) × (is_experiment sizes e ≡ true)
in-list sizes [] n h k = absurd (omega (arith, k))
in-list sizes (e ∷ rest) zero h k = (e, refl, first (is_experiment sizes e) (list_all (is_experiment sizes) rest) h)
in-list sizes (e ∷ rest) (suc n) h k = in-list sizes rest n (second (is_experiment sizes e) (list_all (is_experiment sizes) rest) h) (omega (arith, k))

pub experiment-there : (session : Session) (n : ℕ) → IsTrue (is_session session) → n < length session.experiments
    → (e : Experiment) × (slice_get session.experiments n ≡ Some e) × (is_experiment (sizes_of session) e ≡ true)
experiment-there session n ok h = in-list (sizes_of session) session.experiments n (session-experiments session ok) h

pub run-stage : (sizes : Sizes) (e : Experiment) → is_experiment sizes e ≡ true
    → (1 ≤ length e.run) × (length e.run ≤ 16) × (list_all (is_run_step sizes) e.run ≡ true)
run-stage sizes e h =
    let own : (is_from_to 1 16 (length e.run) && list_all (is_run_step sizes) e.run) ≡ true = run-part sizes e h in
    let range : is_from_to 1 16 (length e.run) ≡ true = first (is_from_to 1 16 (length e.run)) (list_all (is_run_step sizes) e.run) own in (
      leb-true 1 (length e.run) (first (nat_le 1 (length e.run)) (nat_le (length e.run) 16) range),
      leb-true (length e.run) 16
          (second (nat_le 1 (length e.run)) (nat_le (length e.run) 16) range),
      second (is_from_to 1 16 (length e.run)) (list_all (is_run_step sizes) e.run) own,
    )

pub steps-there : (session : Session) (run : Run) → IsTrue (is_session session) → run.experiment < length session.experiments
    → (1 ≤ length (run_steps session run)) × (length (run_steps session run) ≤ 16) × (list_all (is_run_step (sizes_of session)) (run_steps session run) ≡ true)
steps-there session run ok h =
    let e = experiment-there session run.experiment ok h in
    let stage = run-stage (sizes_of session) e.0 e.2 in
    let same : run_steps session run ≡ e.0.run = ap (steps_in (λ (x : Experiment). x.run)) e.1 in
    let P : List HostStep → Type 0 = λ steps. (1 ≤ length steps) × (length steps ≤ 16) × (list_all (is_run_step (sizes_of session)) steps ≡ true) in
    subst P (sym same) stage

-- a number past the last is on no stack
not-on : (bound x : ℕ) (stack : List ℕ) → bound ≤ x → AllByRecursion (λ y. y < bound) stack → is_on stack x ≡ false
not-on bound x [] h all = refl
not-on bound x (y ∷ stack) h all = ap (λ b. b || is_on stack x) (eqb-no y x (λ e. omega (arith, e, h, all.0))) ∙ not-on bound x stack h all.1

-- a submission
pub by-submission : (session : Session) (ahead : ℕ → ℕ) (asked : Submission) (state : SchedState) → IsTrue (is_session session)
    → is_submission (sizes_of session) asked ≡ true → IsSoundBy session ahead state → IsSoundBy session ahead (submitted asked state)
by-submission session ahead asked state ok may was =
    let n : ℕ = length state.runs in
    let new : Run = new_run n asked in
    let runs : List Run = state.runs ++ new ∷ [] in
    let asks = asked-fits (sizes_of session) asked may in
    let same : (x q : ℕ) → x < n → passes (is_of q) runs x ≡ passes (is_of q) state.runs x =
    λ x q h. ap (λ found. found_passes (is_of q) found) (found-pushed 0 state.runs new x was.numbered (omega arith) (omega (arith, h))) in
    let top : (q : ℕ) → top_of runs state.stack q ≡ top_of state.runs state.stack q =
    λ q. top-same state.runs runs n q state.stack (λ x h. same x q h) was.stacked in
    let more : length runs ≡ n + 1 = length-append state.runs (new ∷ []) in
    let P : Run → Type 0 = λ r. Stands session ahead state r in
    let Q : Run → Type 0 = λ r. StandsThere session ahead runs state.flying state.stack r r.pos r.status in
    record {
      numbered = pushed-numbered 0 state.runs new was.numbered (omega arith);
      fit = all-push (IsRunOf session) state.runs new was.fit (record { pipeline = asks.1; experiment = asks.0; due = asks.2 });
      stands =
          all-push Q state.runs new
          (all-weaker P Q (λ r h. stands-moved (length (run_steps session r)) (ahead r.rid) r.rid r.pos (jobs_of state.flying r.rid)
          (jobs_of state.flying r.rid) (is_on state.stack r.rid) (is_on state.stack r.rid) (top_of state.runs state.stack r.pipeline)
          (top_of runs state.stack r.pipeline) r.status refl refl (λ running e. top r.pipeline ∙ e) h) state.runs was.stands) (
            no-flights n n state.flying (omega arith) was.known,
            not-on n n state.stack (omega arith) was.stacked,
            omega
                (arith, (steps-there session new ok asks.0).0),
          );
      known = all-weaker (λ (f : Flight). rid_of f.job < n) (λ (f : Flight). rid_of f.job < length runs) (λ f h. omega (arith, more, h)) state.flying was.known;
      stacked = all-weaker (λ x. x < n) (λ x. x < length runs) (λ x h. omega (arith, more, h)) state.stack was.stacked;
      rising = stack-kept n state.runs runs (kept-pushed state.runs new was.numbered) state.stack was.stacked was.rising;
      later = was.later;
    }

-- orders alone: the position stays
pub by-orders : (session : Session) (ahead : ℕ → ℕ) (run : Run) (t d : Bool) (rid : ℕ) (state : SchedState) → run_of state.runs rid ≡ Some run
    → IsSoundBy session ahead state → IsSoundBy session ahead (with_run (λ (r : Run). record r { pos = run.pos; terminate = t; doomed = d }) rid state)
by-orders session ahead run t d rid state there was =
    one-changes session ahead ahead state (λ r. run.pos) (λ r. t) (λ r. d) (λ r. r.status) rid state.flying state.stack was was.known was.stacked was.rising
    (λ r found other stood. stood)
    (λ r found e stood.
    let own : r ≡ run = cc (ap (run_of state.runs) e, found, there) in
    let P : ℕ → Type 0 = λ n. StandsThere session ahead state.runs state.flying state.stack r n r.status in
    subst P (ap (λ (x : Run). x.pos) own) stood)

-- what isn't busy and hasn't ended has no job
no-job : (session : Session) (ahead : ℕ → ℕ) (state : SchedState) (r : Run) (is : Status) → is_ended is ≡ false
    → (is_preparing is || is_analyzing is || (is_running is && is_stepping state.flying r.rid)) ≡ false
    → StandsIn (length (run_steps session r)) (ahead r.rid) r.rid r.pos (jobs_of state.flying r.rid) (is_on state.stack r.rid)
    (top_of state.runs state.stack r.pipeline) is → jobs_of state.flying r.rid ≡ []
no-job session ahead state r status.Pending lives idle h = h.0
no-job session ahead state r status.Preparing lives idle h = absurd (cc)
no-job session ahead state r status.Prepared lives idle h = h.0
no-job session ahead state r status.Running lives idle h = at h.1
  where
    at : ((jobs_of state.flying r.rid ≡ []) × (r.pos < length (run_steps session r)))
        ⊎ ((place : ℕ) × (jobs_of state.flying r.rid ≡ Step r.rid place ∷ []) × (place < length (run_steps session r)) × (r.pos ≡ place + ahead r.rid))
        → jobs_of state.flying r.rid ≡ []
    at (inl e) = e.0
    at (inr e) = absurd (not-stepping state.flying r.rid e.0 idle e.1)
no-job session ahead state r status.Paused lives idle h = h.0
no-job session ahead state r status.RunDone lives idle h = h.0
no-job session ahead state r status.Analyzing lives idle h = absurd (cc)
no-job session ahead state r status.Done lives idle h = absurd (cc)
no-job session ahead state r status.Failed lives idle h = absurd (cc)
no-job session ahead state r status.Terminated lives idle h = absurd (cc)
no-job session ahead state r status.Deleted lives idle h = absurd (cc)

by-delete-of : (session : Session) (ahead : ℕ → ℕ) (rid : ℕ) (state : SchedState) (found : Option Run) → run_of state.runs rid ≡ found
    → IsSoundBy session ahead state → IsSoundBy session ahead (deleted_run rid state found)
by-delete-of session ahead rid state None there was = was
by-delete-of session ahead rid state (Some run) there was = at (is_ended run.status) (is_busy state.flying run) refl refl
  where
    at : (ended busy : Bool) → is_ended run.status ≡ ended → is_busy state.flying run ≡ busy
        → IsSoundBy session ahead (cond ended state (cond busy (with_run (doomed run) rid state) (off_stack status.Deleted rid state)))
    at true busy e k = was
    at false true e k = by-orders session ahead run run.terminate true rid state there was
    at false false e k =
        off-stacks session ahead ahead state status.Deleted rid state.flying (λ steps far x pos jobs on top a b. (a, b)) was was.known (λ x other. (refl, refl))
        (λ r found h stood.
        let own : r ≡ run = cc (ap (run_of state.runs) h, found, there) in
        no-job session ahead state r r.status (ap (λ (x : Run). is_ended x.status) own ∙ e) (ap (is_busy state.flying) own ∙ k) stood)

pub by-delete : (session : Session) (ahead : ℕ → ℕ) (rid : ℕ) (state : SchedState) → IsSoundBy session ahead state → IsSoundBy session ahead (deleted rid state)
by-delete session ahead rid state was = by-delete-of session ahead rid state (run_of state.runs rid) refl was

by-terminate-of : (session : Session) (ahead : ℕ → ℕ) (rid : ℕ) (state : SchedState) (found : Option Run) → run_of state.runs rid ≡ found
    → IsSoundBy session ahead state → IsSoundBy session ahead (terminated_run rid state found)
by-terminate-of session ahead rid state None there was = was
by-terminate-of session ahead rid state (Some run) there was =
    at (is_running run.status || is_paused run.status) (is_pending run.status || is_preparing run.status || is_prepared run.status)
  where
    at : (holds waits : Bool) → IsSoundBy session ahead (cond holds (with_run (ordered_to_end run) rid state) (cond waits (deleted rid state) state))
    at true waits = by-orders session ahead run true run.doomed rid state there was
    at false true = by-delete session ahead rid state was
    at false false = was

pub by-arrival : (session : Session) (ahead : ℕ → ℕ) (state : SchedState) (what : ArrivalAct) → IsTrue (is_session session)
    → is_act (sizes_of session) what ≡ true → IsSoundBy session ahead state → IsSoundBy session ahead (arrived state what)
by-arrival session ahead state (Submit asked) ok may was = by-submission session ahead asked state ok may was
by-arrival session ahead state (Delete rid) ok may was = by-delete session ahead rid state was
by-arrival session ahead state (Terminate rid) ok may was = by-terminate-of session ahead rid state (run_of state.runs rid) refl was

by-arrivals : (session : Session) (ahead : ℕ → ℕ) (arrivals : List Arrival) (state : SchedState) → IsTrue (is_session session)
    → AllByRecursion (λ (a : Arrival). IsTrue (is_arrival (sizes_of session) a)) arrivals → IsSoundBy session ahead state
    → IsSoundBy session ahead (fold (λ before (arrival : Arrival). arrived before arrival.act) state arrivals)
by-arrivals session ahead [] state ok may was = was
by-arrivals session ahead (a ∷ arrivals) state ok may was =
    by-arrivals session ahead arrivals (arrived state a.act) ok may.1
    (by-arrival session ahead state a.act ok (second (nat_le a.at (2 ^ 62)) (is_act (sizes_of session) a.act) may.0) was)

-- of the arrivals those that have come may come, and those that are left come later
come-at : (session : Session) (clock : ℕ) (a : Arrival) (rest : List Arrival) (b : Bool) → IsTrue (is_arrival (sizes_of session) a)
    → AllByRecursion (λ (x : Arrival). IsTrue (is_arrival (sizes_of session) x)) rest
    → AllByRecursion (λ (x : Arrival). IsTrue (is_arrival (sizes_of session) x)) (cond b (a ∷ rest) rest)
come-at session clock a rest true h all = (h, all)
come-at session clock a rest false h all = all

come-may : (session : Session) (clock : ℕ) (arrivals : List Arrival) → AllByRecursion (λ (a : Arrival). IsTrue (is_arrival (sizes_of session) a)) arrivals
    → AllByRecursion (λ (a : Arrival). IsTrue (is_arrival (sizes_of session) a)) (filter (has_come clock) arrivals)
come-may session clock [] all = tt
come-may session clock (a ∷ arrivals) all =
    come-at session clock a (filter (has_come clock) arrivals) (has_come clock a) all.0 (come-may session clock arrivals all.1)

left-at : (session : Session) (clock : ℕ) (a : Arrival) (rest : List Arrival) (b : Bool) → has_come clock a ≡ b → IsTrue (is_arrival (sizes_of session) a)
    → AllByRecursion (ComesLater session clock) rest → AllByRecursion (ComesLater session clock) (cond (not b) (a ∷ rest) rest)
left-at session clock a rest true e h all = all
left-at session clock a rest false e h all = ((grind (arith, nat_tests), h), all)

left-later : (session : Session) (clock : ℕ) (arrivals : List Arrival) → AllByRecursion (λ (a : Arrival). IsTrue (is_arrival (sizes_of session) a)) arrivals
    → AllByRecursion (ComesLater session clock) (filter (λ a. not (has_come clock a)) arrivals)
left-later session clock [] all = tt
left-later session clock (a ∷ arrivals) all =
    left-at session clock a (filter (λ x. not (has_come clock x)) arrivals) (has_come clock a) refl all.0 (left-later session clock arrivals all.1)

-- the clock moves
pub by-clock : (session : Session) (ahead : ℕ → ℕ) (clock : ℕ) (state : SchedState) → IsTrue (is_session session) → IsSoundBy session ahead state
    → IsSoundBy session ahead (at_clock clock state)
by-clock session ahead clock state ok was =
    let may : AllByRecursion (λ (a : Arrival). IsTrue (is_arrival (sizes_of session) a)) state.arrivals =
    all-weaker (ComesLater session state.clock) (λ (a : Arrival). IsTrue (is_arrival (sizes_of session) a)) (λ a h. h.1) state.arrivals was.later in
    by-arrivals session ahead (filter (has_come clock) state.arrivals)
    (record state { clock = clock; arrivals = filter (λ arrival. not (has_come clock arrival)) state.arrivals }) ok (come-may session clock state.arrivals may)
    (record {
      numbered = was.numbered;
      fit = was.fit;
      stands = was.stands;
      known = was.known;
      stacked = was.stacked;
      rising = was.rising;
      later = left-later session clock state.arrivals may;
    })

pub all-from-test : {X : Type 0} (p : X → Bool) (xs : List X) → list_all p xs ≡ true → AllByRecursion (λ x. IsTrue (p x)) xs
all-from-test p [] h = tt
all-from-test p (x ∷ xs) h = (first (p x) (list_all p xs) h, all-from-test p xs (second (p x) (list_all p xs) h))

-- a session begins soundly
pub opening-sound : (session : Session) (ahead : ℕ → ℕ) → IsTrue (is_session session) → IsSoundBy session ahead (opening session)
opening-sound session ahead ok =
    let may : AllByRecursion (λ (a : Arrival). IsTrue (is_arrival (sizes_of session) a)) session.arrivals =
    all-from-test (is_arrival (sizes_of session)) session.arrivals (session-arrivals session ok) in
    by-arrivals session ahead (filter (has_come 0) session.arrivals)
    (record { runs = []; stack = []; flying = []; clock = 0; arrivals = filter (λ arrival. not (has_come 0 arrival)) session.arrivals; datasets = [] }) ok
    (come-may session 0 session.arrivals may)
    (record {
      numbered = tt;
      fit = tt;
      stands = tt;
      known = tt;
      stacked = tt;
      rising = tt;
      later = left-later session 0 session.arrivals may;
    })

-- what arrives leaves the jobs in flight, the clock, the arrivals that are left and the datasets
abbrev pub IsUnmoved : SchedState → SchedState → Type 0
IsUnmoved old new = (new.flying ≡ old.flying) × (new.clock ≡ old.clock) × (new.arrivals ≡ old.arrivals) × (new.datasets ≡ old.datasets)

unmoved-at : (old : SchedState) (b : Bool) (x y : SchedState) → IsUnmoved old x → IsUnmoved old y → IsUnmoved old (cond b x y)
unmoved-at old true x y p q = p
unmoved-at old false x y p q = q

unmoved-delete : (rid : ℕ) (state : SchedState) (found : Option Run) → IsUnmoved state (deleted_run rid state found)
unmoved-delete rid state None = (refl, refl, refl, refl)
unmoved-delete rid state (Some run) =
    unmoved-at state (is_ended run.status) state (cond (is_busy state.flying run) (with_run (doomed run) rid state) (off_stack status.Deleted rid state))
    (refl, refl, refl, refl)
    (unmoved-at state (is_busy state.flying run) (with_run (doomed run) rid state) (off_stack status.Deleted rid state) (refl, refl, refl, refl)
    (refl, refl, refl, refl))

unmoved-terminate : (rid : ℕ) (state : SchedState) (found : Option Run) → IsUnmoved state (terminated_run rid state found)
unmoved-terminate rid state None = (refl, refl, refl, refl)
unmoved-terminate rid state (Some run) =
    let waits : Bool = is_pending run.status || is_preparing run.status || is_prepared run.status in
    unmoved-at state (is_running run.status || is_paused run.status) (with_run (ordered_to_end run) rid state) (cond waits (deleted rid state) state)
    (refl, refl, refl, refl)
    (unmoved-at state waits (deleted rid state) state (unmoved-delete rid state (run_of state.runs rid)) (refl, refl, refl, refl))

unmoved-arrival : (state : SchedState) (what : ArrivalAct) → IsUnmoved state (arrived state what)
unmoved-arrival state (Submit asked) = (refl, refl, refl, refl)
unmoved-arrival state (Delete rid) = unmoved-delete rid state (run_of state.runs rid)
unmoved-arrival state (Terminate rid) = unmoved-terminate rid state (run_of state.runs rid)

unmoved-arrivals : (arrivals : List Arrival) (state : SchedState)
    → IsUnmoved state (fold (λ before (arrival : Arrival). arrived before arrival.act) state arrivals)
unmoved-arrivals [] state = (refl, refl, refl, refl)
unmoved-arrivals (a ∷ arrivals) state =
    let rest = unmoved-arrivals arrivals (arrived state a.act) in
    let here = unmoved-arrival state a.act in
    (rest.0 ∙ here.0, rest.1 ∙ here.1, rest.2 ∙ here.2, rest.3 ∙ here.3)

pub clock-moved : (clock : ℕ) (state : SchedState)
    → IsUnmoved (record state { clock = clock; arrivals = filter (λ arrival. not (has_come clock arrival)) state.arrivals }) (at_clock clock state)
clock-moved clock state =
    unmoved-arrivals (filter (has_come clock) state.arrivals)
    (record state { clock = clock; arrivals = filter (λ arrival. not (has_come clock arrival)) state.arrivals })

pub clock-flying : (clock : ℕ) (state : SchedState) → (at_clock clock state).flying ≡ state.flying
clock-flying clock state = (clock-moved clock state).0
