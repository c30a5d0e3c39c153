-- Soundness through the taking of a job.
use Rattle.std.proofs.Common.{◌≡◌, ◌≢◌, ℕ, ◌<◌, ◌≤◌, Bool, true, false, List, [], ◌∷◌, ◌++◌, cond, length, refl, sym, ◌∙◌, ap, arith, subst, inl, inr}
use Rattle.std.specs.Prelude.{ℤ, ◌<ℤ◌, ◌≤ℤ◌, int_lt, Option, Some, None, find, nat_le, ◌==◌, ◌⊎◌, ◌&&◌, ◌||◌}
use Rattle.std.specs.List.{AllByRecursion, list_any}
use Rattle.std.proofs.lemmas.Bool.{eq-eqb, eqb-true, leb-true}
use Rattle.std.proofs.lemmas.Bool.Decides.{eqb_tells, nat_tests}
use Rattle.std.proofs.lemmas.Int.{ints}
use Rattle.exp_runs.specs.declared.run.Run.{Run}
use Rattle.exp_runs.specs.declared.run.Status.{Status}
use Rattle.exp_runs.specs.declared.run.Status.TheVariants as status
use Rattle.exp_runs.specs.Keys.{best, can_prepare, can_run, can_analyze, is_due, is_higher, is_of, run_of}
use Rattle.exp_runs.specs.Statuses.{is_pending, is_preparing, is_prepared, is_running, is_run_done}
use Rattle.exp_runs.specs.Table.{changed}
use Rattle.exp_model.specs.declared.session.Session.{Session}
use Rattle.sched_state.specs.declared.entry.Flight.{Flight}
use Rattle.sched_state.specs.declared.entry.JobName.{JobName}
use Rattle.sched_state.specs.declared.entry.JobName.TheVariants.{Prepare, Step, Analyze}
use Rattle.sched_state.specs.State.{SchedState, found_passes, is_step_in, passes, rid_of, top_of}
use Rattle.sched_state.specs.Picks.{found_pos, pick, pos_of, prepared_above, pushed, taken}
use Rattle.sched_state.specs.Boards.{AreNumbered}
use Rattle.sched_state.specs.Reports.{run_steps}
use Rattle.sched_state.proofs.Openings.{first, second}
use Rattle.sched_state.proofs.Numbered.{none-past}
use Rattle.sched_state.proofs.Chosen.{best-chosen}
use Rattle.sched_laws.specs.Sound.{HasStep, IsBelow, IsSound, IsStack, Stands, StandsIn, is_on, jobs_of, not_ahead}
use Rattle.sched_laws.proofs.Lookups.{all-push, all-weaker, found-below, found-has, found-number}
use Rattle.sched_laws.proofs.Flying.{eqb-no, jobs-other, jobs-own, taken-other, taken-own, top-on}
use Rattle.sched_laws.proofs.Steady.{AreBelow, one-changes, others-stand}
use Rattle.sched_laws.proofs.Best.{IsBest, best-over, best-found}
use Rattle.sched_laws.proofs.Statuses.{when-pending, when-prepared, when-running, when-done, when-on}
use Rattle.sched_laws.proofs.Picked.{Begins, IsFree, StepsBy, Yields, analyzes-by, picked, prepares-by, steps-by}

-- a run that is found has a number below the count
pub found-within : (runs : List Run) (x : ℕ) (run : Run) → AreNumbered runs → run_of runs x ≡ Some run → x < length runs
found-within runs x run numbered e = at (nat_le (length runs) x) refl
  where
    at : (b : Bool) → nat_le (length runs) x ≡ b → x < length runs
    at true h = let past : length runs ≤ x = leb-true (length runs) x h in absurd (cc (none-past 0 runs x numbered (omega (arith, past))))
    at false h = grind (arith, nat_tests)

-- the test of a run that is found
pub found-test : (test : Run → Bool) (runs : List Run) (x : ℕ) (run : Run) → run_of runs x ≡ Some run → passes test runs x ≡ test run
found-test test runs x run e = ap (found_passes test) e

-- while no step of the pipeline is in flight, none of its runs has one
in-or : (a b : Bool) → (a || b) ≡ false → (a ≡ false) × (b ≡ false)
in-or true b h = absurd (cc)
in-or false b h = (refl, h)

no-step : (runs : List Run) (pipeline rid place : ℕ) (flying : List Flight) → passes (is_of pipeline) runs rid ≡ true
    → list_any (λ (flight : Flight). is_step_in runs pipeline flight.job) flying ≡ false → jobs_of flying rid ≡ Step rid place ∷ [] → ⊥
no-step runs pipeline rid place [] own h e = cc
no-step runs pipeline rid place (f ∷ flying) own h e = at (no-step runs pipeline rid place flying own) (eqb_tells (rid_of f.job) rid)
  where
    parts : (is_step_in runs pipeline f.job ≡ false) × (list_any (λ (flight : Flight). is_step_in runs pipeline flight.job) flying ≡ false)
    parts = in-or (is_step_in runs pipeline f.job) (list_any (λ (flight : Flight). is_step_in runs pipeline flight.job) flying) h

    at : (list_any (λ (flight : Flight). is_step_in runs pipeline flight.job) flying ≡ false → jobs_of flying rid ≡ Step rid place ∷ [] → ⊥)
        → ((rid_of f.job == rid) ≡ true) × (rid_of f.job ≡ rid) ⊎ ((rid_of f.job == rid) ≡ false) × (rid_of f.job ≢ rid) → ⊥
    at ih (inl k) =
        let first_job : f.job ≡ Step rid place = cc (jobs-own f flying rid k.1) in
        let is : is_step_in runs pipeline f.job ≡ true = ap (is_step_in runs pipeline) first_job ∙ own in
        cc (is, parts.0)
    at ih (inr k) = ih parts.1 (sym (jobs-other f flying rid k.1) ∙ e)

-- a run waits to go on with the job's list empty
pub idle-step : (session : Session) (state : SchedState) (pipeline : ℕ) (r : Run) (top : Option ℕ) → passes (is_of pipeline) state.runs r.rid ≡ true
    → IsFree state pipeline
    → StandsIn (length (run_steps session r)) 0 r.rid r.pos (jobs_of state.flying r.rid) (is_on state.stack r.rid) top status.Running
    → (jobs_of state.flying r.rid ≡ []) × (r.pos < length (run_steps session r))
idle-step session state pipeline r top own free stood = at stood.1
  where
    at : ((jobs_of state.flying r.rid ≡ []) × (r.pos < length (run_steps session r))) ⊎ HasStep (length (run_steps session r)) 0 r.rid r.pos
        (jobs_of state.flying r.rid) → (jobs_of state.flying r.rid ≡ []) × (r.pos < length (run_steps session r))
    at (inl e) = e
    at (inr e) = absurd (no-step state.runs pipeline r.rid e.0 state.flying own free e.1)

-- a step in flight
now-steps : (steps : ℕ) (r : Run) (rid place : ℕ) (flying : List Flight) (chair : ℕ) (top : Option ℕ) (on : Bool) → r.rid ≡ rid → r.pos ≡ place
    → jobs_of flying r.rid ≡ [] → r.pos < steps → top ≡ Some r.rid
    → StandsIn steps 0 r.rid r.pos (jobs_of (flying ++ record { chair = chair; job = Step rid place } ∷ []) r.rid) on top status.Running
now-steps steps r rid place flying chair top on e p none within is_top =
    let f : Flight = record { chair = chair; job = Step rid place } in
    let job : f.job ≡ Step r.rid place = ap (λ x. Step x place) (sym e) in (
      is_top,
      inr (
        place,
        taken-own flying f r.rid (sym e) ∙ ap (λ js. js ++ f.job ∷ []) none ∙ ap (λ j. j ∷ []) job,
        omega (arith, within, p),
        omega
            (arith, p),
      ),
    )

-- one more job in flight
pub more-known : (bound : ℕ) (flying : List Flight) (chair : ℕ) (job : JobName) → AreBelow bound flying → rid_of job < bound
    → AreBelow bound (flying ++ record { chair = chair; job = job } ∷ [])
more-known bound flying chair job all h = all-push (λ (f : Flight). rid_of f.job < bound) flying (record { chair = chair; job = job }) all h

stack-stays : (rid : ℕ) (stack : List ℕ) → is_on stack rid ≡ true → pushed rid stack ≡ stack
stack-stays rid stack on = ap (λ b. cond b stack (rid ∷ stack)) on

stack-grows : (rid : ℕ) (stack : List ℕ) → is_on stack rid ≡ false → pushed rid stack ≡ rid ∷ stack
stack-grows rid stack on = ap (λ b. cond b stack (rid ∷ stack)) on

abbrev flight_of : ℕ → ℕ → SchedState → Flight
flight_of chair rid state = record { chair = chair; job = Step rid (pos_of state.runs rid) }

abbrev with_step : ℕ → ℕ → SchedState → List ℕ → SchedState
with_step chair rid state stack =
    record state {
      runs = changed (λ (r : Run). record r { status = status.Running }) rid state.runs;
      stack = stack;
      flying = state.flying ++ flight_of chair
          rid state ∷ [];
    }

pos-there : (state : SchedState) (rid : ℕ) (r : Run) → run_of state.runs r.rid ≡ Some r → r.rid ≡ rid → r.pos ≡ pos_of state.runs rid
pos-there state rid r found e = sym (ap found_pos (ap (run_of state.runs) (sym e) ∙ found))

on-at : (bound x y : ℕ) (rest b : Bool) → (y == x) ≡ b → y < bound → (rest ≡ true → x < bound) → (b || rest) ≡ true → x < bound
on-at bound x y rest true e h further k = let same : y ≡ x = eqb-true y x e in omega (arith, same, h)
on-at bound x y rest false e h further k = further k

pub on-known : (bound x : ℕ) (stack : List ℕ) → AllByRecursion (λ y. y < bound) stack → is_on stack x ≡ true → x < bound
on-known bound x [] all h = absurd (cc)
on-known bound x (y ∷ stack) all h = on-at bound x y (is_on stack x) (y == x) refl all.0 (on-known bound x stack all.1) h

-- the run on top of its stack goes on
on-top : (session : Session) (chair rid pipeline : ℕ) (state : SchedState) → IsSound session state → top_of state.runs state.stack pipeline ≡ Some rid
    → ((r : Run) → run_of state.runs r.rid ≡ Some r → r.rid ≡ rid → Stands session not_ahead state r → (jobs_of state.flying r.rid ≡ [])
    × (r.pos < length (run_steps session r)))
    → IsSound session (taken chair (Step rid (pos_of state.runs rid)) state)
on-top session chair rid pipeline state was top here =
    let f : Flight = flight_of chair rid state in
    let on = top-on (passes (is_of pipeline) state.runs) rid state.stack top in
    let P : List ℕ → Type 0 = λ s. IsSound session (with_step chair rid state s) in
    let known : rid < length state.runs = on-known (length state.runs) rid state.stack was.stacked on.0 in
    subst P (sym (stack-stays rid state.stack on.0))
    (one-changes session not_ahead not_ahead state (λ r. r.pos) (λ r. r.terminate) (λ r. r.doomed) (λ r. status.Running) rid
    (state.flying ++ f ∷ []) state.stack was
    (more-known (length state.runs) state.flying chair f.job was.known known) was.stacked was.rising
    (λ r found other stood. others-stand session not_ahead not_ahead state (state.flying ++ f ∷ []) state.stack r refl
    (taken-other state.flying f r.rid (λ e. other (sym e))) refl (λ running e. e) stood)
    (λ r found e stood.
    let idle = here r found e stood in
    let of : passes (is_of pipeline) state.runs rid ≡ (r.pipeline == pipeline) =
    found-test (is_of pipeline) state.runs rid r (ap (run_of state.runs) (sym e) ∙ found) in
    let same : r.pipeline ≡ pipeline = eqb-true r.pipeline pipeline (sym of ∙ on.1) in
    let is_top : top_of state.runs state.stack r.pipeline ≡ Some r.rid = ap (top_of state.runs state.stack) same ∙ top ∙ ap Some (sym e) in
    now-steps (length (run_steps session r)) r rid (pos_of state.runs rid) state.flying chair (top_of state.runs state.stack r.pipeline)
    (is_on state.stack r.rid) e (pos-there state rid r found e) idle.0 idle.1 is_top))

-- where the first of a pipeline on the stacks is this one, none has a greater priority
none-first : (q : ℕ → Bool) (stack : List ℕ) → find q stack ≡ None → AllByRecursion (λ x. q x ≡ false) stack
none-first q [] e = tt
none-first q (x ∷ stack) e = at (none-first q stack) (q x) refl e
  where
    at : (find q stack ≡ None → AllByRecursion (λ x. q x ≡ false) stack) → (b : Bool) → q x ≡ b → cond b (Some x) (find q stack) ≡ None
        → (q x ≡ false) × AllByRecursion (λ x. q x ≡ false) stack
    at ih true t h = absurd (cc)
    at ih false t h = (t, ih h)

abbrev pub IsAtMost : List Run → ℕ → ℤ → ℕ → Type 0
IsAtMost runs pipeline n low = (lower : Run) → run_of runs low ≡ Some lower → lower.pipeline ≡ pipeline → lower.priority ≤ℤ n

pub of-pipeline : (runs : List Run) (pipeline x : ℕ) (r : Run) → run_of runs x ≡ Some r → r.pipeline ≡ pipeline → passes (is_of pipeline) runs x ≡ true
of-pipeline runs pipeline x r e own = found-test (is_of pipeline) runs x r e ∙ eq-eqb r.pipeline pipeline own

below-at : (runs : List Run) (pipeline x top : ℕ) (t : Run) (rest : List ℕ) (b : Bool) → passes (is_of pipeline) runs x ≡ b → run_of runs top ≡ Some t
    → t.pipeline ≡ pipeline → AllByRecursion (IsBelow runs x) rest
    → (find (passes (is_of pipeline) runs) rest ≡ Some top → AllByRecursion (IsAtMost runs pipeline t.priority) rest)
    → cond b (Some x) (find (passes (is_of pipeline) runs) rest) ≡ Some top
    → IsAtMost runs pipeline t.priority x × AllByRecursion (IsAtMost runs pipeline t.priority) rest
below-at runs pipeline x top t rest true e there own all ih h =
    let same : x ≡ top = cc in
    let at_x : run_of runs x ≡ Some t = ap (run_of runs) same ∙ there in (
      λ lower found p. let is : lower ≡ t = cc in omega (arith, ints, ap (λ (r : Run). r.priority) is),
      all-weaker (IsBelow runs x) (IsAtMost runs pipeline t.priority)
          (λ low below lower found p. let lt : lower.priority <ℤ t.priority = below t lower at_x found (p ∙ sym own) in omega (arith, ints, lt)) rest all,
    )
below-at runs pipeline x top t rest false e there own all ih h =
    (λ lower found p. absurd (cc (of-pipeline runs pipeline x lower found p)), ih h)

pub below-top : (runs : List Run) (pipeline top : ℕ) (t : Run) (stack : List ℕ) → run_of runs top ≡ Some t → t.pipeline ≡ pipeline → IsStack runs stack
    → find (passes (is_of pipeline) runs) stack ≡ Some top → AllByRecursion (IsAtMost runs pipeline t.priority) stack
below-top runs pipeline top t [] there own was e = tt
below-top runs pipeline top t (x ∷ stack) there own was e =
    below-at runs pipeline x top t stack (passes (is_of pipeline) runs x) refl there own was.0 (below-top runs pipeline top t stack there own was.1) e

-- a higher prepared run has a greater priority, and so has the best prepared one
higher-is : (t other : Run) (clock : ℕ) → (is_prepared other.status && is_higher clock t other) ≡ true
    → (can_run t.pipeline other ≡ true) × (t.priority <ℤ other.priority)
higher-is t other clock h =
    let prepared : is_prepared other.status ≡ true = first (is_prepared other.status) (is_higher clock t other) h in
    let higher : is_higher clock t other ≡ true = second (is_prepared other.status) (is_higher clock t other) h in
    let two : (is_of t.pipeline other && int_lt t.priority other.priority) ≡ true =
    first (is_of t.pipeline other && int_lt t.priority other.priority) (is_due clock other || is_preparing other.status || is_prepared other.status) higher in
    let own : is_of t.pipeline other ≡ true = first (is_of t.pipeline other) (int_lt t.priority other.priority) two in
    let lt : int_lt t.priority other.priority ≡ true = second (is_of t.pipeline other) (int_lt t.priority other.priority) two in
    (rw (own, prepared) refl, grind (arith, ints))

pub prepared-best : (runs : List Run) (t : Run) (clock : ℕ) → AreNumbered runs
    → list_any (λ (other : Run). is_prepared other.status && is_higher clock t other) runs ≡ true
    → (b : Run) × IsBest (can_run t.pipeline) runs b × (t.priority <ℤ b.priority)
prepared-best runs t clock numbered h =
    let some =
    best-over (can_run t.pipeline) (λ (other : Run). is_prepared other.status && is_higher clock t other) runs numbered (λ x k. (higher-is t x clock k).0) h in
    let lt : t.priority <ℤ some.0.priority = (higher-is t some.0 clock some.1).1 in
    let le : some.0.priority ≤ℤ some.2.0.priority = some.2.2 in
    (some.2.0, some.2.1, omega (arith, ints, lt, le))

-- none on the stacks has a priority as great as that of the run that begins
under : (runs : List Run) (pipeline : ℕ) (run : Run) (stack : List ℕ) (rid : ℕ) → run_of runs rid ≡ Some run → run.pipeline ≡ pipeline
    → ((n : ℤ) × (n <ℤ run.priority) × AllByRecursion (IsAtMost runs pipeline n) stack) → AllByRecursion (IsBelow runs rid) stack
under runs pipeline run stack rid there own bound =
    all-weaker (IsAtMost runs pipeline bound.0) (IsBelow runs rid)
    (λ low most upper lower found_up found_low p.
    let is : run ≡ upper = cc in
    let same : lower.pipeline ≡ pipeline = p ∙ ap (λ (r : Run). r.pipeline) (sym is) ∙ own in
    let le : lower.priority ≤ℤ bound.0 = most lower found_low same in
    let lt : bound.0 <ℤ run.priority = bound.1 in
    let P : Run → Type 0 = λ r. lower.priority <ℤ r.priority in
    subst P is (omega (arith, ints, le, lt))) stack bound.2

-- the priority that bounds the stacks of the pipeline
pub begins-under : (session : Session) (state : SchedState) (pipeline rid : ℕ) (run : Run) (top : Option ℕ) → IsSound session state
    → run_of state.runs rid ≡ Some run → run.pipeline ≡ pipeline → best (can_run pipeline) state.runs ≡ Some rid
    → find (passes (is_of pipeline) state.runs) state.stack ≡ top → Yields state top → AllByRecursion (IsBelow state.runs rid) state.stack
begins-under session state pipeline rid run None was there own is_best e yields =
    all-weaker (λ x. passes (is_of pipeline) state.runs x ≡ false) (IsBelow state.runs rid)
    (λ low no_own upper lower found_up found_low p.
    let is : run ≡ upper = cc in
    absurd (cc (of-pipeline state.runs pipeline low lower found_low (p ∙ ap (λ (r : Run). r.pipeline) (sym is) ∙ own), no_own)))
    state.stack (none-first (passes (is_of pipeline) state.runs) state.stack e)
begins-under session state pipeline rid run (Some top) was there own is_best e yields =
    let on = top-on (passes (is_of pipeline) state.runs) top state.stack e in
    let t = found-below 0 state.runs top was.numbered (omega arith) (omega (arith, on-known (length state.runs) top state.stack was.stacked on.0)) in
    let t_own : t.0.pipeline ≡ pipeline = eqb-true t.0.pipeline pipeline (sym (found-test (is_of pipeline) state.runs top t.0 t.1) ∙ on.1) in
    let higher : list_any (λ (other : Run). is_prepared other.status && is_higher state.clock t.0 other) state.runs ≡ true =
    sym (ap (prepared_above state.runs state.clock) t.1) ∙ yields.1 in
    let b = prepared-best state.runs t.0 state.clock was.numbered higher in
    let P : ℕ → Type 0 = λ p. best (can_run p) state.runs ≡ Some rid in
    let same : run ≡ b.0 = best-found (can_run t.0.pipeline) state.runs rid run b.0 (subst P (sym t_own) is_best) there b.1 in
    let Q : Run → Type 0 = λ r. t.0.priority <ℤ r.priority in
    under state.runs pipeline run state.stack rid there own
    (t.0.priority, subst Q (sym same) b.2, below-top state.runs pipeline top t.0 state.stack t.1 t_own was.rising e)

top-cond : (runs : List Run) (q rid : ℕ) (stack : List ℕ) (b : Bool) → passes (is_of q) runs rid ≡ b
    → top_of runs (rid ∷ stack) q ≡ cond b (Some rid) (top_of runs stack q)
top-cond runs q rid stack b e = ap (λ c. cond c (Some rid) (top_of runs stack q)) e

-- another run that was on top stays there, since the run that begins is of another pipeline, or the top was paused
top-kept : (session : Session) (state : SchedState) (pipeline rid : ℕ) (run r : Run) (top : Option ℕ) → run_of state.runs rid ≡ Some run
    → run.pipeline ≡ pipeline → run_of state.runs r.rid ≡ Some r → r.status ≡ status.Running
    → top_of state.runs state.stack pipeline ≡ top → Yields state top → top_of state.runs state.stack r.pipeline ≡ Some r.rid
    → ((run.pipeline == r.pipeline) ≡ true) × (run.pipeline ≡ r.pipeline) ⊎ ((run.pipeline == r.pipeline) ≡ false) × (run.pipeline ≢ r.pipeline)
    → top_of state.runs (rid ∷ state.stack) r.pipeline ≡ Some r.rid
top-kept session state pipeline rid run r top there own found running t yields is_top (inr e) =
    top-cond state.runs r.pipeline rid state.stack false (found-test (is_of r.pipeline) state.runs rid run there ∙ e.0) ∙ is_top
top-kept session state pipeline rid run r None there own found running t yields is_top (inl e) =
    absurd (cc (ap (top_of state.runs state.stack) (sym own ∙ e.1), t, is_top))
top-kept session state pipeline rid run r (Some top) there own found running t yields is_top (inl e) =
    let same : top ≡ r.rid = cc (ap (top_of state.runs state.stack) (sym own ∙ e.1), t, is_top) in
    let runs_on : passes (λ (x : Run). is_running x.status) state.runs top ≡ true =
    ap (passes (λ (x : Run). is_running x.status) state.runs) same ∙ found-test (λ (x : Run). is_running x.status) state.runs r.rid r found
    ∙ ap is_running running in
    absurd (cc (runs_on, yields.0))

-- the best prepared run begins
begins : (session : Session) (chair rid pipeline : ℕ) (state : SchedState) → IsSound session state → Begins state pipeline rid
    → IsSound session (taken chair (Step rid (pos_of state.runs rid)) state)
begins session chair rid pipeline state was due =
    let f : Flight = flight_of chair rid state in
    let chosen = best-chosen (can_run pipeline) state.runs was.numbered rid due.0 in
    let run : Run = chosen.0 in
    let there : run_of state.runs rid ≡ Some run = chosen.1 in
    let of : is_of pipeline run ≡ true = first (is_of pipeline run) (is_prepared run.status) chosen.2 in
    let own : run.pipeline ≡ pipeline = eqb-true run.pipeline pipeline of in
    let prepared : run.status ≡ status.Prepared = when-prepared run.status (second (is_of pipeline run) (is_prepared run.status) chosen.2) in
    let number : run.rid ≡ rid = found-number state.runs rid run there in
    let Z : Status → Type 0 =
    λ is. StandsIn (length (run_steps session run)) 0 run.rid run.pos (jobs_of state.flying run.rid) (is_on state.stack run.rid)
    (top_of state.runs state.stack run.pipeline) is in
    let stood : Z status.Prepared = subst Z prepared (found-has (Stands session not_ahead state) state.runs rid run was.stands there) in
    let off : is_on state.stack rid ≡ false = ap (is_on state.stack) (sym number) ∙ stood.1 in
    let P : List ℕ → Type 0 = λ s. IsSound session (with_step chair rid state s) in
    let known : rid < length state.runs = found-within state.runs rid run was.numbered there in
    subst P (sym (stack-grows rid state.stack off))
    (one-changes session not_ahead not_ahead state (λ r. r.pos) (λ r. r.terminate) (λ r. r.doomed) (λ r. status.Running) rid (state.flying ++ f ∷ [])
    (rid ∷ state.stack) was
    (more-known (length state.runs) state.flying chair f.job was.known known) (known, was.stacked)
    (begins-under session state pipeline rid run (top_of state.runs state.stack pipeline) was there own due.0 refl due.1, was.rising)
    (λ r found other stood_r.
    others-stand session not_ahead not_ahead state (state.flying ++ f ∷ []) (rid ∷ state.stack) r refl (taken-other state.flying f r.rid (λ e. other (sym e)))
    (ap (λ b. b || is_on state.stack r.rid) (eqb-no rid r.rid (λ e. other (sym e))))
    (λ running e. top-kept session state pipeline rid run r (top_of state.runs state.stack pipeline) there own found running refl due.1 e
    (eqb_tells run.pipeline r.pipeline)) stood_r)
    (λ r found e stood_r.
    let same : r ≡ run = cc (ap (run_of state.runs) e, found, there) in
    let none : jobs_of state.flying r.rid ≡ [] = ap (λ (x : Run). jobs_of state.flying x.rid) same ∙ stood.0 in
    let within : r.pos < length (run_steps session r) = let W : Run → Type 0 = λ x. x.pos < length (run_steps session x) in subst W (sym same) stood.2 in
    let is_top : top_of state.runs (rid ∷ state.stack) r.pipeline ≡ Some r.rid =
    top-cond state.runs r.pipeline rid state.stack true (of-pipeline state.runs r.pipeline rid r (ap (run_of state.runs) (sym e) ∙ found) refl) ∙ ap Some
    (sym e) in
    now-steps (length (run_steps session r)) r rid (pos_of state.runs rid) state.flying chair (top_of state.runs (rid ∷ state.stack) r.pipeline)
    (is_on (rid ∷ state.stack) r.rid) e (pos-there state rid r found e) none within is_top))

-- a step is taken
by-step-at : (session : Session) (chair rid pipeline : ℕ) (state : SchedState) → IsSound session state → IsFree state pipeline → StepsBy state pipeline rid
    → IsSound session (taken chair (Step rid (pos_of state.runs rid)) state)
by-step-at session chair rid pipeline state was free (inl due) =
    on-top session chair rid pipeline state was due.0
    (λ r found e stood.
    let running : r.status ≡ status.Running =
    when-running r.status (sym (found-test (λ (x : Run). is_running x.status) state.runs rid r (ap (run_of state.runs) (sym e) ∙ found)) ∙ due.1) in
    let own : passes (is_of pipeline) state.runs r.rid ≡ true =
    ap (passes (is_of pipeline) state.runs) e ∙ (top-on (passes (is_of pipeline) state.runs) rid state.stack due.0).1 in
    let Z : Status → Type 0 =
    λ is. StandsIn (length (run_steps session r)) 0 r.rid r.pos (jobs_of state.flying r.rid) (is_on state.stack r.rid)
    (top_of state.runs state.stack r.pipeline) is in
    idle-step session state pipeline r (top_of state.runs state.stack r.pipeline) own free (subst Z running stood))
by-step-at session chair rid pipeline state was free (inr (inl due)) = begins session chair rid pipeline state was due
by-step-at session chair rid pipeline state was free (inr (inr due)) =
    on-top session chair rid pipeline state was due.0
    (λ r found e stood.
    let no_run : is_running r.status ≡ false =
    sym (found-test (λ (x : Run). is_running x.status) state.runs rid r (ap (run_of state.runs) (sym e) ∙ found)) ∙ due.1 in
    let on : is_on state.stack r.rid ≡ true = ap (is_on state.stack) e ∙ (top-on (passes (is_of pipeline) state.runs) rid state.stack due.0).0 in
    let Y : Bool → Type 0 =
    λ b. StandsIn (length (run_steps session r)) 0 r.rid r.pos (jobs_of state.flying r.rid) b (top_of state.runs state.stack r.pipeline) r.status in
    let paused : r.status ≡ status.Paused =
    when-on (length (run_steps session r)) 0 r.rid r.pos (jobs_of state.flying r.rid) (top_of state.runs state.stack r.pipeline) r.status no_run
    (subst Y on stood) in
    let Z : Status → Type 0 =
    λ is. StandsIn (length (run_steps session r)) 0 r.rid r.pos (jobs_of state.flying r.rid) (is_on state.stack r.rid)
    (top_of state.runs state.stack r.pipeline) is in
    let stands : Z status.Paused = subst Z paused stood in
    (stands.0, stands.2))

-- a job of another stage is taken by the best run of a kind
by-stage : (session : Session) (chair rid : ℕ) (job : JobName) (old new : Status) (state : SchedState) → rid_of job ≡ rid → IsSound session state
    → ((r : Run) → run_of state.runs r.rid ≡ Some r → r.rid ≡ rid → r.status ≡ old)
    → rid < length state.runs
    → ((steps pos x : ℕ) (jobs : List JobName) (on : Bool) (top : Option ℕ) → x ≡ rid → StandsIn steps 0 x pos jobs on top old → (jobs ≡ [])
    × StandsIn steps 0 x pos (jobs ++ job ∷ []) on top new)
    → IsSound session (record state {
      runs = changed (λ (r : Run). record r { status = new }) rid state.runs;
      flying = state.flying ++ record
          { chair = chair; job = job } ∷ [];
    })
by-stage session chair rid job old new state own was before known change =
    let f : Flight = record { chair = chair; job = job } in
    let within : rid_of job < length state.runs = omega (arith, own, known) in
    one-changes session not_ahead not_ahead state (λ r. r.pos) (λ r. r.terminate) (λ r. r.doomed) (λ r. new) rid (state.flying ++ f ∷ []) state.stack was
    (more-known (length state.runs) state.flying chair job was.known within) was.stacked was.rising
    (λ r found other stood. others-stand session not_ahead not_ahead state (state.flying ++ f ∷ []) state.stack r refl
    (taken-other state.flying f r.rid (λ e. other (sym e ∙ own))) refl (λ running e. e) stood)
    (λ r found e stood.
    let Z : Status → Type 0 =
    λ is. StandsIn (length (run_steps session r)) 0 r.rid r.pos (jobs_of state.flying r.rid) (is_on state.stack r.rid)
    (top_of state.runs state.stack r.pipeline) is in
    let after =
    change (length (run_steps session r)) r.pos r.rid (jobs_of state.flying r.rid) (is_on state.stack r.rid) (top_of state.runs state.stack r.pipeline) e
    (subst Z (before r found e) stood) in
    let Y : List JobName → Type 0 =
    λ js. StandsIn (length (run_steps session r)) 0 r.rid r.pos js (is_on state.stack r.rid) (top_of state.runs state.stack r.pipeline) new in
    subst Y (sym (taken-own state.flying f r.rid (own ∙ sym e))) after.1)

alone : (js : List JobName) (job : JobName) → js ≡ [] → js ++ job ∷ [] ≡ job ∷ []
alone js job e = ap (λ xs. xs ++ job ∷ []) e

-- the job that is due is taken
pub by-taking : (session : Session) (chair : ℕ) (job : JobName) (state : SchedState) → IsSound session state → pick session state ≡ Some job
    → IsSound session (taken chair job state)
by-taking session chair (Step rid place) state was e =
    let due = picked session state (Step rid place) e in
    let by = steps-by state due.0.0 rid due.0.1 in
    let P : ℕ → Type 0 = λ p. IsSound session (taken chair (Step rid p) state) in
    subst P (sym due.1) (by-step-at session chair rid due.0.0 state was by.0 by.1)
by-taking session chair (Prepare rid) state was e =
    let due = picked session state (Prepare rid) e in
    let test : Run → Bool = can_prepare due.0 state.clock in
    let chosen = best-chosen test state.runs was.numbered rid (prepares-by state due.0 rid due.1) in
    let is : is_pending chosen.0.status ≡ true =
    first (is_pending chosen.0.status) (nat_le chosen.0.due state.clock) (second (is_of due.0 chosen.0) (is_due state.clock chosen.0) chosen.2) in
    by-stage session chair rid (Prepare rid) status.Pending status.Preparing state refl was
    (λ r found k. let same : r ≡ chosen.0 = cc (ap (run_of state.runs) k, found, chosen.1) in ap (λ (x : Run). x.status) same ∙ when-pending chosen.0.status is)
    (found-within state.runs rid chosen.0 was.numbered chosen.1)
    (λ steps pos x jobs on top k stood. (stood.0, (alone jobs (Prepare rid) stood.0 ∙ ap (λ y. Prepare y ∷ []) (sym k), stood.1, stood.2)))
by-taking session chair (Analyze rid) state was e =
    let due = picked session state (Analyze rid) e in
    let chosen = best-chosen (can_analyze due.0) state.runs was.numbered rid (analyzes-by state due.0 rid due.1) in
    let is : is_run_done chosen.0.status ≡ true = second (is_of due.0 chosen.0) (is_run_done chosen.0.status) chosen.2 in
    by-stage session chair rid (Analyze rid) status.RunDone status.Analyzing state refl was
    (λ r found k. let same : r ≡ chosen.0 = cc (ap (run_of state.runs) k, found, chosen.1) in ap (λ (x : Run). x.status) same ∙ when-done chosen.0.status is)
    (found-within state.runs rid chosen.0 was.numbered chosen.1)
    (λ steps pos x jobs on top k stood. (stood.0, (alone jobs (Analyze rid) stood.0 ∙ ap (λ y. Analyze y ∷ []) (sym k), stood.1)))
