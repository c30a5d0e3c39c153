-- Which runs come upon the stacks, and which come to be prepared.
use Rattle.std.proofs.Common.{◌≡◌, ◌≢◌, ℕ, ◌+◌, Bool, true, false, List, [], ◌∷◌, cond, filter, length, refl, sym, ◌∙◌, ap, subst, inl, inr}
use Rattle.std.specs.Prelude.{Option, Some, None, IsTrue, ◌==◌, ◌||◌, ◌⊎◌, not, slice_get, nat_le}
use Rattle.std.specs.List.{list_any}
use Rattle.std.proofs.lemmas.Bool.{eqb-true}
use Rattle.std.proofs.lemmas.Bool.Decides.{eqb_tells}
use Rattle.exp_runs.specs.declared.run.Run.{Run}
use Rattle.exp_runs.specs.declared.run.Status.{Status}
use Rattle.exp_runs.specs.declared.run.Status.TheVariants as status
use Rattle.exp_runs.specs.Keys.{run_of}
use Rattle.exp_runs.specs.Statuses.{is_prepared}
use Rattle.exp_runs.specs.Table.{with_fields, with_status}
use Rattle.exp_model.specs.declared.session.Session.{Session}
use Rattle.exp_model.specs.declared.session.Experiment.{Experiment}
use Rattle.exp_model.specs.declared.step.HostStep.{HostStep}
use Rattle.exp_model.specs.Sessions.{is_session}
use Rattle.sched_state.specs.declared.entry.JobName.TheVariants.{Prepare, Step, Analyze}
use Rattle.sched_state.specs.declared.entry.KernelResult.{KernelResult}
use Rattle.sched_state.specs.declared.entry.SchedAct.{SchedAct}
use Rattle.sched_state.specs.declared.entry.SchedAct.TheVariants as act
use Rattle.sched_state.specs.State.{SchedState, found_passes, landed, off_stack, passes, with_run}
use Rattle.sched_state.specs.Arrivals.{at_clock, new_run}
use Rattle.sched_state.specs.Reports.{Effect, after_clock, after_stage, moved_on, run_effect, run_steps, settle, staged_run, status_then, step_effect, step_effect_of, steps_of}
use Rattle.sched_state.specs.Datasets.{stage}
use Rattle.sched_state.specs.Lawful.{IsFlying, MayCome, after_act}
use Rattle.sched_laws.specs.Sound.{IsSound, is_on}
use Rattle.sched_laws.proofs.Moving.{IsSteady, by-clock, by-run-effect, by-settling}
use Rattle.sched_laws.proofs.Stepping.{IsEnd, MayStand, by-run-effect as ends-so, stepped-run}
use Rattle.sched_laws.proofs.Waiting.{changed-test, found-other, push-test}

-- a run on a stack that was narrowed is on the stack, and passes
pub or-split : (a b : Bool) → (a || b) ≡ true → (a ≡ true) ⊎ (b ≡ true)
or-split true b h = inl refl
or-split false b h = inr h

or-right : (a b : Bool) → b ≡ true → (a || b) ≡ true
or-right true b h = refl
or-right false b h = h

or-more : (a b c : Bool) → ((b ≡ true) → (c ≡ true)) → (a || b) ≡ true → (a || c) ≡ true
or-more true b c f h = refl
or-more false b c f h = f h

narrowed-at : (t : ℕ → Bool) (x y : ℕ) (stack : List ℕ) (b : Bool) → t y ≡ b → (is_on (filter t stack) x ≡ true → (is_on stack x ≡ true) × (t x ≡ true))
    → is_on (cond b (y ∷ filter t stack) (filter t stack)) x ≡ true
    → (is_on (y ∷ stack) x ≡ true) × (t x ≡ true)
narrowed-at t x y stack true e rest h =
    (or-more (y == x) (is_on (filter t stack) x) (is_on stack x) (λ k. (rest k).0) h, at (or-split (y == x) (is_on (filter t stack) x) h))
  where
    at : ((y == x) ≡ true) ⊎ (is_on (filter t stack) x ≡ true) → t x ≡ true
    at (inl k) = ap t (sym (eqb-true y x k)) ∙ e
    at (inr k) = (rest k).1
narrowed-at t x y stack false e rest h = let two = rest h in (or-right (y == x) (is_on stack x) two.0, two.1)

pub on-narrowed : (t : ℕ → Bool) (x : ℕ) (stack : List ℕ) → is_on (filter t stack) x ≡ true → (is_on stack x ≡ true) × (t x ≡ true)
on-narrowed t x [] h = absurd (cc)
on-narrowed t x (y ∷ stack) h = narrowed-at t x y stack (t y) refl (on-narrowed t x stack) h

-- the run with a number is prepared
abbrev pub has_prepared : List Run → ℕ → Bool
has_prepared runs x = passes (λ (r : Run). is_prepared r.status) runs x

-- with these facts the run is on a stack, and is prepared
abbrev pub OnlyIf : ℕ → Type 0 → Type 0 → SchedState → Type 0
OnlyIf x G H state = (is_on state.stack x ≡ true → G) × (has_prepared state.runs x ≡ true → H)

changes-only : (x : ℕ) (G H : Type 0) (f : Run → Run) (rid : ℕ) (state : SchedState) → ((r : Run) → (f r).rid ≡ r.rid)
    → ((r : Run) → is_prepared (f r).status ≡ true → is_prepared r.status ≡ true)
    → OnlyIf x G H state → OnlyIf x G H (with_run f rid state)
changes-only x G H f rid state keeps weaker was = (was.0, λ h. was.1 (changed-test (λ (r : Run). is_prepared r.status) f rid x state.runs keeps weaker h))

leaves-stack : (x : ℕ) (G H : Type 0) (is : Status) (rid : ℕ) (state : SchedState) → is_prepared is ≡ false → OnlyIf x G H state
    → OnlyIf x G H (off_stack is rid state)
leaves-stack x G H is rid state never was =
    let less = changes-only x G H (with_status is) rid state (λ r. refl) (λ r h. absurd (cc)) was in
    (λ h. was.0 (on-narrowed (λ other. not (other == rid)) x state.stack h).0, less.1)

pub only-steady : (x : ℕ) (G H : Type 0) → IsSteady (OnlyIf x G H)
only-steady x G H = record {
  orders = λ t d rid run state there was. changes-only x G H (with_fields run.pos t d) rid state (λ r. refl) (λ r h. h) was;
  delete = λ rid run state there was. leaves-stack x G H status.Deleted rid state refl was;
  moves = λ clock arrivals state was. was;
  kept = record {
    push = λ asked state was. (was.0, λ h. was.1 (push-test (λ (r : Run). is_prepared r.status) state.runs (new_run (length state.runs) asked) x refl h));
    store = λ datasets state was. was;
  };
}

-- a run stands elsewhere
settles : (x : ℕ) (G H : Type 0) (is : Status) (rid : ℕ) (state : SchedState) → is_prepared is ≡ false → OnlyIf x G H state → OnlyIf x G H (settle is rid state)
settles x G H is rid state never was =
    by-settling (OnlyIf x G H) is rid state (changes-only x G H (with_status is) rid state (λ r. refl) (λ r h. absurd (cc)) was)
    (leaves-stack x G H is rid state never was)

never-prepared : (session : Session) (run : Run) (is : Status) (pos steps : ℕ) → MayStand session run is → is_prepared (status_then is pos steps) ≡ false
never-prepared session run status.Pending pos steps may = absurd may
never-prepared session run status.Preparing pos steps may = absurd may
never-prepared session run status.Prepared pos steps may = absurd may
never-prepared session run status.Running pos steps may = at (nat_le steps pos)
  where
    at : (b : Bool) → is_prepared (cond b status.RunDone status.Running) ≡ false
    at true = refl
    at false = refl
never-prepared session run status.Paused pos steps may = refl
never-prepared session run status.RunDone pos steps may = absurd may
never-prepared session run status.Analyzing pos steps may = absurd may
never-prepared session run status.Done pos steps may = absurd may
never-prepared session run status.Failed pos steps may = refl
never-prepared session run status.Terminated pos steps may = refl
never-prepared session run status.Deleted pos steps may = refl

step-of : (session : Session) (x rid place : ℕ) (G H : Type 0) (result : Option KernelResult) (now : SchedState) (run : Run) (found : Option Run)
    → found ≡ Some run
    → IsEnd session rid place run (run_effect session run (slice_get (run_steps session run) place) result now) → OnlyIf x G H now
    → OnlyIf x G H (step_effect_of session place result now found).state
step-of session x rid place G H result now run None e ends was = absurd (cc)
step-of session x rid place G H result now run (Some other) e ends was =
    let is : run ≡ other = cc in
    let E : Run → Type 0 = λ r. IsEnd session rid place r (run_effect session r (slice_get (run_steps session r) place) result now) in
    let own : E other = subst E is ends in
    let end : Effect = run_effect session other (slice_get (run_steps session other) place) result now in
    settles x G H (status_then end.status other.pos (length (run_steps session other))) other.rid (landed other.rid end.state)
    (never-prepared session other end.status other.pos (length (run_steps session other)) own.1)
    (by-run-effect (OnlyIf x G H) (only-steady x G H).kept session other (slice_get (run_steps session other) place) result now was)

stepped : (session : Session) (x chair rid place : ℕ) (G H : Type 0) (result : Option KernelResult) (state : SchedState) → IsTrue (is_session session)
    → IsSound session state → IsFlying state chair (Step rid place)
    → OnlyIf x G H state → OnlyIf x G H (step_effect session rid place result state).state
stepped session x chair rid place G H result state ok sound flies was =
    let now : SchedState = after_clock rid state in
    let later : SchedState = at_clock (state.clock + 1) state in
    let left = stepped-run session chair rid place state ok sound flies in
    step-of session x rid place G H result now left.0 (run_of now.runs rid) left.1
    (ends-so session rid place left.0 (slice_get (run_steps session left.0) place) result now ok refl left.2)
    (changes-only x G H moved_on rid later (λ r. refl) (λ r h. h) (by-clock (OnlyIf x G H) (only-steady x G H) (state.clock + 1) state was))

-- what a stage leaves
only-at : (x : ℕ) (G H : Type 0) (b : Bool) (y z : SchedState) → OnlyIf x G H y → OnlyIf x G H z → OnlyIf x G H (cond b y z)
only-at x G H true y z p q = p
only-at x G H false y z p q = q

to-failed : (next : Status) (b : Bool) → is_prepared next ≡ false → is_prepared (cond b next status.Failed) ≡ false
to-failed next true never = never
to-failed next false never = refl

-- a run that isn't the one is as it was
others-only : (x : ℕ) (G H : Type 0) (f : Run → Run) (rid : ℕ) (state : SchedState) → ((r : Run) → (f r).rid ≡ r.rid) → x ≢ rid → OnlyIf x G H state
    → OnlyIf x G H (with_run f rid state)
others-only x G H f rid state keeps other was =
    (was.0, λ h. was.1 (sym (ap (found_passes (λ (r : Run). is_prepared r.status)) (found-other f keeps rid x state.runs other)) ∙ h))

stage-other : (of_stage : Experiment → List HostStep) (next : Status) (session : Session) (x rid : ℕ) (G H : Type 0) (state : SchedState) (found : Option Run)
    → x ≢ rid → OnlyIf x G H state
    → OnlyIf x G H (staged_run of_stage next session rid state found)
stage-other of_stage next session x rid G H state None other was = was
stage-other of_stage next session x rid G H state (Some run) other was =
    let done = stage (steps_of of_stage session run) state.datasets in
    only-at x G H run.doomed (with_run (with_status status.Deleted) rid state) (after_stage next rid done state)
    (others-only x G H (with_status status.Deleted) rid state (λ r. refl) other was)
    (others-only x G H (with_status (cond done.fine next status.Failed)) rid state (λ r. refl) other was)

stage-plain : (of_stage : Experiment → List HostStep) (next : Status) (session : Session) (x rid : ℕ) (G H : Type 0) (state : SchedState) (found : Option Run)
    → is_prepared next ≡ false → OnlyIf x G H state
    → OnlyIf x G H (staged_run of_stage next session rid state found)
stage-plain of_stage next session x rid G H state None never was = was
stage-plain of_stage next session x rid G H state (Some run) never was =
    let done = stage (steps_of of_stage session run) state.datasets in
    let never_more : is_prepared (cond done.fine next status.Failed) ≡ false = to-failed next done.fine never in
    only-at x G H run.doomed (with_run (with_status status.Deleted) rid state) (after_stage next rid done state)
    (changes-only x G H (with_status status.Deleted) rid state (λ r. refl) (λ r h. absurd (cc)) was)
    (changes-only x G H (with_status (cond done.fine next status.Failed)) rid state (λ r. refl) (λ r h. absurd (cc)) was)

stage-stack : (of_stage : Experiment → List HostStep) (next : Status) (session : Session) (rid : ℕ) (state : SchedState) (found : Option Run) (x : ℕ)
    → is_on (staged_run of_stage next session rid state found).stack x ≡ true → is_on state.stack x ≡ true
stage-stack of_stage next session rid state None x h = h
stage-stack of_stage next session rid state (Some run) x h = at run.doomed h
  where
    at : (b : Bool)
        → is_on (cond b (with_run (with_status status.Deleted) rid state)
        (after_stage next rid (stage (steps_of of_stage session run) state.datasets) state)).stack x ≡ true → is_on state.stack x ≡ true
    at true k = k
    at false k = k

-- the entry takes a step of the run; it reports the run's preparation
abbrev pub TakesStep : ℕ → SchedAct → Type 0
TakesStep x (act.Took (Step rid place)) = rid ≡ x
TakesStep x other = ⊥

abbrev pub ReportsPrepared : ℕ → SchedAct → Type 0
ReportsPrepared x (act.Prepared rid) = rid ≡ x
ReportsPrepared x other = ⊥

on-pushed : (x rid : ℕ) (stack : List ℕ) (b : Bool) → is_on (cond b stack (rid ∷ stack)) x ≡ true → (is_on stack x ≡ true) ⊎ (rid ≡ x)
on-pushed x rid stack true h = inl h
on-pushed x rid stack false h = at (or-split (rid == x) (is_on stack x) h)
  where
    at : ((rid == x) ≡ true) ⊎ (is_on stack x ≡ true) → (is_on stack x ≡ true) ⊎ (rid ≡ x)
    at (inl k) = inr (eqb-true rid x k)
    at (inr k) = inl k

-- a run that is on a stack after an entry was on it before, or the entry takes a step of it; one that is prepared was so before, or
-- the entry reports its preparation
abbrev pub Came : ℕ → SchedAct → SchedState → SchedState → Type 0
Came x what old new = OnlyIf x ((is_on old.stack x ≡ true) ⊎ TakesStep x what) ((has_prepared old.runs x ≡ true) ⊎ ReportsPrepared x what) new

at-first : (x : ℕ) (what : SchedAct) (state : SchedState) → Came x what state state
at-first x what state = (λ h. inl h, λ h. inl h)

pub by-act : (session : Session) (chair : ℕ) (what : SchedAct) (state : SchedState) (x : ℕ) → IsTrue (is_session session) → IsSound session state
    → MayCome session state chair what
    → Came x what state (after_act session chair what state)
by-act session chair (act.Took (Prepare rid)) state x ok was may =
    changes-only x _ _ (with_status status.Preparing) rid state (λ r. refl) (λ r h. absurd (cc)) (at-first x (act.Took (Prepare rid)) state)
by-act session chair (act.Took (Step rid place)) state x ok was may =
    let less = changes-only x _ _ (with_status status.Running) rid state (λ r. refl) (λ r h. absurd (cc)) (at-first x (act.Took (Step rid place)) state) in
    (λ h. on-pushed x rid state.stack (list_any (λ other. other == rid) state.stack) h, less.1)
by-act session chair (act.Took (Analyze rid)) state x ok was may =
    changes-only x _ _ (with_status status.Analyzing) rid state (λ r. refl) (λ r h. absurd (cc)) (at-first x (act.Took (Analyze rid)) state)
by-act session chair (act.Prepared rid) state x ok was may = at (eqb_tells x rid)
  where
    at : ((x == rid) ≡ true) × (x ≡ rid) ⊎ ((x == rid) ≡ false) × (x ≢ rid) → Came x (act.Prepared rid) state (after_act session chair (act.Prepared rid) state)
    at (inl e) =
        (λ h. inl (stage-stack (λ (e : Experiment). e.prepare) status.Prepared session rid (landed rid state) (run_of state.runs rid) x h), λ h. inr (sym e.1))
    at (inr e) =
        stage-other (λ (e : Experiment). e.prepare) status.Prepared session x rid _ _ (landed rid state) (run_of state.runs rid) e.1
        (at-first x (act.Prepared rid) state)
by-act session chair (act.Stepped rid place pipeline clock result word) state x ok was may =
    stepped session x chair rid place _ _ result state ok was may.0 (at-first x (act.Stepped rid place pipeline clock result word) state)
by-act session chair (act.Analyzed rid) state x ok was may =
    stage-plain (λ (e : Experiment). e.analyze) status.Done session x rid _ _ (landed rid state) (run_of state.runs rid) refl
    (at-first x (act.Analyzed rid) state)
by-act session chair (act.SourceRefused rid) state x ok was may = at (passes (λ (run : Run). run.doomed) state.runs rid)
  where
    at : (b : Bool)
        → Came x (act.SourceRefused rid) state (with_run (λ (r : Run). record r { status = cond b status.Deleted status.Failed }) rid (landed rid state))
    at true = changes-only x _ _ (with_status status.Deleted) rid state (λ r. refl) (λ r h. absurd (cc)) (at-first x (act.SourceRefused rid) state)
    at false = changes-only x _ _ (with_status status.Failed) rid state (λ r. refl) (λ r h. absurd (cc)) (at-first x (act.SourceRefused rid) state)
by-act session chair (act.Jumped clock) state x ok was may = by-clock (OnlyIf x _ _) (only-steady x _ _) clock state (at-first x (act.Jumped clock) state)
by-act session chair act.Halted state x ok was may = at-first x act.Halted state
