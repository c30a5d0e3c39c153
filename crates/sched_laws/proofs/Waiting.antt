-- Who waits for a step after an entry waited before it, but for the run that the entry is about.
use Rattle.std.proofs.Common.{◌≡◌, ◌≢◌, ℕ, ◌+◌, Bool, true, false, List, [], ◌∷◌, ◌++◌, cond, length, refl, sym, ◌∙◌, ap, arith, subst, inl, inr}
use Rattle.std.specs.Prelude.{Option, Some, None, option_map, slice_get, ◌==◌}
use Rattle.std.proofs.lemmas.Bool.{eq-eqb}
use Rattle.std.specs.List.{list_any}
use Rattle.exp_runs.specs.declared.run.Run.{Run}
use Rattle.exp_runs.specs.declared.run.Status.{Status}
use Rattle.exp_runs.specs.declared.run.Status.TheVariants as status
use Rattle.exp_runs.specs.Keys.{can_run, is_of, run_of}
use Rattle.exp_runs.specs.Statuses.{is_prepared, is_running}
use Rattle.exp_runs.specs.Table.{changed, with_fields, with_status}
use Rattle.exp_model.specs.declared.session.Session.{Session}
use Rattle.exp_model.specs.declared.session.Experiment.{Experiment}
use Rattle.exp_model.specs.declared.arrival.Submission.{Submission}
use Rattle.exp_model.specs.declared.step.HostStep.{HostStep}
use Rattle.sched_state.specs.declared.entry.Flight.{Flight}
use Rattle.sched_state.specs.declared.entry.JobName.{JobName}
use Rattle.sched_state.specs.declared.entry.JobName.TheVariants.{Prepare, Step, Analyze}
use Rattle.sched_state.specs.declared.entry.KernelResult.{KernelResult}
use Rattle.sched_state.specs.State.{SchedState, found_passes, is_step_in, landed, passes, rid_of, top_of, with_run}
use Rattle.sched_state.specs.Arrivals.{at_clock, new_run, opening, submitted}
use Rattle.sched_state.specs.Picks.{pick, taken}
use Rattle.sched_state.specs.Datasets.{stage}
use Rattle.sched_state.specs.Reports.{Effect, after_clock, after_stage, analyzed, fails, moved_on, prepared, refused, run_effect, run_steps, staged_run, status_then, step_effect, step_effect_of, steps_of}
use Rattle.sched_state.proofs.Openings.{second}
use Rattle.sched_state.proofs.Chosen.{best-chosen}
use Rattle.sched_laws.specs.Sound.{IsSound, Stands, StandsIn, is_on, jobs_of, not_ahead}
use Rattle.sched_laws.specs.Waits.{are_none, is_waiting, waits, waits_in}
use Rattle.sched_laws.proofs.Lookups.{at_number, found-below, found-changed, found-has, found-number}
use Rattle.sched_laws.proofs.Flying.{eqb-no, landed-other, leaves, taken-other, taken-own, top-on}
use Rattle.sched_laws.proofs.Moving.{IsSteady, by-clock, by-run-effect, by-settling}
use Rattle.sched_laws.proofs.Picked.{StepsBy, picked, steps-by}
use Rattle.sched_laws.proofs.Statuses.{when-on, when-prepared, when-running}
use Rattle.sched_laws.proofs.Taking.{found-test, idle-step, on-known}

-- who waits in the new state waited in the old
abbrev pub Fewer : SchedState → SchedState → Type 0
Fewer old new = (x : ℕ) → waits new x ≡ true → waits old x ≡ true

-- but for one run
abbrev pub FewerBut : ℕ → SchedState → SchedState → Type 0
FewerBut rid old new = (x : ℕ) → x ≢ rid → waits new x ≡ true → waits old x ≡ true

map-test : (t u : Run → Bool) (g : Run → Run) (found : Option Run) → ((r : Run) → t (g r) ≡ true → u r ≡ true) → found_passes t (option_map g found) ≡ true
    → found_passes u found ≡ true
map-test t u g None f h = h
map-test t u g (Some r) f h = f r h

number-test : (t : Run → Bool) (f : Run → Run) (b : Bool) (r : Run) → (t (f r) ≡ true → t r ≡ true) → t (cond b (f r) r) ≡ true → t r ≡ true
number-test t f true r k h = k h
number-test t f false r k h = h

pub changed-test : (t : Run → Bool) (f : Run → Run) (rid x : ℕ) (runs : List Run) → ((r : Run) → (f r).rid ≡ r.rid) → ((r : Run) → t (f r) ≡ true → t r ≡ true)
    → passes t (changed f rid runs) x ≡ true → passes t runs x ≡ true
changed-test t f rid x runs keeps weaker h =
    map-test t t (at_number f rid) (run_of runs x) (λ r k. number-test t f (r.rid == rid) r (weaker r) k)
    (sym (ap (found_passes t) (found-changed f keeps rid x runs)) ∙ h)

by-run : (f : Run → Run) (rid : ℕ) (state : SchedState) → ((r : Run) → (f r).rid ≡ r.rid)
    → ((r : Run) → is_waiting state.flying (f r) ≡ true → is_waiting state.flying r ≡ true) → Fewer state (with_run f rid state)
by-run f rid state keeps weaker x h = changed-test (is_waiting state.flying) f rid x state.runs keeps weaker h

-- a run that is added doesn't wait
push-at : (t : Run → Bool) (r : Run) (b : Bool) (further old : Option Run) → (found_passes t further ≡ true → found_passes t old ≡ true)
    → found_passes t (cond b (Some r) further) ≡ true → found_passes t (cond b (Some r) old) ≡ true
push-at t r true further old f h = h
push-at t r false further old f h = f h

push-last : (t : Run → Bool) (new : Run) (b : Bool) → t new ≡ false → found_passes t (cond b (Some new) None) ≡ true → ⊥
push-last t new true fails h = cc
push-last t new false fails h = cc

pub push-test : (t : Run → Bool) (runs : List Run) (new : Run) (x : ℕ) → t new ≡ false → found_passes t (run_of (runs ++ new ∷ []) x) ≡ true
    → found_passes t (run_of runs x) ≡ true
push-test t [] new x fails h = absurd (push-last t new (new.rid == x) fails h)
push-test t (r ∷ runs) new x fails h = push-at t r (r.rid == x) (run_of (runs ++ new ∷ []) x) (run_of runs x) (push-test t runs new x fails) h

by-submission : (asked : Submission) (state : SchedState) → Fewer state (submitted asked state)
by-submission asked state x h = push-test (is_waiting state.flying) state.runs (new_run (length state.runs) asked) x refl h

-- nor do orders and the clock make one wait
fewer-steady : (old : SchedState) → IsSteady (Fewer old)
fewer-steady old = record {
  orders = λ t d rid run state there was x h. was x (by-run (with_fields run.pos t d) rid state (λ r. refl) (λ r k. k) x h);
  delete = λ rid run state there was x h. was x (by-run (with_status status.Deleted) rid state (λ r. refl) (λ r k. absurd (cc)) x h);
  moves = λ clock arrivals state was. was;
  kept = record { push = λ asked state was x h. was x (by-submission asked state x h); store = λ datasets state was. was };
}

pub clock-waits : (clock : ℕ) (state : SchedState) → Fewer state (at_clock clock state)
clock-waits clock state = by-clock (Fewer state) (fewer-steady state) clock state (λ x h. h)

-- nobody waits when a session begins
pub opening-waits : (session : Session) (x : ℕ) → waits (opening session) x ≡ true → ⊥
opening-waits session x h =
    let none = clock-waits 0 (record { runs = []; stack = []; flying = []; clock = 0; arrivals = session.arrivals; datasets = [] }) x h in
    cc

-- another run than the one that changed
number-other : (f : Run → Run) (rid x : ℕ) (found : Option Run) → ((r : Run) → found ≡ Some r → r.rid ≢ rid) → option_map (at_number f rid) found ≡ found
number-other f rid x None other = refl
number-other f rid x (Some r) other = ap (λ b. Some (cond b (f r) r)) (eqb-no r.rid rid (other r refl))

pub found-other : (f : Run → Run) → ((r : Run) → (f r).rid ≡ r.rid) → (rid x : ℕ) (runs : List Run) → x ≢ rid → run_of (changed f rid runs) x ≡ run_of runs x
found-other f keeps rid x runs other =
    found-changed f keeps rid x runs ∙ number-other f rid x (run_of runs x) (λ r e h. other (sym (found-number runs x r e) ∙ h))

same-test : (t u : Run → Bool) (found : Option Run) → ((r : Run) → found ≡ Some r → t r ≡ u r) → found_passes t found ≡ found_passes u found
same-test t u None f = refl
same-test t u (Some r) f = f r refl

others-wait : (f : Run → Run) → ((r : Run) → (f r).rid ≡ r.rid) → (rid x : ℕ) (runs : List Run) (old new : List Flight) → x ≢ rid
    → jobs_of new x ≡ jobs_of old x → passes (is_waiting new) (changed f rid runs) x ≡ passes (is_waiting old) runs x
others-wait f keeps rid x runs old new other jobs =
    ap (found_passes (is_waiting new)) (found-other f keeps rid x runs other)
    ∙ same-test (is_waiting new) (is_waiting old) (run_of runs x) (λ r e.
    let number : r.rid ≡ x = found-number runs x r e in
    ap (λ js. waits_in js r.status) (ap (jobs_of new) number ∙ jobs ∙ sym (ap (jobs_of old) number)))

-- a job lands, and its run stands elsewhere
pub landing-waits : (f : Run → Run) → ((r : Run) → (f r).rid ≡ r.rid) → (rid : ℕ) (state : SchedState) → FewerBut rid state (with_run f rid (landed rid state))
landing-waits f keeps rid state x other h =
    sym (others-wait f keeps rid x state.runs state.flying (leaves rid state.flying) other (landed-other rid x state.flying other)) ∙ h

stage-waits : (of_stage : Experiment → List HostStep) (next : Status) (session : Session) (rid : ℕ) (state : SchedState) (found : Option Run)
    → run_of state.runs rid ≡ found → (found ≡ None → ⊥) → FewerBut rid state (staged_run of_stage next session rid (landed rid state) found)
stage-waits of_stage next session rid state None e there = absurd (there refl)
stage-waits of_stage next session rid state (Some run) e there = at run.doomed
  where
    at : (b : Bool)
        → FewerBut rid state (cond b (with_run (λ (r : Run). record r { status = status.Deleted }) rid (landed rid state))
        (after_stage next rid (stage (steps_of of_stage session run) state.datasets) (landed rid state)))
    at true = landing-waits (λ (r : Run). record r { status = status.Deleted }) (λ r. refl) rid state
    at false =
        landing-waits (λ (r : Run). record r { status = cond (stage (steps_of of_stage session run) state.datasets).fine next status.Failed })
        (λ r. refl) rid state

pub prepared-waits : (session : Session) (rid : ℕ) (run : Run) (state : SchedState) → run_of state.runs rid ≡ Some run
    → FewerBut rid state (prepared session rid state)
prepared-waits session rid run state there =
    stage-waits (λ (e : Experiment). e.prepare) status.Prepared session rid state (run_of state.runs rid) refl (λ none. cc)

pub analyzed-waits : (session : Session) (rid : ℕ) (run : Run) (state : SchedState) → run_of state.runs rid ≡ Some run
    → FewerBut rid state (analyzed session rid state)
analyzed-waits session rid run state there = stage-waits (λ (e : Experiment). e.analyze) status.Done session rid state (run_of state.runs rid) refl (λ none. cc)

pub refused-waits : (rid : ℕ) (state : SchedState) → FewerBut rid state (refused rid state)
refused-waits rid state =
    landing-waits (λ (r : Run). record r { status = cond (passes (λ (run : Run). run.doomed) state.runs rid) status.Deleted status.Failed })
    (λ r. refl) rid state

-- what a step comes to lets nobody else wait who didn't
step-waits : (session : Session) (rid place : ℕ) (result : Option KernelResult) (now : SchedState) (found : Option Run)
    → ((r : Run) → found ≡ Some r → r.rid ≡ rid) → FewerBut rid now (step_effect_of session place result now found).state
step-waits session rid place result now None own = λ x other h. h
step-waits session rid place result now (Some run) own = λ x other h.
    let what : Option HostStep = slice_get (run_steps session run) place in
    let end : Effect = run_effect session run what result now in
    let next : Status = status_then end.status run.pos (length (run_steps session run)) in
    let lands : FewerBut run.rid end.state (with_run (with_status next) run.rid (landed run.rid end.state)) =
    landing-waits (with_status next) (λ r. refl) run.rid end.state in
    by-run-effect (Fewer now) (fewer-steady now).kept session run what result now (λ y k. k) x
    (by-settling (FewerBut run.rid end.state) next run.rid (landed run.rid end.state) lands lands x (λ e. other (e ∙ own run refl)) h)

-- a step is reported
pub stepped-waits : (session : Session) (rid place : ℕ) (result : Option KernelResult) (state : SchedState)
    → FewerBut rid state (step_effect session rid place result state).state
stepped-waits session rid place result state x other h =
    let later : SchedState = at_clock (state.clock + 1) state in
    let now : SchedState = after_clock rid state in
    clock-waits (state.clock + 1) state x (by-run moved_on rid later (λ r. refl) (λ r k. k) x
    (step-waits session rid place result now (run_of now.runs rid) (λ r e. found-number now.runs rid r e) x other h))

-- a job that is taken: its run doesn't wait any more
not-none : (js : List JobName) (job : JobName) → are_none (js ++ job ∷ []) ≡ false
not-none [] job = refl
not-none (j ∷ js) job = refl

taken-at : (job : JobName) (is : Status) (state : SchedState) (chair x : ℕ) → rid_of job ≡ x → ((js : List JobName) → waits_in (js ++ job ∷ []) is ≡ false)
    → passes (is_waiting (state.flying ++ record { chair = chair; job = job } ∷ [])) (changed (λ (r : Run). record r { status = is }) (rid_of job) state.runs) x
    ≡ true → ⊥
taken-at job is state chair x e fails h =
    let f : Flight = record { chair = chair; job = job } in
    found-at (run_of state.runs x) refl (sym (ap (found_passes (is_waiting (state.flying ++ f ∷ [])))
    (found-changed (λ (r : Run). record r { status = is }) (λ r. refl) (rid_of job) x state.runs)) ∙ h)
  where
    found-at : (found : Option Run) → run_of state.runs x ≡ found
        → found_passes (is_waiting (state.flying ++ record { chair = chair; job = job } ∷ []))
        (option_map (at_number (λ (r : Run). record r { status = is }) (rid_of job)) found) ≡ true → ⊥
    found-at None k w = cc
    found-at (Some r) k w =
        let number : r.rid ≡ x = found-number state.runs x r k in
        let own : (r.rid == rid_of job) ≡ true = ap (λ n. n == rid_of job) (number ∙ sym e) ∙ eq-eqb (rid_of job) (rid_of job) refl in
        let f : Flight = record { chair = chair; job = job } in
        let jobs : jobs_of (state.flying ++ f ∷ []) r.rid ≡ jobs_of state.flying r.rid ++ job ∷ [] = taken-own state.flying f r.rid (e ∙ sym number) in
        let P : Bool → Type 0 = λ b. is_waiting (state.flying ++ f ∷ []) (cond b (record r { status = is }) r) ≡ true in
        let then_waits : waits_in (jobs_of (state.flying ++ f ∷ []) r.rid) is ≡ true = subst P own w in
        cc (ap (λ js. waits_in js is) jobs, fails (jobs_of state.flying r.rid), then_waits)

pub taken-waits : (chair : ℕ) (job : JobName) (state : SchedState) (x : ℕ) → waits (taken chair job state) x ≡ true → (x ≢ rid_of job) × (waits state x ≡ true)
taken-waits chair (Prepare rid) state x h =
    let other : x ≢ rid = λ e. taken-at (Prepare rid) status.Preparing state chair x (sym e) (λ js. refl) h in (
      other,
      sym (others-wait (λ (r : Run). record r { status = status.Preparing }) (λ r. refl) rid x state.runs state.flying
          (state.flying ++ record { chair = chair; job = Prepare rid } ∷ []) other
          (taken-other state.flying (record { chair = chair; job = Prepare rid }) x (λ e. other (sym e)))) ∙ h,
    )
taken-waits chair (Step rid place) state x h =
    let other : x ≢ rid = λ e. taken-at (Step rid place) status.Running state chair x (sym e) (λ js. not-none js (Step rid place)) h in (
      other,
      sym (others-wait (λ (r : Run). record r { status = status.Running }) (λ r. refl) rid x state.runs state.flying
          (state.flying ++ record { chair = chair; job = Step rid place } ∷ []) other
          (taken-other state.flying (record { chair = chair; job = Step rid place }) x (λ e. other (sym e)))) ∙ h,
    )
taken-waits chair (Analyze rid) state x h =
    let other : x ≢ rid = λ e. taken-at (Analyze rid) status.Analyzing state chair x (sym e) (λ js. refl) h in (
      other,
      sym (others-wait (λ (r : Run). record r { status = status.Analyzing }) (λ r. refl) rid x state.runs state.flying
          (state.flying ++ record { chair = chair; job = Analyze rid } ∷ []) other
          (taken-other state.flying (record { chair = chair; job = Analyze rid }) x (λ e. other (sym e)))) ∙ h,
    )

-- the run whose step is due waits for it, and is found
waiting-by : (session : Session) (state : SchedState) (pipeline rid : ℕ) (r : Run) → IsSound session state → run_of state.runs rid ≡ Some r
    → list_any (λ (flight : Flight). is_step_in state.runs pipeline flight.job) state.flying ≡ false → StepsBy state pipeline rid
    → is_waiting state.flying r ≡ true
waiting-by session state pipeline rid r was there free (inl due) =
    let number : r.rid ≡ rid = found-number state.runs rid r there in
    let is : r.status ≡ status.Running = when-running r.status (sym (found-test (λ (x : Run). is_running x.status) state.runs rid r there) ∙ due.1) in
    let own : passes (is_of pipeline) state.runs r.rid ≡ true =
    ap (passes (is_of pipeline) state.runs) number ∙ (top-on (passes (is_of pipeline) state.runs) rid state.stack due.0).1 in
    let Z : Status → Type 0 =
    λ s. StandsIn (length (run_steps session r)) 0 r.rid r.pos (jobs_of state.flying r.rid) (is_on state.stack r.rid)
    (top_of state.runs state.stack r.pipeline) s in
    let stood : Z status.Running = subst Z is (found-has (Stands session not_ahead state) state.runs rid r was.stands there) in
    let none = idle-step session state pipeline r (top_of state.runs state.stack r.pipeline) own free stood in
    ap (waits_in (jobs_of state.flying r.rid)) is ∙ ap are_none none.0
waiting-by session state pipeline rid r was there free (inr (inl due)) =
    let found = best-chosen (can_run pipeline) state.runs was.numbered rid due.0 in
    let same : found.0 ≡ r = cc (found.1, there) in
    let is : r.status ≡ status.Prepared =
    ap (λ (x : Run). x.status) (sym same) ∙ when-prepared found.0.status (second (is_of pipeline found.0) (is_prepared found.0.status) found.2) in
    ap (waits_in (jobs_of state.flying r.rid)) is
waiting-by session state pipeline rid r was there free (inr (inr due)) =
    let number : r.rid ≡ rid = found-number state.runs rid r there in
    let no_run : is_running r.status ≡ false = sym (found-test (λ (x : Run). is_running x.status) state.runs rid r there) ∙ due.1 in
    let on : is_on state.stack r.rid ≡ true = ap (is_on state.stack) number ∙ (top-on (passes (is_of pipeline) state.runs) rid state.stack due.0).0 in
    let Y : Bool → Type 0 =
    λ b. StandsIn (length (run_steps session r)) 0 r.rid r.pos (jobs_of state.flying r.rid) b (top_of state.runs state.stack r.pipeline) r.status in
    let is : r.status ≡ status.Paused =
    when-on (length (run_steps session r)) 0 r.rid r.pos (jobs_of state.flying r.rid) (top_of state.runs state.stack r.pipeline) r.status no_run
    (subst Y on (found-has (Stands session not_ahead state) state.runs rid r was.stands there)) in
    ap (waits_in (jobs_of state.flying r.rid)) is

pub due-there : (session : Session) (state : SchedState) (pipeline rid : ℕ) → IsSound session state → StepsBy state pipeline rid
    → (r : Run) × (run_of state.runs rid ≡ Some r)
due-there session state pipeline rid was (inl due) =
    let on =
    top-on (passes (is_of pipeline) state.runs) rid state.stack due.0 in found-below 0 state.runs rid was.numbered (omega arith)
    (omega (arith, on-known (length state.runs) rid state.stack was.stacked on.0))
due-there session state pipeline rid was (inr (inl due)) = let found = best-chosen (can_run pipeline) state.runs was.numbered rid due.0 in (found.0, found.1)
due-there session state pipeline rid was (inr (inr due)) =
    let on =
    top-on (passes (is_of pipeline) state.runs) rid state.stack due.0 in found-below 0 state.runs rid was.numbered (omega arith)
    (omega (arith, on-known (length state.runs) rid state.stack was.stacked on.0))

pub due-waits : (session : Session) (state : SchedState) (rid place : ℕ) → IsSound session state → pick session state ≡ Some (Step rid place)
    → waits state rid ≡ true
due-waits session state rid place was e =
    let due = picked session state (Step rid place) e in
    let by = steps-by state due.0.0 rid due.0.1 in
    let found = due-there session state due.0.0 rid was by.1 in
    found-test (is_waiting state.flying) state.runs rid found.0 found.1 ∙ waiting-by session state due.0.0 rid found.0 was found.1 by.0 by.1
