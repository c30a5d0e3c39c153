-- Soundness through the report of a step.
use Rattle.std.proofs.Common.{◌≡◌, ◌≢◌, ℕ, zero, suc, ◌+◌, ◌<◌, ◌≤◌, Bool, true, false, List, [], ◌∷◌, ◌++◌, cond, length, refl, sym, ◌∙◌, ap, arith, subst, inl, inr}
use Rattle.std.specs.Prelude.{Option, Some, None, option_map, nat_le, nat_lt, slice_get, if◌then◌else◌, ◌==◌, ◌&&◌, IsTrue}
use Rattle.std.specs.List.{list_all}
use Rattle.std.proofs.lemmas.Bool.{eq-eqb, ltb-true}
use Rattle.std.proofs.lemmas.Bool.Decides.{nat_tests}
use Rattle.rtio_types.specs.declared.outcome.Outcome.{Outcome}
use Rattle.rtio_types.specs.declared.outcome.Outcome.TheVariants as outcome
use Rattle.exp_runs.specs.declared.run.Run.{Run}
use Rattle.exp_runs.specs.declared.run.Status.{Status}
use Rattle.exp_runs.specs.declared.run.Status.TheVariants as status
use Rattle.exp_runs.specs.Keys.{is_of, run_of, some_higher}
use Rattle.exp_runs.specs.Table.{changed}
use Rattle.exp_model.specs.declared.session.Session.{Session}
use Rattle.exp_model.specs.declared.step.HostStep.{HostStep}
use Rattle.exp_model.specs.declared.step.HostStep.TheVariants as step
use Rattle.exp_model.specs.Sessions.{is_session, sizes_of}
use Rattle.exp_model.specs.Steps.{is_run_step}
use Rattle.dataset_db.specs.Datasets.{Change}
use Rattle.sched_state.specs.declared.entry.JobName.{JobName}
use Rattle.sched_state.specs.declared.entry.JobName.TheVariants.{Step}
use Rattle.sched_state.specs.declared.entry.KernelResult.{KernelResult}
use Rattle.sched_state.specs.declared.entry.StepWord.TheVariants as word
use Rattle.sched_state.specs.State.{SchedState, landed, off_stack, passes, top_of, with_run}
use Rattle.sched_state.specs.Arrivals.{at_clock, new_run, submitted}
use Rattle.sched_state.specs.Datasets.{changes_by}
use Rattle.sched_state.specs.Reports.{Effect, after_clock, after_kernel, after_storing, effect, fails, goes_on, is_full_of_runs, moved_on, run_effect, run_steps, settle, status_then, step_effect, step_effect_of}
use Rattle.sched_state.specs.Lawful.{IsFlying}
use Rattle.sched_state.proofs.Openings.{first}
use Rattle.sched_state.proofs.Stepped.{listed}
use Rattle.sched_laws.specs.Sound.{HasStep, IsRunOf, IsSound, IsSoundBy, Stands, StandsIn, is_on, jobs_of, not_ahead}
use Rattle.sched_laws.proofs.Lookups.{at_number, found-changed, found-has, found-number, found-pushed}
use Rattle.sched_laws.proofs.Flying.{eqb-no, landed-other, landed-own, leaves, top-on}
use Rattle.sched_laws.proofs.Statuses.{has-step, when-steps}
use Rattle.sched_laws.proofs.Steady.{off-stacks, one-changes, others-stand}
use Rattle.sched_laws.proofs.Arriving.{by-clock, by-submission, clock-flying, steps-there}
use Rattle.sched_laws.proofs.Taking.{found-within}
use Rattle.sched_laws.proofs.Reporting.{in-flight, left-known}

-- the run whose step is reported is one position ahead of its job
abbrev pub one_ahead : ℕ → ℕ → ℕ
one_ahead rid x = if x == rid then 1 else 0

ahead-own : (rid x : ℕ) → x ≡ rid → one_ahead rid x ≡ 1
ahead-own rid x e = ap (λ b. cond b 1 0) (eq-eqb x rid e)

ahead-other : (rid x : ℕ) → x ≢ rid → one_ahead rid x ≡ 0
ahead-other rid x e = ap (λ b. cond b 1 0) (eqb-no x rid e)

-- the flight of the step, as the state has it
abbrev pub HasFlight : SchedState → ℕ → ℕ → Type 0
HasFlight state rid place = (front back : List JobName) × (jobs_of state.flying rid ≡ front ++ Step rid place ∷ back)

-- its run is running, and stands at the position
pub running-at : (session : Session) (ahead : ℕ → ℕ) (state : SchedState) (rid place : ℕ) (r : Run) → HasFlight state rid place → r.rid ≡ rid
    → Stands session ahead state r
    → (r.status ≡ status.Running) × (top_of state.runs state.stack r.pipeline ≡ Some r.rid) × (jobs_of state.flying r.rid ≡ Step r.rid place ∷ [])
    × (place < length (run_steps session r)) × (r.pos ≡ place + ahead r.rid)
running-at session ahead state rid place r flies e stood =
    let jobs : jobs_of state.flying r.rid ≡ flies.0 ++ Step rid place ∷ flies.1 = ap (jobs_of state.flying) e ∙ flies.2 in
    let is : r.status ≡ status.Running =
    when-steps (length (run_steps session r)) (ahead r.rid) r.rid r.pos (jobs_of state.flying r.rid) flies.0 flies.1 (is_on state.stack r.rid)
    (top_of state.runs state.stack r.pipeline) rid place r.status jobs stood in
    let Z : Status → Type 0 =
    λ s. StandsIn (length (run_steps session r)) (ahead r.rid) r.rid r.pos (jobs_of state.flying r.rid) (is_on state.stack r.rid)
    (top_of state.runs state.stack r.pipeline) s in
    let run : Z status.Running = subst Z is stood in
    let has = has-step (length (run_steps session r)) (ahead r.rid) r.rid r.pos rid place (jobs_of state.flying r.rid) flies.0 flies.1 jobs run.1 in
    (is, run.0, has.0, has.1, has.2)

-- the position rises
by-moving : (session : Session) (rid place : ℕ) (state : SchedState) → IsSound session state → HasFlight state rid place
    → IsSoundBy session (one_ahead rid) (with_run moved_on rid state)
by-moving session rid place state was flies =
    one-changes session not_ahead (one_ahead rid) state (λ r. r.pos + 1) (λ r. r.terminate) (λ r. r.doomed)
    (λ r. r.status) rid state.flying state.stack was was.known was.stacked was.rising
    (λ r found other stood. others-stand session not_ahead (one_ahead rid) state state.flying state.stack r (ahead-other rid r.rid other) refl refl
    (λ running e. e) stood)
    (λ r found e stood.
    let at = running-at session not_ahead state rid place r flies e stood in
    let Z : Status → Type 0 =
    λ s. StandsIn (length (run_steps session r)) (one_ahead rid r.rid) r.rid (r.pos + 1) (jobs_of state.flying r.rid) (is_on state.stack r.rid)
    (top_of state.runs state.stack r.pipeline) s in
    let far : one_ahead rid r.rid ≡ 1 = ahead-own rid r.rid e in
    let moved : r.pos + 1 ≡ place + one_ahead rid r.rid = omega (arith, far, at.4) in
    let run : Z status.Running = (at.1, inr (place, at.2, at.3, moved)) in
    subst Z (sym at.0) run)

-- what the step's effect leaves: all stand as the report needs, and the run is as it was
abbrev pub IsLeft : Session → ℕ → ℕ → Run → SchedState → Type 0
IsLeft session rid place run state = IsSoundBy session (one_ahead rid) state × (run_of state.runs rid ≡ Some run) × HasFlight state rid place

-- and the status that it says is one that a step may lead to
abbrev pub MayStand : Session → Run → Status → Type 0
MayStand session run status.Running = Unit {0}
MayStand session run status.Paused = run.pos < length (run_steps session run)
MayStand session run status.Failed = Unit {0}
MayStand session run status.Terminated = Unit {0}
MayStand session run status.Deleted = Unit {0}
MayStand session run other = ⊥

abbrev pub IsEnd : Session → ℕ → ℕ → Run → Effect → Type 0
IsEnd session rid place run end = IsLeft session rid place run end.state × MayStand session run end.status

end-at : (session : Session) (rid place : ℕ) (run : Run) (b : Bool) (x y : Effect) → (b ≡ true → IsEnd session rid place run x)
    → (b ≡ false → IsEnd session rid place run y) → IsEnd session rid place run (cond b x y)
end-at session rid place run true x y p q = p refl
end-at session rid place run false x y p q = q refl

by-kernel : (session : Session) (rid place : ℕ) (run : Run) (how : Outcome) (state : SchedState) → IsLeft session rid place run state
    → IsEnd session rid place run (after_kernel how state)
by-kernel session rid place run outcome.Returned state was = (was, tt)
by-kernel session rid place run (outcome.Raised exception) state was = (was, tt)
by-kernel session rid place run outcome.Budget state was = (was, tt)
by-kernel session rid place run outcome.Horizon state was = (was, tt)

by-storing : (session : Session) (rid place : ℕ) (run : Run) (state : SchedState) (found : Option (List Change)) → IsLeft session rid place run state
    → IsEnd session rid place run (after_storing state found)
by-storing session rid place run state None was = (was, tt)
by-storing session rid place run state (Some changes) was = (was, tt)

pauses : (session : Session) (run : Run) (b : Bool) → (nat_lt run.pos (length (run_steps session run)) && b) ≡ true → run.pos < length (run_steps session run)
pauses session run b h = ltb-true run.pos (length (run_steps session run)) (first (nat_lt run.pos (length (run_steps session run))) b h)

by-effect : (session : Session) (rid place : ℕ) (run : Run) (what : HostStep) (result : Option KernelResult) (state : SchedState) → IsTrue (is_session session)
    → is_run_step (sizes_of session) what ≡ true → IsLeft session rid place run state
    → IsEnd session rid place run (effect session run what result state)
by-effect session rid place run (step.Kernel name args) (Some result) state ok may was = by-kernel session rid place run result.outcome _ was
by-effect session rid place run (step.Kernel name args) None state ok may was = (was, tt)
by-effect session rid place run step.Pause result state ok may was =
    let lends : Bool = nat_lt run.pos (length (run_steps session run)) && some_higher state.runs run.rid state.clock in
    let ends : Effect = record { word = word.Terminated; status = status.Terminated; state = state } in
    let lent : Effect = record { word = word.Paused; status = status.Paused; state = state } in
    end-at session rid place run run.terminate ends (cond lends lent (goes_on state)) (λ e. (was, tt))
    (λ e. end-at session rid place run lends lent (goes_on state) (λ h. (was, pauses session run (some_higher state.runs run.rid state.clock) h))
    (λ h. (was, tt)))
by-effect session rid place run step.CheckTermination result state ok may was =
    end-at session rid place run run.terminate (record { word = word.Terminated; status = status.Terminated; state = state }) (goes_on state) (λ e. (was, tt))
    (λ e. (was, tt))
by-effect session rid place run (step.Submit asked) result state ok may was =
    end-at session rid place run (is_full_of_runs state) (fails word.Failed state) (goes_on (submitted asked state)) (λ e. (was, tt))
    (λ e. (
      (
        by-submission session (one_ahead rid) asked state ok may was.0,
        found-pushed 0 state.runs (new_run (length state.runs) asked) rid was.0.numbered (omega arith)
            (omega (arith, found-within state.runs rid run was.0.numbered was.1)) ∙ was.1,
        was.2,
      ),
      tt,
    ))
by-effect session rid place run (step.Set name value broadcast persist archive) result state ok may was =
    by-storing session rid place run state (changes_by (step.Set name value broadcast persist archive) state.datasets) was
by-effect session rid place run (step.Append name item) result state ok may was =
    by-storing session rid place run state (changes_by (step.Append name item) state.datasets) was
by-effect session rid place run (step.Sum name target) result state ok may was =
    by-storing session rid place run state (changes_by (step.Sum name target) state.datasets) was

pub by-run-effect : (session : Session) (rid place : ℕ) (run : Run) (what : Option HostStep) (result : Option KernelResult) (state : SchedState)
    → IsTrue (is_session session) → slice_get (run_steps session run) place ≡ what → IsLeft session rid place run state
    → IsEnd session rid place run (run_effect session run what result state)
by-run-effect session rid place run None result state ok e was = (was, tt)
by-run-effect session rid place run (Some what) result state ok e was =
    let fits : IsRunOf session run = found-has (IsRunOf session) state.runs rid run was.0.fit was.1 in
    let may : is_run_step (sizes_of session) what ≡ true =
    listed (is_run_step (sizes_of session)) (run_steps session run) place what (steps-there session run ok fits.experiment).2 e in
    end-at session rid place run run.doomed (record { word = word.Deleted; status = status.Deleted; state = state }) (effect session run what result state)
    (λ h. (was, tt)) (λ h. by-effect session rid place run what result state ok may was)

-- the run comes to stand elsewhere
by-standing : (session : Session) (rid place : ℕ) (run : Run) (new : Status) (state : SchedState) → IsLeft session rid place run state
    → ((steps x : ℕ) (on : Bool) (top : Option ℕ) → top ≡ Some x → (on ≡ true) → run.pos < steps → StandsIn steps 0 x run.pos [] on top new)
    → run.pos < length (run_steps session run)
    → IsSound session (record state { runs = changed (λ (r : Run). record r { status = new }) rid state.runs; flying = leaves rid state.flying })
by-standing session rid place run new state was stands within =
    one-changes session (one_ahead rid) not_ahead state (λ r. r.pos) (λ r. r.terminate) (λ r. r.doomed) (λ r. new) rid
    (leaves rid state.flying) state.stack was.0
    (left-known (length state.runs) rid state.flying was.0.known) was.0.stacked was.0.rising
    (λ r found other stood. others-stand session (one_ahead rid) not_ahead state (leaves rid state.flying) state.stack r (sym (ahead-other rid r.rid other))
    (landed-other rid r.rid state.flying other) refl (λ running e. e) stood)
    (λ r found e stood.
    let at = running-at session (one_ahead rid) state rid place r was.2 e stood in
    let own : run ≡ r = cc (ap (run_of state.runs) e, found, was.1) in
    let on = top-on (passes (is_of r.pipeline) state.runs) r.rid state.stack at.1 in
    let none : jobs_of (leaves rid state.flying) r.rid ≡ [] = ap (jobs_of (leaves rid state.flying)) e ∙ landed-own rid state.flying in
    let Y : List JobName → Type 0 =
    λ js. StandsIn (length (run_steps session r)) 0 r.rid r.pos js (is_on state.stack r.rid) (top_of state.runs state.stack r.pipeline) new in
    let X : ℕ → Type 0 = λ p. StandsIn (length (run_steps session r)) 0 r.rid p [] (is_on state.stack r.rid) (top_of state.runs state.stack r.pipeline) new in
    let W : Run → Type 0 = λ x. run.pos < length (run_steps session x) in
    subst Y (sym none) (subst X (ap (λ (x : Run). x.pos) own)
    (stands (length (run_steps session r)) r.rid (is_on state.stack r.rid) (top_of state.runs state.stack r.pipeline) at.1 on.0 (subst W own within))))

-- or leaves its stack
by-leaving : (session : Session) (rid place : ℕ) (run : Run) (new : Status) (state : SchedState) → IsLeft session rid place run state
    → ((steps ahead x pos : ℕ) (jobs : List JobName) (on : Bool) (top : Option ℕ) → jobs ≡ [] → on ≡ false → StandsIn steps ahead x pos jobs on top new)
    → IsSound session (off_stack new rid (landed rid state))
by-leaving session rid place run new state was plain =
    off-stacks session (one_ahead rid) not_ahead state new rid (leaves rid state.flying) plain was.0
    (left-known (length state.runs) rid state.flying was.0.known)
    (λ x other. (sym (ahead-other rid x other), landed-other rid x state.flying other))
    (λ r found e stood. ap (jobs_of (leaves rid state.flying)) e ∙ landed-own rid state.flying)

by-settling : (session : Session) (rid place : ℕ) (run : Run) (end : Effect) (is : Status) → end.status ≡ is → IsEnd session rid place run end
    → IsSound session (settle (status_then is run.pos (length (run_steps session run))) rid (landed rid end.state))
by-settling session rid place run end status.Pending e was = let Z : Status → Type 0 = λ s. MayStand session run s in absurd (subst Z e was.1)
by-settling session rid place run end status.Preparing e was = let Z : Status → Type 0 = λ s. MayStand session run s in absurd (subst Z e was.1)
by-settling session rid place run end status.Prepared e was = let Z : Status → Type 0 = λ s. MayStand session run s in absurd (subst Z e was.1)
by-settling session rid place run end status.Running e was = at (nat_le (length (run_steps session run)) run.pos) refl
  where
    at : (b : Bool) → nat_le (length (run_steps session run)) run.pos ≡ b
        → IsSound session (settle (cond b status.RunDone status.Running) rid (landed rid end.state))
    at true h = by-leaving session rid place run status.RunDone end.state was.0 (λ steps ahead x pos jobs on top a b. (a, b))
    at false h =
        let within : run.pos < length (run_steps session run) = grind (arith, nat_tests) in
        by-standing session rid place run status.Running end.state was.0 (λ steps x on top t o k. (t, inl (refl, k))) within
by-settling session rid place run end status.Paused e was =
    let Z : Status → Type 0 = λ s. MayStand session run s in
    let within : run.pos < length (run_steps session run) = subst Z e was.1 in
    by-standing session rid place run status.Paused end.state was.0 (λ steps x on top t o k. (refl, o, k)) within
by-settling session rid place run end status.RunDone e was = let Z : Status → Type 0 = λ s. MayStand session run s in absurd (subst Z e was.1)
by-settling session rid place run end status.Analyzing e was = let Z : Status → Type 0 = λ s. MayStand session run s in absurd (subst Z e was.1)
by-settling session rid place run end status.Done e was = let Z : Status → Type 0 = λ s. MayStand session run s in absurd (subst Z e was.1)
by-settling session rid place run end status.Failed e was =
    by-leaving session rid place run status.Failed end.state was.0 (λ steps ahead x pos jobs on top a b. (a, b))
by-settling session rid place run end status.Terminated e was =
    by-leaving session rid place run status.Terminated end.state was.0 (λ steps ahead x pos jobs on top a b. (a, b))
by-settling session rid place run end status.Deleted e was =
    by-leaving session rid place run status.Deleted end.state was.0 (λ steps ahead x pos jobs on top a b. (a, b))

by-step-of : (session : Session) (rid place : ℕ) (result : Option KernelResult) (now : SchedState) (run : Run) (found : Option Run)
    → IsTrue (is_session session) → found ≡ Some run → IsLeft session rid place run now → IsSound session (step_effect_of session place result now found).state
by-step-of session rid place result now run None ok e was = absurd (cc)
by-step-of session rid place result now run (Some other) ok e was =
    let is : run ≡ other = cc in
    let L : Run → Type 0 = λ r. IsLeft session rid place r now in
    let own : IsLeft session rid place other now = subst L is was in
    let end : Effect = run_effect session other (slice_get (run_steps session other) place) result now in
    let number : rid ≡ other.rid = sym (found-number now.runs rid other own.1) in
    let P : ℕ → Type 0 = λ x. IsSound session (settle (status_then end.status other.pos (length (run_steps session other))) x (landed x end.state)) in
    subst P number (by-settling session rid place other end end.status refl
    (by-run-effect session rid place other (slice_get (run_steps session other) place) result now ok refl own))

-- the run of the flight, once the clock has risen
pub stepped-run : (session : Session) (chair rid place : ℕ) (state : SchedState) → IsTrue (is_session session) → IsSound session state
    → IsFlying state chair (Step rid place)
    → (run : Run) × (run_of (after_clock rid state).runs rid ≡ Some run) × IsLeft session rid place run (after_clock rid state)
stepped-run session chair rid place state ok was flies =
    let later : SchedState = at_clock (state.clock + 1) state in
    let sound : IsSound session later = by-clock session not_ahead (state.clock + 1) state ok was in
    let same : later.flying ≡ state.flying = clock-flying (state.clock + 1) state in
    let still : IsFlying later chair (Step rid place) = (flies.0, flies.1, same ∙ flies.2) in
    let f = in-flight session not_ahead later chair (Step rid place) sound still in
    let number : f.0.rid ≡ rid = found-number later.runs rid f.0 f.1.0 in
    let has : HasFlight later rid place = (f.1.1.0, f.1.1.1, ap (jobs_of later.flying) (sym number) ∙ f.1.1.2) in
    let moved : IsSoundBy session (one_ahead rid) (with_run moved_on rid later) = by-moving session rid place later sound has in
    let run : Run = at_number moved_on rid f.0 in
    let found : run_of (with_run moved_on rid later).runs rid ≡ Some run =
    found-changed moved_on (λ r. refl) rid rid later.runs ∙ ap (option_map (at_number moved_on rid)) f.1.0 in
    (run, found, (moved, found, has))

pub by-stepped : (session : Session) (chair rid place : ℕ) (result : Option KernelResult) (state : SchedState) → IsTrue (is_session session)
    → IsSound session state → IsFlying state chair (Step rid place) → IsSound session (step_effect session rid place result state).state
by-stepped session chair rid place result state ok was flies =
    let left = stepped-run session chair rid place state ok was flies in
    by-step-of session rid place result (after_clock rid state) left.0 (run_of (after_clock rid state).runs rid) ok left.1 left.2

-- the run whose step is in flight is running, and stands at the step's position
pub flying-step : (session : Session) (chair rid place : ℕ) (state : SchedState) → IsTrue (is_session session) → IsSound session state
    → IsFlying state chair (Step rid place)
    → (run : Run) × (run_of state.runs rid ≡ Some run) × (run.status ≡ status.Running) × (run.pos ≡ place)
    × (place < length (run_steps session run)) × (length (run_steps session run) ≤ 16)
flying-step session chair rid place state ok was flies =
    let f = in-flight session not_ahead state chair (Step rid place) was flies in
    let number : f.0.rid ≡ rid = found-number state.runs rid f.0 f.1.0 in
    let has : HasFlight state rid place = (f.1.1.0, f.1.1.1, ap (jobs_of state.flying) (sym number) ∙ f.1.1.2) in
    let at = running-at session not_ahead state rid place f.0 has number (found-has (Stands session not_ahead state) state.runs rid f.0 was.stands f.1.0) in
    let fits : IsRunOf session f.0 = found-has (IsRunOf session) state.runs rid f.0 was.fit f.1.0 in
    (f.0, f.1.0, at.0, omega (arith, at.4), at.3, (steps-there session f.0 ok fits.experiment).1)

-- and so once the clock moved
pub later-step : (session : Session) (chair rid place clock : ℕ) (state : SchedState) → IsTrue (is_session session) → IsSound session state
    → IsFlying state chair (Step rid place)
    → (run : Run) × (run_of (at_clock clock state).runs rid ≡ Some run) × (run.pos ≡ place) × (place < 16)
later-step session chair rid place clock state ok was flies =
    let later : SchedState = at_clock clock state in
    let at = flying-step session chair rid place later ok (by-clock session not_ahead clock state ok was)
    (flies.0, flies.1, clock-flying clock state ∙ flies.2) in
    (at.0, at.1, at.3, omega (arith, at.4, at.5))
