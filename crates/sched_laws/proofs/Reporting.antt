-- Soundness through the reports of jobs.
use Rattle.std.proofs.Common.{◌≡◌, ℕ, ◌<◌, Bool, true, false, List, [], ◌∷◌, ◌++◌, cond, length, refl, sym, ◌∙◌, ap, arith, subst, inl, inr}
use Rattle.std.specs.Prelude.{Option, Some, None, not, ◌==◌, ◌⊎◌}
use Rattle.std.specs.List.{AllByRecursion}
use Rattle.exp_runs.specs.declared.run.Run.{Run}
use Rattle.exp_runs.specs.declared.run.Status.{Status}
use Rattle.exp_runs.specs.declared.run.Status.TheVariants as status
use Rattle.exp_runs.specs.Keys.{run_of}
use Rattle.exp_runs.specs.Table.{changed}
use Rattle.exp_model.specs.declared.session.Session.{Session}
use Rattle.exp_model.specs.declared.session.Experiment.{Experiment}
use Rattle.exp_model.specs.declared.step.HostStep.{HostStep}
use Rattle.sched_state.specs.declared.entry.Flight.{Flight}
use Rattle.sched_state.specs.declared.entry.JobName.{JobName}
use Rattle.sched_state.specs.declared.entry.JobName.TheVariants.{Prepare, Analyze}
use Rattle.sched_state.specs.State.{SchedState, landed, passes, rid_of, top_of, with_run}
use Rattle.sched_state.specs.Datasets.{Stage, stage}
use Rattle.sched_state.specs.Reports.{prepared, analyzed, after_stage, refused, run_steps, staged_run, steps_of}
use Rattle.sched_state.specs.Lawful.{IsFlying}
use Rattle.sched_laws.specs.Sound.{IsSound, IsSoundBy, Stands, StandsIn, is_on, jobs_of, not_ahead}
use Rattle.sched_laws.proofs.Lookups.{all-filter, found-below, found-has, found-number}
use Rattle.sched_laws.proofs.Flying.{flight-there, landed-other, landed-own, leaves}
use Rattle.sched_laws.proofs.Statuses.{when-analyzes, when-prepares}
use Rattle.sched_laws.proofs.Steady.{AreBelow, one-changes, others-stand}

-- the run of a job in flight, with what goes with it
abbrev pub InFlight : SchedState → JobName → Run → Type 0
InFlight state job run = (run_of state.runs (rid_of job) ≡ Some run) × ((front back : List JobName) × (jobs_of state.flying run.rid ≡ front ++ job ∷ back))

all-split : (P : Flight → Type 0) (before after : List Flight) (f : Flight) → AllByRecursion P (before ++ f ∷ after) → P f
all-split P [] after f all = all.0
all-split P (g ∷ before) after f all = all-split P before after f all.1

pub in-flight : (session : Session) (ahead : ℕ → ℕ) (state : SchedState) (chair : ℕ) (job : JobName) → IsSoundBy session ahead state → IsFlying state chair job
    → (run : Run) × InFlight state job run
in-flight session ahead state chair job was flies =
    let f : Flight = record { chair = chair; job = job } in
    let P : List Flight → Type 0 = λ fs. AreBelow (length state.runs) fs in
    let within : rid_of job < length state.runs = all-split (λ (g : Flight). rid_of g.job < length state.runs) flies.0 flies.1 f (subst P flies.2 was.known) in
    let found = found-below 0 state.runs (rid_of job) was.numbered (omega arith) (omega (arith, within)) in
    let number : found.0.rid ≡ rid_of job = found-number state.runs (rid_of job) found.0 found.1 in
    let there = flight-there flies.0 flies.1 f found.0.rid (sym number) in
    (found.0, (found.1, (there.0, there.1, ap (λ fs. jobs_of fs found.0.rid) flies.2 ∙ there.2)))

pub left-known : (bound rid : ℕ) (flying : List Flight) → AreBelow bound flying → AreBelow bound (leaves rid flying)
left-known bound rid flying all = all-filter (λ (f : Flight). rid_of f.job < bound) (λ (f : Flight). not (rid_of f.job == rid)) flying all

-- a job lands, and its run stands elsewhere without a core
landing : (session : Session) (rid : ℕ) (old new : Status) (state : SchedState) → IsSound session state
    → ((r : Run) → run_of state.runs r.rid ≡ Some r → r.rid ≡ rid → r.status ≡ old)
    → ((steps x pos : ℕ) (jobs : List JobName) (on : Bool) (top : Option ℕ) → StandsIn steps 0 x pos jobs on top old → StandsIn steps 0 x pos [] on top new)
    → IsSound session (record state { runs = changed (λ (r : Run). record r { status = new }) rid state.runs; flying = leaves rid state.flying })
landing session rid old new state was before change =
    one-changes session not_ahead not_ahead state (λ r. r.pos) (λ r. r.terminate) (λ r. r.doomed) (λ r. new) rid (leaves rid state.flying) state.stack was
    (left-known (length state.runs) rid state.flying was.known) was.stacked was.rising
    (λ r found other stood. others-stand session not_ahead not_ahead state (leaves rid state.flying) state.stack r refl
    (landed-other rid r.rid state.flying other) refl (λ running e. e) stood)
    (λ r found e stood.
    let Z : Status → Type 0 =
    λ is. StandsIn (length (run_steps session r)) 0 r.rid r.pos (jobs_of state.flying r.rid) (is_on state.stack r.rid)
    (top_of state.runs state.stack r.pipeline) is in
    let Y : List JobName → Type 0 =
    λ js. StandsIn (length (run_steps session r)) 0 r.rid r.pos js (is_on state.stack r.rid) (top_of state.runs state.stack r.pipeline) new in
    let none : jobs_of (leaves rid state.flying) r.rid ≡ [] = ap (jobs_of (leaves rid state.flying)) e ∙ landed-own rid state.flying in
    subst Y (sym none) (change (length (run_steps session r)) r.rid r.pos (jobs_of state.flying r.rid) (is_on state.stack r.rid)
    (top_of state.runs state.stack r.pipeline) (subst Z (before r found e) stood)))

-- the status of the run whose preparation or analysis is in flight
preparing-is : (session : Session) (state : SchedState) (chair rid : ℕ) → IsSound session state → IsFlying state chair (Prepare rid) → (r : Run)
    → run_of state.runs r.rid ≡ Some r → r.rid ≡ rid → r.status ≡ status.Preparing
preparing-is session state chair rid was flies r found e =
    let f = in-flight session not_ahead state chair (Prepare rid) was flies in
    let same : f.0 ≡ r = cc (ap (run_of state.runs) e, found, f.1.0) in
    let stood : Stands session not_ahead state f.0 = found-has (Stands session not_ahead state) state.runs rid f.0 was.stands f.1.0 in
    ap (λ (x : Run). x.status) (sym same)
    ∙ when-prepares (length (run_steps session f.0)) 0 f.0.rid f.0.pos (jobs_of state.flying f.0.rid) f.1.1.0 f.1.1.1 (is_on state.stack f.0.rid)
    (top_of state.runs state.stack f.0.pipeline) rid f.0.status f.1.1.2 stood

analyzing-is : (session : Session) (state : SchedState) (chair rid : ℕ) → IsSound session state → IsFlying state chair (Analyze rid) → (r : Run)
    → run_of state.runs r.rid ≡ Some r → r.rid ≡ rid → r.status ≡ status.Analyzing
analyzing-is session state chair rid was flies r found e =
    let f = in-flight session not_ahead state chair (Analyze rid) was flies in
    let same : f.0 ≡ r = cc (ap (run_of state.runs) e, found, f.1.0) in
    let stood : Stands session not_ahead state f.0 = found-has (Stands session not_ahead state) state.runs rid f.0 was.stands f.1.0 in
    ap (λ (x : Run). x.status) (sym same)
    ∙ when-analyzes (length (run_steps session f.0)) 0 f.0.rid f.0.pos (jobs_of state.flying f.0.rid) f.1.1.0 f.1.1.1 (is_on state.stack f.0.rid)
    (top_of state.runs state.stack f.0.pipeline) rid f.0.status f.1.1.2 stood

-- either of two
sound-at : (session : Session) (b : Bool) (x y : SchedState) → IsSound session x → IsSound session y → IsSound session (cond b x y)
sound-at session true x y p q = p
sound-at session false x y p q = q

-- a stage is done
by-stage-of : (session : Session) (of_stage : Experiment → List HostStep) (next old : Status) (rid : ℕ) (state : SchedState) (found : Option Run)
    → IsSound session state → run_of state.runs rid ≡ found → (found ≡ None → ⊥)
    → ((new : Status) → (new ≡ next) ⊎ ((new ≡ status.Failed) ⊎ (new ≡ status.Deleted)) → IsSound session
    (with_run (λ (r : Run). record r { status = new }) rid (landed rid state)))
    → IsSound session (staged_run of_stage next session rid (landed rid state) found)
by-stage-of session of_stage next old rid state None was e there land = absurd (there refl)
by-stage-of session of_stage next old rid state (Some run) was e there land =
    let done : Stage = stage (steps_of of_stage session run) state.datasets in
    sound-at session run.doomed (with_run (λ (r : Run). record r { status = status.Deleted }) rid (landed rid state))
    (after_stage next rid done (landed rid state)) (land status.Deleted (inr (inr refl))) (at done.fine)
  where
    at : (fine : Bool) → IsSound session (with_run (λ (r : Run). record r { status = cond fine next status.Failed }) rid (landed rid state))
    at true = land next (inl refl)
    at false = land status.Failed (inr (inl refl))

-- what a preparation becomes
prepared-to : (session : Session) (state : SchedState) (chair rid : ℕ) → IsSound session state → IsFlying state chair (Prepare rid) → (new : Status)
    → (new ≡ status.Prepared) ⊎ ((new ≡ status.Failed) ⊎ (new ≡ status.Deleted))
    → IsSound session (with_run (λ (r : Run). record r { status = new }) rid (landed rid state))
prepared-to session state chair rid was flies new (inl e) =
    let P : Status → Type 0 = λ s. IsSound session (with_run (λ (r : Run). record r { status = s }) rid (landed rid state)) in
    subst P (sym e) (landing session rid status.Preparing status.Prepared state was (preparing-is session state chair rid was flies)
    (λ steps x pos jobs on top h. (refl, h.1, h.2)))
prepared-to session state chair rid was flies new (inr (inl e)) =
    let P : Status → Type 0 = λ s. IsSound session (with_run (λ (r : Run). record r { status = s }) rid (landed rid state)) in
    subst P (sym e) (landing session rid status.Preparing status.Failed state was (preparing-is session state chair rid was flies)
    (λ steps x pos jobs on top h. (refl, h.1)))
prepared-to session state chair rid was flies new (inr (inr e)) =
    let P : Status → Type 0 = λ s. IsSound session (with_run (λ (r : Run). record r { status = s }) rid (landed rid state)) in
    subst P (sym e) (landing session rid status.Preparing status.Deleted state was (preparing-is session state chair rid was flies)
    (λ steps x pos jobs on top h. (refl, h.1)))

analyzed-to : (session : Session) (state : SchedState) (chair rid : ℕ) → IsSound session state → IsFlying state chair (Analyze rid) → (new : Status)
    → (new ≡ status.Done) ⊎ ((new ≡ status.Failed) ⊎ (new ≡ status.Deleted))
    → IsSound session (with_run (λ (r : Run). record r { status = new }) rid (landed rid state))
analyzed-to session state chair rid was flies new (inl e) =
    let P : Status → Type 0 = λ s. IsSound session (with_run (λ (r : Run). record r { status = s }) rid (landed rid state)) in
    subst P (sym e) (landing session rid status.Analyzing status.Done state was (analyzing-is session state chair rid was flies)
    (λ steps x pos jobs on top h. (refl, h.1)))
analyzed-to session state chair rid was flies new (inr (inl e)) =
    let P : Status → Type 0 = λ s. IsSound session (with_run (λ (r : Run). record r { status = s }) rid (landed rid state)) in
    subst P (sym e) (landing session rid status.Analyzing status.Failed state was (analyzing-is session state chair rid was flies)
    (λ steps x pos jobs on top h. (refl, h.1)))
analyzed-to session state chair rid was flies new (inr (inr e)) =
    let P : Status → Type 0 = λ s. IsSound session (with_run (λ (r : Run). record r { status = s }) rid (landed rid state)) in
    subst P (sym e) (landing session rid status.Analyzing status.Deleted state was (analyzing-is session state chair rid was flies)
    (λ steps x pos jobs on top h. (refl, h.1)))

pub there-is : (runs : List Run) (rid : ℕ) (run : Run) → run_of runs rid ≡ Some run → run_of runs rid ≡ None → ⊥
there-is runs rid run e h = cc

pub by-prepared : (session : Session) (chair rid : ℕ) (state : SchedState) → IsSound session state → IsFlying state chair (Prepare rid)
    → IsSound session (prepared session rid state)
by-prepared session chair rid state was flies =
    let f = in-flight session not_ahead state chair (Prepare rid) was flies in
    by-stage-of session (λ (e : Experiment). e.prepare) status.Prepared status.Preparing rid state (run_of state.runs rid) was refl
    (there-is state.runs rid f.0 f.1.0) (prepared-to session state chair rid was flies)

pub by-analyzed : (session : Session) (chair rid : ℕ) (state : SchedState) → IsSound session state → IsFlying state chair (Analyze rid)
    → IsSound session (analyzed session rid state)
by-analyzed session chair rid state was flies =
    let f = in-flight session not_ahead state chair (Analyze rid) was flies in
    by-stage-of session (λ (e : Experiment). e.analyze) status.Done status.Analyzing rid state (run_of state.runs rid) was refl
    (there-is state.runs rid f.0 f.1.0) (analyzed-to session state chair rid was flies)

pub by-refused : (session : Session) (chair rid : ℕ) (state : SchedState) → IsSound session state → IsFlying state chair (Prepare rid)
    → IsSound session (refused rid state)
by-refused session chair rid state was flies = at (passes (λ (run : Run). run.doomed) state.runs rid)
  where
    at : (b : Bool) → IsSound session (with_run (λ (r : Run). record r { status = cond b status.Deleted status.Failed }) rid (landed rid state))
    at true = prepared-to session state chair rid was flies status.Deleted (inr (inr refl))
    at false = prepared-to session state chair rid was flies status.Failed (inr (inl refl))
