-- Which jobs are in flight after an entry, and that a job is in flight for the chair that took it until that chair reports it.
use Rattle.std.proofs.Common.{◌≡◌, ℕ, ◌+◌, ◌<◌, ◌≤◌, Bool, true, false, List, [], ◌∷◌, ◌++◌, cond, filter, length, refl, sym, ◌∙◌, ap, arith, subst, length-append}
use Rattle.std.specs.Prelude.{Option, Some, None, IsTrue, ◌==◌, slice_get, nat_le}
use Rattle.std.proofs.lemmas.Bool.{eq-eqb, leb-true}
use Rattle.std.proofs.lemmas.Bool.Decides.{nat_tests}
use Rattle.std.proofs.lemmas.List.{length-map}
use Rattle.std.proofs.lemmas.List.Elements.{filter-append}
use Rattle.exp_runs.specs.declared.run.Run.{Run}
use Rattle.exp_runs.specs.declared.run.Status.{Status}
use Rattle.exp_runs.specs.declared.run.Status.TheVariants as status
use Rattle.exp_runs.specs.Keys.{run_of}
use Rattle.exp_runs.specs.Table.{with_status}
use Rattle.exp_model.specs.declared.session.Session.{Session}
use Rattle.exp_model.specs.declared.session.Experiment.{Experiment}
use Rattle.exp_model.specs.declared.step.HostStep.{HostStep}
use Rattle.exp_model.specs.Sessions.{is_session}
use Rattle.sched_state.specs.declared.entry.Flight.{Flight}
use Rattle.sched_state.specs.declared.entry.JobName.{JobName}
use Rattle.sched_state.specs.declared.entry.JobName.TheVariants.{Prepare, Step, Analyze}
use Rattle.sched_state.specs.declared.entry.KernelResult.{KernelResult}
use Rattle.sched_state.specs.declared.entry.SchedAct.{SchedAct}
use Rattle.sched_state.specs.declared.entry.SchedAct.TheVariants as act
use Rattle.sched_state.specs.State.{SchedState, landed, rid_of, top_of, with_run}
use Rattle.sched_state.specs.Datasets.{stage}
use Rattle.sched_state.specs.Reports.{Effect, after_clock, after_stage, run_effect, run_steps, staged_run, status_then, step_effect_of, steps_of}
use Rattle.sched_state.specs.Lawful.{IsFlying, MayCome, after_act, state_after}
use Rattle.sched_laws.specs.Sound.{IsSound, Stands, is_on, jobs_of, not_ahead}
use Rattle.sched_laws.specs.Workers.{OneChairARun, OneFlightARun, FlightsFollow, flights_of, flying_after, reported}
use Rattle.sched_laws.proofs.Lookups.{found-below, found-has, found-number}
use Rattle.sched_laws.proofs.Flying.{leaves, none-past}
use Rattle.sched_laws.proofs.Arriving.{clock-flying}
use Rattle.sched_laws.proofs.Moving.{IsKept, by-run-effect, by-settling}
use Rattle.sched_laws.proofs.Stepping.{stepped-run}
use Rattle.sched_laws.proofs.Rising.{one-job}
use Rattle.sched_laws.proofs.Histories.{lawful-back, lawful-front, sound-after, state-pushed}

-- of each run at most one job is in flight
one-own : (session : Session) (state : SchedState) (rid : ℕ) → IsSound session state → length (flights_of state rid) ≤ 1
one-own session state rid was = at (nat_le (length state.runs) rid) refl
  where
    same : length (jobs_of state.flying rid) ≡ length (flights_of state rid)
    same = length-map (flights_of state rid) (λ (f : Flight). f.job)

    at : (b : Bool) → nat_le (length state.runs) rid ≡ b → length (flights_of state rid) ≤ 1
    at true h =
        let past : length state.runs ≤ rid = leb-true (length state.runs) rid h in
        let none : length (jobs_of state.flying rid) ≡ 0 = ap length (none-past (length state.runs) rid state.flying past was.known) in
        omega (arith, none, same)
    at false h =
        let within : rid < length state.runs = grind (arith, nat_tests) in
        let found = found-below 0 state.runs rid was.numbered (omega arith) (omega (arith, within)) in
        let r : Run = found.0 in
        let number : length (jobs_of state.flying r.rid) ≡ length (jobs_of state.flying rid) =
        ap (λ x. length (jobs_of state.flying x)) (found-number state.runs rid r found.1) in
        let stood : Stands session not_ahead state r = found-has (Stands session not_ahead state) state.runs rid r was.stands found.1 in
        let most : length (jobs_of state.flying r.rid) ≤ 1 =
        one-job (length (run_steps session r)) 0 r.rid r.pos (jobs_of state.flying r.rid) (is_on state.stack r.rid)
        (top_of state.runs state.stack r.pipeline) r.status stood in
        omega (arith, most, number, same)

no-items : {X : Type 0} (xs : List X) → length xs ≤ 0 → xs ≡ []
no-items [] h = refl
no-items (x ∷ xs) h = absurd (omega (arith, h))

-- so a job in flight is the only one of its run
only : (t : Flight → Bool) (before after : List Flight) (f : Flight) → t f ≡ true → length (filter t (before ++ f ∷ after)) ≤ 1
    → filter t (before ++ f ∷ after) ≡ f ∷ []
only t before after f passes few =
    let kept : filter t (f ∷ after) ≡ f ∷ filter t after = ap (λ b. cond b (f ∷ filter t after) (filter t after)) passes in
    let parts : filter t (before ++ f ∷ after) ≡ filter t before ++ f ∷ filter t after =
    filter-append t before (f ∷ after) ∙ ap (λ fs. filter t before ++ fs) kept in
    let counts : length (filter t before ++ f ∷ filter t after) ≡ length (filter t before) + length (f ∷ filter t after) =
    length-append (filter t before) (f ∷ filter t after) in
    let whole : length (filter t (before ++ f ∷ after)) ≡ length (filter t before ++ f ∷ filter t after) = ap length parts in
    let front : filter t before ≡ [] = no-items (filter t before) (omega (arith, counts, whole, few)) in
    let back : filter t after ≡ [] = no-items (filter t after) (omega (arith, counts, whole, few)) in
    parts ∙ ap (λ fs. fs ++ f ∷ filter t after) front ∙ ap (λ fs. f ∷ fs) back

own-flight : (session : Session) (state : SchedState) (chair rid : ℕ) (job : JobName) → IsSound session state → IsFlying state chair job → rid_of job ≡ rid
    → flights_of state rid ≡ record { chair = chair; job = job } ∷ []
own-flight session state chair rid job was flies e =
    let f : Flight = record { chair = chair; job = job } in
    let t : Flight → Bool = λ g. rid_of g.job == rid in
    let N : List Flight → Type 0 = λ fs. length (filter t fs) ≤ 1 in
    ap (filter t) flies.2 ∙ only t flies.0 flies.1 f (eq-eqb (rid_of job) rid e) (subst N flies.2 (one-own session state rid was))

pub same-flight : (session : Session) (state : SchedState) (chair other : ℕ) (job next : JobName) → IsSound session state → IsFlying state chair job
    → IsFlying state other next → rid_of job ≡ rid_of next
    → (other ≡ chair) × (next ≡ job)
same-flight session state chair other job next was flies also e =
    let one : flights_of state (rid_of next) ≡ record { chair = chair; job = job } ∷ [] = own-flight session state chair (rid_of next) job was flies e in
    let two : flights_of state (rid_of next) ≡ record { chair = other; job = next } ∷ [] = own-flight session state other (rid_of next) next was also refl in
    let f : Flight = record { chair = chair; job = job } in
    let g : Flight = record { chair = other; job = next } in
    let both : g ∷ [] ≡ f ∷ [] = sym two ∙ one in
    let is : g ≡ f = cc in
    (ap (λ (x : Flight). x.chair) is, ap (λ (x : Flight). x.job) is)

pub one-flight : OneFlightARun
one-flight session history rid ok lawful = one-own session (state_after session history) rid (sound-after session history ok lawful)

pub one-chair : OneChairARun
one-chair session history chair other job next ok lawful flies also e =
    same-flight session (state_after session history) chair other job next (sound-after session history ok lawful) flies also e

-- what is in flight after an entry
abbrev Flies : List Flight → SchedState → Type 0
Flies flying state = state.flying ≡ flying

flies-kept : (flying : List Flight) → IsKept (Flies flying)
flies-kept flying = record { push = λ asked state was. was; store = λ datasets state was. was }

stage-flies : (of_stage : Experiment → List HostStep) (next : Status) (session : Session) (rid : ℕ) (state : SchedState) (found : Option Run)
    → (staged_run of_stage next session rid state found).flying ≡ state.flying
stage-flies of_stage next session rid state None = refl
stage-flies of_stage next session rid state (Some run) = at run.doomed
  where
    at : (b : Bool)
        → (cond b (with_run (with_status status.Deleted) rid state) (after_stage next rid (stage (steps_of of_stage session run) state.datasets) state)).flying
        ≡ state.flying
    at true = refl
    at false = refl

step-flies : (session : Session) (rid place : ℕ) (result : Option KernelResult) (now : SchedState) (run : Run) (found : Option Run) → found ≡ Some run
    → run.rid ≡ rid
    → (step_effect_of session place result now found).state.flying ≡ leaves rid now.flying
step-flies session rid place result now run None e number = absurd (cc)
step-flies session rid place result now run (Some other) e number =
    let end : Effect = run_effect session other (slice_get (run_steps session other) place) result now in
    let is : run ≡ other = cc in
    let same : end.state.flying ≡ now.flying =
    by-run-effect (Flies now.flying) (flies-kept now.flying) session other (slice_get (run_steps session other) place) result now refl in
    by-settling (Flies (leaves other.rid end.state.flying)) (status_then end.status other.pos (length (run_steps session other))) other.rid
    (landed other.rid end.state) refl refl
    ∙ ap (leaves other.rid) same ∙ ap (λ x. leaves x now.flying) (ap (λ (r : Run). r.rid) (sym is) ∙ number)

pub act-flies : (session : Session) (chair : ℕ) (what : SchedAct) (state : SchedState) → IsTrue (is_session session) → IsSound session state
    → MayCome session state chair what → (after_act session chair what state).flying ≡ flying_after chair what state.flying
act-flies session chair (act.Took (Prepare rid)) state ok was may = refl
act-flies session chair (act.Took (Step rid place)) state ok was may = refl
act-flies session chair (act.Took (Analyze rid)) state ok was may = refl
act-flies session chair (act.Prepared rid) state ok was may =
    stage-flies (λ (e : Experiment). e.prepare) status.Prepared session rid (landed rid state) (run_of state.runs rid)
act-flies session chair (act.Stepped rid place pipeline clock result word) state ok was may =
    let now : SchedState = after_clock rid state in
    let left = stepped-run session chair rid place state ok was may.0 in
    step-flies session rid place result now left.0 (run_of now.runs rid) left.1 (found-number now.runs rid left.0 left.1) ∙ ap (leaves rid)
    (clock-flying (state.clock + 1) state)
act-flies session chair (act.Analyzed rid) state ok was may =
    stage-flies (λ (e : Experiment). e.analyze) status.Done session rid (landed rid state) (run_of state.runs rid)
act-flies session chair (act.SourceRefused rid) state ok was may = refl
act-flies session chair (act.Jumped clock) state ok was may = clock-flying clock state
act-flies session chair act.Halted state ok was may = refl

-- a report is of a job in flight for its chair
pub report-flies : (session : Session) (chair : ℕ) (what : SchedAct) (state : SchedState) (job : JobName) → MayCome session state chair what
    → reported what ≡ Some job → IsFlying state chair job
report-flies session chair (act.Took taken) state job may e = absurd (cc)
report-flies session chair (act.Prepared rid) state job may e =
    let is : Prepare rid ≡ job = cc in let P : JobName → Type 0 = λ j. IsFlying state chair j in subst P is may
report-flies session chair (act.Stepped rid place pipeline clock result word) state job may e =
    let is : Step rid place ≡ job = cc in let P : JobName → Type 0 = λ j. IsFlying state chair j in subst P is may.0
report-flies session chair (act.Analyzed rid) state job may e =
    let is : Analyze rid ≡ job = cc in let P : JobName → Type 0 = λ j. IsFlying state chair j in subst P is may
report-flies session chair (act.SourceRefused rid) state job may e =
    let is : Prepare rid ≡ job = cc in let P : JobName → Type 0 = λ j. IsFlying state chair j in subst P is may
report-flies session chair (act.Jumped clock) state job may e = absurd (cc)
report-flies session chair act.Halted state job may e = absurd (cc)

pub flights-follow : FlightsFollow
flights-follow session before entry ok lawful =
    let state : SchedState = state_after session before in
    let was : IsSound session state = sound-after session before ok (lawful-front session [] before (entry ∷ []) lawful) in
    ap (λ (s : SchedState). s.flying) (state-pushed session before entry) ∙ act-flies session entry.chair entry.act state ok was
    (lawful-back session [] before (entry ∷ []) lawful).0.0
