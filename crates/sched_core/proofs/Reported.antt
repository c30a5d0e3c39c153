-- A job that is reported, and what the report leaves.
use Rattle.std.proofs.Common.{◌≡◌, ◌≢◌, ℕ, ◌<◌, ◌≤◌, Bool, true, false, List, [], ◌∷◌, ◌++◌, cond, length, refl, sym, ◌∙◌, ap, subst, inl, inr}
use Rattle.std.specs.Prelude.{ℤ, Option, Some, None, Vec, ◌==◌, ◌&&◌, ◌||◌, ◌⊎◌, option_map, vec_len, vec_capacity}
use Rattle.std.specs.List.{list_any}
use Rattle.std.specs.declared.alloc.Global.{Global}
use Rattle.std.proofs.lemmas.Bool.{eq-eqb, eqb-true}
use Rattle.std.proofs.lemmas.Bool.Decides.{eqb_tells}
use Rattle.std.proofs.lemmas.List.Sums.{fold-append}
use Rattle.exp_runs.specs.declared.run.Run.{Run}
use Rattle.exp_runs.specs.declared.run.Status.{Status}
use Rattle.exp_runs.specs.declared.run.Status.TheVariants as status
use Rattle.exp_runs.specs.Keys.{run_of}
use Rattle.exp_model.specs.declared.session.Session.{Session}
use Rattle.exp_model.specs.declared.session.Experiment.{Experiment}
use Rattle.exp_model.specs.declared.step.HostStep.{HostStep}
use Rattle.dataset_db.specs.Datasets.{Dataset}
use Rattle.sched_state.specs.declared.board.Board.{Board}
use Rattle.sched_state.specs.declared.entry.Flight.{Flight}
use Rattle.sched_state.specs.declared.entry.JobName.{JobName}
use Rattle.sched_state.specs.declared.entry.JobName.TheVariants.{Prepare, Step, Analyze}
use Rattle.sched_state.specs.declared.entry.SchedAct.{SchedAct}
use Rattle.sched_state.specs.declared.entry.SchedAct.TheVariants.{Analyzed, Prepared, SourceRefused}
use Rattle.sched_state.specs.declared.entry.SchedEntry.{SchedEntry}
use Rattle.sched_state.specs.State.{SchedState, found_passes, landed, passes, with_run}
use Rattle.sched_state.specs.Datasets.{stage}
use Rattle.sched_state.specs.Reports.{after_stage, analyzed, refused, staged, staged_run, steps_of}
use Rattle.sched_state.specs.Lawful.{IfHalted, IsLawful, MayCome, after_act, halt_at, halt_by, halted_by, state_after}
use Rattle.sched_state.specs.Boards.{staged_by, state_of}
use Rattle.sched_laws.specs.Sound.{jobs_of}
use Rattle.sched_laws.specs.Waits.{is_waiting, waits, waits_in}
use Rattle.sched_laws.proofs.Lookups.{at_number, found-changed, found-number}
use Rattle.sched_laws.proofs.Waiting.{Fewer, analyzed-waits, refused-waits}
use Rattle.sched_state.proofs.Openings.{first, second}
use Rattle.sched_core.specs.declared.sched.Sched.TheInside.{Inside}
use Rattle.sched_core.specs.Calls.{HasJob, entry_of, same_job}
use Rattle.sched_core.specs.Inside.{AreKits, IsSchedInside}
use Rattle.sched_core.proofs.Halted.{lawful-push, state-push}

same-is : (a b : JobName) → same_job a b ≡ true → a ≡ b
same-is (Prepare x) (Prepare y) h = ap Prepare (eqb-true x y h)
same-is (Prepare x) (Step y q) h = absurd (cc)
same-is (Prepare x) (Analyze y) h = absurd (cc)
same-is (Step x p) (Prepare y) h = absurd (cc)
same-is (Step x p) (Step y q) h = let a : x ≡ y = eqb-true x y (first (x == y) (p == q) h) in let b : p ≡ q = eqb-true p q (second (x == y) (p == q) h) in cc
same-is (Step x p) (Analyze y) h = absurd (cc)
same-is (Analyze x) (Prepare y) h = absurd (cc)
same-is (Analyze x) (Step y q) h = absurd (cc)
same-is (Analyze x) (Analyze y) h = ap Analyze (eqb-true x y h)

and-true : (a b : Bool) → a ≡ true → b ≡ true → (a && b) ≡ true
and-true true b e h = h
and-true false b e h = absurd (cc)

same-own : (a : JobName) → same_job a a ≡ true
same-own (Prepare x) = eq-eqb x x refl
same-own (Step x p) = and-true (x == x) (p == p) (eq-eqb x x refl) (eq-eqb p p refl)
same-own (Analyze x) = eq-eqb x x refl

abbrev Split : List Flight → JobName → Type 0
Split flying job = (chair : ℕ) × (before : List Flight) × (after : List Flight) × (flying ≡ before ++ record { chair = chair; job = job } ∷ after)

split-at : (job : JobName) (f : Flight) (flying : List Flight) (b : Bool) → same_job job f.job ≡ b → (list_any (λ (g : Flight). same_job job g.job) flying ≡ true → Split flying job) → (b || list_any (λ (g : Flight). same_job job g.job) flying) ≡ true → Split (f ∷ flying) job
split-at job f flying true e rest h =
    let is : job ≡ f.job = same-is job f.job e in
    let P : JobName → Type 0 = λ j. f ∷ flying ≡ record { chair = f.chair; job = j } ∷ flying in
    (f.chair, [], flying, subst P (sym is) refl)
split-at job f flying false e rest h = let r = rest h in (r.0, f ∷ r.1, r.2, ap (λ fs. f ∷ fs) r.3)

-- a job that is found is in flight
pub flying-there : (job : JobName) (flying : List Flight) → list_any (λ (g : Flight). same_job job g.job) flying ≡ true → Split flying job
flying-there job [] h = absurd (cc)
flying-there job (f ∷ flying) h = split-at job f flying (same_job job f.job) refl (flying-there job flying) h

or-right : (a b : Bool) → b ≡ true → (a || b) ≡ true
or-right true b h = refl
or-right false b h = h

found-any : (job : JobName) (chair : ℕ) (before after : List Flight) → list_any (λ (g : Flight). same_job job g.job) (before ++ record { chair = chair; job = job } ∷ after) ≡ true
found-any job chair [] after = ap (λ b. b || list_any (λ (g : Flight). same_job job g.job) after) (same-own job)
found-any job chair (f ∷ before) after = or-right (same_job job f.job) (list_any (λ (g : Flight). same_job job g.job) (before ++ record { chair = chair; job = job } ∷ after)) (found-any job chair before after)

pub flying-not : (job : JobName) (state : SchedState) → list_any (λ (g : Flight). same_job job g.job) state.flying ≡ false → HasJob state job → ⊥
flying-not job state h has =
    let any : list_any (λ (g : Flight). same_job job g.job) state.flying ≡ true = ap (list_any (λ (g : Flight). same_job job g.job)) has.1.2 ∙ found-any job has.0 has.1.0 has.1.1 in
    cc

halt-stays : (found : Option ℕ) (entry : SchedEntry) → halt_at entry.chair entry.act ≡ None → halt_by found entry ≡ found
halt-stays None entry e = e
halt-stays (Some by) entry e = refl

module _ {P : Type 0} (source : P → ℕ) (stands_for : P → List ℕ → Type 0) (has_call : P → List ℕ → List ℤ → Type 0) where
  -- a report is written down
  pub report-keeps : (a : Inside P) (board : Board) (datasets : List Dataset) (entries : Vec SchedEntry Global) (kits : Vec (Option P) Global) (who : ℕ) (what : SchedAct) → IsSchedInside source stands_for has_call a
      → MayCome a.session (state_after a.session a.entries.items) who what → ((found : Option ℕ) → IfHalted found what) → halt_at who what ≡ None
      → board.taken ≤ length a.session.arrivals → board.runs.pipelines ≡ length a.session.pipelines
      → state_of a.session.arrivals datasets board ≡ after_act a.session who what (state_after a.session a.entries.items)
      → AreKits source stands_for has_call a.session (after_act a.session who what (state_after a.session a.entries.items)) kits.items
      → entries.items ≡ a.entries.items ++ entry_of who what ∷ [] → vec_len entries < vec_capacity entries
      → IsSchedInside source stands_for has_call (record { session = a.session; board = board; datasets = datasets; entries = entries; kits = kits; halted = a.halted })
  report-keeps a board datasets entries kits who what was may halts no_halt within pipelines state has items room =
      let L : List SchedEntry → Type 0 = λ h. IsLawful a.session h in
      let K : SchedState → Type 0 = λ s. AreKits source stands_for has_call a.session s kits.items in
      let entry : SchedEntry = entry_of who what in
      let next : state_after a.session entries.items ≡ after_act a.session who what (state_after a.session a.entries.items) = ap (state_after a.session) items ∙ state-push a.session a.entries.items entry in
      let halted : halted_by entries.items ≡ halted_by a.entries.items = ap halted_by items ∙ fold-append halt_by None a.entries.items (entry ∷ []) ∙ halt-stays (halted_by a.entries.items) entry no_halt in
      record {
        session = was.session;
        lawful = subst L (sym items) (lawful-push a.session [] a.entries.items entry was.lawful (may, halts (halted_by a.entries.items)));
        taken = within;
        pipelines = pipelines;
        state = state ∙ sym next;
        kits = subst K (sym next) has;
        halted = was.halted ∙ sym halted;
        room = λ e. room;
      }

-- the run of a job that landed doesn't wait, where its new status says so
landing-at : (is : Status) (flying : List Flight) (rid : ℕ) (found : Option Run) → ((r : Run) → found ≡ Some r → r.rid ≡ rid) → ((js : List JobName) → waits_in js is ≡ false) → found_passes (is_waiting flying) (option_map (at_number (λ (r : Run). record r { status = is }) rid) found) ≡ true → ⊥
landing-at is flying rid None own never h = cc
landing-at is flying rid (Some r) own never h =
    let same : (r.rid == rid) ≡ true = eq-eqb r.rid rid (own r refl) in
    let B : Bool → Type 0 = λ b. is_waiting flying (cond b (record r { status = is }) r) ≡ true in
    let there : waits_in (jobs_of flying r.rid) is ≡ true = subst B same h in
    cc (there, never (jobs_of flying r.rid))

pub landing-own : (is : Status) (rid : ℕ) (state : SchedState) → ((js : List JobName) → waits_in js is ≡ false) → waits (with_run (λ (r : Run). record r { status = is }) rid (landed rid state)) rid ≡ true → ⊥
landing-own is rid state never h =
    landing-at is (landed rid state).flying rid (run_of state.runs rid) (λ r e. found-number state.runs rid r e) never
    (sym (ap (found_passes (is_waiting (landed rid state).flying)) (found-changed (λ (r : Run). record r { status = is }) (λ r. refl) rid rid state.runs)) ∙ h)

analyzed-at : (session : Session) (rid : ℕ) (state : SchedState) (found : Option Run) → (found ≡ None → ⊥) → waits (staged_run (λ (e : Experiment). e.analyze) status.Done session rid (landed rid state) found) rid ≡ true → ⊥
analyzed-at session rid state None there h = there refl
analyzed-at session rid state (Some run) there h = at run.doomed h
  where
    done : (fine : Bool) → waits (with_run (λ (r : Run). record r { status = cond fine status.Done status.Failed }) rid (landed rid state)) rid ≡ true → ⊥
    done true k = landing-own status.Done rid state (λ js. refl) k
    done false k = landing-own status.Failed rid state (λ js. refl) k

    at : (doomed : Bool) → waits (cond doomed (with_run (λ (r : Run). record r { status = status.Deleted }) rid (landed rid state)) (after_stage status.Done rid (stage (steps_of (λ (e : Experiment). e.analyze) session run) state.datasets) (landed rid state))) rid ≡ true → ⊥
    at true k = landing-own status.Deleted rid state (λ js. refl) k
    at false k = done (stage (steps_of (λ (e : Experiment). e.analyze) session run) state.datasets).fine k

-- nobody comes to wait by an analysis
pub analyzed-fewer : (session : Session) (rid : ℕ) (run : Run) (state : SchedState) → run_of state.runs rid ≡ Some run → Fewer state (analyzed session rid state)
analyzed-fewer session rid run state there x h = at (eqb_tells x rid)
  where
    W : ℕ → Type 0
    W y = waits (analyzed session rid state) y ≡ true

    at : ((x == rid) ≡ true) × (x ≡ rid) ⊎ ((x == rid) ≡ false) × (x ≢ rid) → waits state x ≡ true
    at (inl e) = absurd (analyzed-at session rid state (run_of state.runs rid) (λ none. cc) (subst W e.1 h))
    at (inr e) = analyzed-waits session rid run state there x e.1 h

-- the stage that was done is that of the run's experiment
pub stage-report : (of_stage : Experiment → List HostStep) (next : Status) (session : Session) (run : Run) (state : SchedState) (steps : List HostStep) → steps ≡ steps_of of_stage session run → run_of state.runs run.rid ≡ Some run → staged_by steps next run state ≡ staged of_stage next session run.rid state
stage-report of_stage next session run state steps e found =
    ap (λ (ss : List HostStep). staged_by ss next run state) e ∙ sym (ap (staged_run of_stage next session run.rid (landed run.rid state)) found)

-- a halted scheduler takes reports
pub analyzed-may : (rid : ℕ) (found : Option ℕ) → IfHalted found (Analyzed rid)
analyzed-may rid None = tt
analyzed-may rid (Some by) = tt

pub refused-may : (rid : ℕ) (found : Option ℕ) → IfHalted found (SourceRefused rid)
refused-may rid None = tt
refused-may rid (Some by) = tt

refused-at : (rid : ℕ) (state : SchedState) (doomed : Bool) → waits (with_run (λ (r : Run). record r { status = cond doomed status.Deleted status.Failed }) rid (landed rid state)) rid ≡ true → ⊥
refused-at rid state true h = landing-own status.Deleted rid state (λ js. refl) h
refused-at rid state false h = landing-own status.Failed rid state (λ js. refl) h

-- nobody comes to wait by a refusal
pub refused-fewer : (rid : ℕ) (state : SchedState) → Fewer state (refused rid state)
refused-fewer rid state x h = at (eqb_tells x rid)
  where
    W : ℕ → Type 0
    W y = waits (refused rid state) y ≡ true

    at : ((x == rid) ≡ true) × (x ≡ rid) ⊎ ((x == rid) ≡ false) × (x ≢ rid) → waits state x ≡ true
    at (inl e) = absurd (refused-at rid state (passes (λ (r : Run). r.doomed) state.runs rid) (subst W e.1 h))
    at (inr e) = refused-waits rid state x e.1 h

pub prepared-may : (rid : ℕ) (found : Option ℕ) → IfHalted found (Prepared rid)
prepared-may rid None = tt
prepared-may rid (Some by) = tt
