-- Why a job is due.
use Rattle.std.proofs.Common.{◌≡◌, ℕ, Bool, true, false, List, [], ◌∷◌, cond, refl, sym, ◌∙◌, ap, subst, inl, inr}
use Rattle.std.specs.Prelude.{Option, Some, None, ◌⊎◌, ◌&&◌}
use Rattle.std.specs.List.{list_any}
use Rattle.exp_runs.specs.declared.run.Run.{Run}
use Rattle.exp_runs.specs.Keys.{best, can_prepare, can_run, can_analyze, is_of, some_higher}
use Rattle.exp_runs.specs.Statuses.{is_preparing, is_running, is_analyzing}
use Rattle.exp_model.specs.declared.session.Session.{Session}
use Rattle.sched_state.specs.declared.entry.Flight.{Flight}
use Rattle.sched_state.specs.declared.entry.JobName.{JobName}
use Rattle.sched_state.specs.declared.entry.JobName.TheVariants.{Prepare, Step, Analyze}
use Rattle.sched_state.specs.State.{SchedState, is_step_in, passes, top_of}
use Rattle.sched_state.specs.Picks.{analyzing, by_top, first_with, is_held, job_or, or_later, pick, pipelines_of, pos_of, prepared_higher, preparing, stepping, unless_held}

-- who is first was chosen at some pipeline
abbrev pub IsChosen : (ℕ → Option ℕ) → ℕ → Type 0
IsChosen choose rid = (pipeline : ℕ) × (choose pipeline ≡ Some rid)

chosen-or : (choose : ℕ → Option ℕ) (pipeline rid : ℕ) (here later : Option ℕ) → choose pipeline ≡ here → (later ≡ Some rid → IsChosen choose rid)
    → or_later here later ≡ Some rid → IsChosen choose rid
chosen-or choose pipeline rid None later at rest e = rest e
chosen-or choose pipeline rid (Some other) later at rest e = (pipeline, at ∙ e)

chosen : (choose : ℕ → Option ℕ) (pipelines : List ℕ) (rid : ℕ) → first_with choose pipelines ≡ Some rid → IsChosen choose rid
chosen choose [] rid e = absurd (cc)
chosen choose (pipeline ∷ pipelines) rid e = chosen-or choose pipeline rid (choose pipeline) (first_with choose pipelines) refl (chosen choose pipelines rid) e

-- a job that is due is of one of three kinds
abbrev pub IsDue : SchedState → JobName → Type 0
IsDue state (Step rid place) = IsChosen (stepping state) rid × (place ≡ pos_of state.runs rid)
IsDue state (Prepare rid) = IsChosen (preparing state) rid
IsDue state (Analyze rid) = IsChosen (analyzing state) rid

due-of : (state : SchedState) (job : JobName) (a b c : Option ℕ) → ((rid : ℕ) → a ≡ Some rid → IsChosen (stepping state) rid)
    → ((rid : ℕ) → b ≡ Some rid → IsChosen (preparing state) rid) → ((rid : ℕ) → c ≡ Some rid → IsChosen (analyzing state) rid)
    → job_or (λ rid. Step rid (pos_of state.runs rid)) a (job_or Prepare b (job_or Analyze c None)) ≡ Some job → IsDue state job
due-of state job (Some rid) b c f g h e =
    let is : Step rid (pos_of state.runs rid) ≡ job = cc in
    let P : JobName → Type 0 = λ j. IsDue state j in
    subst P is (f rid refl, refl)
due-of state job None (Some rid) c f g h e = let is : Prepare rid ≡ job = cc in let P : JobName → Type 0 = λ j. IsDue state j in subst P is (g rid refl)
due-of state job None None (Some rid) f g h e = let is : Analyze rid ≡ job = cc in let P : JobName → Type 0 = λ j. IsDue state j in subst P is (h rid refl)
due-of state job None None None f g h e = absurd (cc)

pub picked : (session : Session) (state : SchedState) (job : JobName) → pick session state ≡ Some job → IsDue state job
picked session state job e =
    let pipelines : List ℕ = pipelines_of session in
    due-of state job (first_with (stepping state) pipelines) (first_with (preparing state) pipelines) (first_with (analyzing state) pipelines)
    (chosen (stepping state) pipelines) (chosen (preparing state) pipelines) (chosen (analyzing state) pipelines) e

-- a step is due for one of three causes: the run on top goes on; the best prepared run begins; the run on top goes on after a
-- pause
abbrev pub GoesOn : SchedState → ℕ → ℕ → Type 0
GoesOn state pipeline rid = (top_of state.runs state.stack pipeline ≡ Some rid) × (passes (λ (run : Run). is_running run.status) state.runs rid ≡ true)

abbrev pub Yields : SchedState → Option ℕ → Type 0
Yields state None = Unit {0}
Yields state (Some top) = (passes (λ (run : Run). is_running run.status) state.runs top ≡ false) × (prepared_higher state.runs top state.clock ≡ true)

abbrev pub Begins : SchedState → ℕ → ℕ → Type 0
Begins state pipeline rid = (best (can_run pipeline) state.runs ≡ Some rid) × Yields state (top_of state.runs state.stack pipeline)

abbrev pub Resumes : SchedState → ℕ → ℕ → Type 0
Resumes state pipeline rid =
    (top_of state.runs state.stack pipeline ≡ Some rid) × (passes (λ (run : Run). is_running run.status) state.runs rid ≡ false)
    × (some_higher state.runs rid state.clock ≡ false)

abbrev pub StepsBy : SchedState → ℕ → ℕ → Type 0
StepsBy state pipeline rid = GoesOn state pipeline rid ⊎ (Begins state pipeline rid ⊎ Resumes state pipeline rid)

by-top-at : (state : SchedState) (pipeline rid top : ℕ) (running prepared higher : Bool) → top_of state.runs state.stack pipeline ≡ Some top
    → passes (λ (r : Run). is_running r.status) state.runs top ≡ running → prepared_higher state.runs top state.clock ≡ prepared
    → some_higher state.runs top state.clock ≡ higher
    → cond running (Some top) (cond prepared (best (can_run pipeline) state.runs) (cond higher None (Some top))) ≡ Some rid → StepsBy state pipeline rid
by-top-at state pipeline rid top true prepared higher t a b c e =
    let same : top ≡ rid = cc in
    inl (t ∙ ap Some same, ap (passes (λ (r : Run). is_running r.status) state.runs) (sym same) ∙ a)
by-top-at state pipeline rid top false true higher t a b c e =
    let P : Option ℕ → Type 0 = λ found. Yields state found in
    inr (inl (e, subst P (sym t) (a, b)))
by-top-at state pipeline rid top false false true t a b c e = absurd (cc)
by-top-at state pipeline rid top false false false t a b c e =
    let same : top ≡ rid = cc in
    inr (inr (
      t ∙ ap Some same,
      ap (passes (λ (r : Run). is_running r.status) state.runs) (sym same) ∙ a,
      ap (λ r. some_higher state.runs r state.clock)
          (sym same) ∙ c,
    ))

by-top : (state : SchedState) (pipeline rid : ℕ) (top : Option ℕ) → top_of state.runs state.stack pipeline ≡ top
    → by_top state.runs state.clock pipeline top ≡ Some rid → StepsBy state pipeline rid
by-top state pipeline rid None t e = let P : Option ℕ → Type 0 = λ found. Yields state found in inr (inl (e, subst P (sym t) tt))
by-top state pipeline rid (Some top) t e =
    by-top-at state pipeline rid top (passes (λ (r : Run). is_running r.status) state.runs top) (prepared_higher state.runs top state.clock)
    (some_higher state.runs top state.clock) t refl refl refl e

free-at : (b : Bool) (found : Option ℕ) (rid : ℕ) → cond b None found ≡ Some rid → (b ≡ false) × (found ≡ Some rid)
free-at true found rid e = absurd (cc)
free-at false found rid e = (refl, e)

-- the pipeline of a step that is due has none in flight
abbrev pub IsFree : SchedState → ℕ → Type 0
IsFree state pipeline = list_any (λ (flight : Flight). is_step_in state.runs pipeline flight.job) state.flying ≡ false

pub steps-by : (state : SchedState) (pipeline rid : ℕ) → stepping state pipeline ≡ Some rid → IsFree state pipeline × StepsBy state pipeline rid
steps-by state pipeline rid e =
    let parts =
    free-at (list_any (λ (flight : Flight). is_step_in state.runs pipeline flight.job) state.flying)
    (by_top state.runs state.clock pipeline (top_of state.runs state.stack pipeline)) rid e in
    (parts.0, by-top state pipeline rid (top_of state.runs state.stack pipeline) refl parts.1)

held-not : (runs : List Run) (found : Option ℕ) (rid : ℕ) → unless_held runs found ≡ Some rid → found ≡ Some rid
held-not runs None rid e = absurd (cc)
held-not runs (Some other) rid e = (free-at (is_held runs other) (Some other) rid e).1

pub prepares-by : (state : SchedState) (pipeline rid : ℕ) → preparing state pipeline ≡ Some rid → best (can_prepare pipeline state.clock) state.runs ≡ Some rid
prepares-by state pipeline rid e =
    held-not state.runs (best (can_prepare pipeline state.clock) state.runs) rid
    (free-at (list_any (λ (run : Run). is_of pipeline run && is_preparing run.status) state.runs)
    (unless_held state.runs (best (can_prepare pipeline state.clock) state.runs)) rid e).1

pub analyzes-by : (state : SchedState) (pipeline rid : ℕ) → analyzing state pipeline ≡ Some rid → best (can_analyze pipeline) state.runs ≡ Some rid
analyzes-by state pipeline rid e =
    (free-at (list_any (λ (run : Run). is_of pipeline run && is_analyzing run.status) state.runs) (best (can_analyze pipeline) state.runs) rid e).1
