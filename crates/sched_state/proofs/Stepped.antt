-- The report of a step, piece by piece.
use Rattle.std.proofs.Common.{◌≡◌, ℕ, Bool, true, false, cond, List, [], ◌∷◌, ◌++◌, length, refl, sym, ◌∙◌, ap, zero, suc}
use Rattle.std.specs.Prelude.{Option, Some, None, IsSome, IsTrue, Result, Ok, Err, IfOk, slice_get, nat_lt, nat_le, ◌&&◌, ◌||◌, ◌==◌}
use Rattle.std.specs.List.{list_all}
use Rattle.std.specs.Option.{option_or}
use Rattle.std.proofs.lemmas.List.Folds.{find-append}
use Rattle.exp_runs.specs.declared.run.Run.{Run}
use Rattle.exp_runs.specs.declared.run.Status.{Status}
use Rattle.exp_runs.specs.declared.run.Status.TheVariants as status
use Rattle.exp_runs.specs.Keys.{run_of, some_higher}
use Rattle.exp_runs.specs.Statuses.{is_paused, is_running}
use Rattle.exp_runs.specs.Table.{with_status}
use Rattle.exp_model.specs.declared.session.Session.{Session}
use Rattle.exp_model.specs.declared.session.Experiment.{Experiment}
use Rattle.exp_model.specs.declared.step.HostStep.{HostStep}
use Rattle.exp_model.specs.declared.step.HostStep.TheVariants as step
use Rattle.exp_model.specs.Sessions.{is_experiment, is_from_to, is_session, sizes_of}
use Rattle.exp_model.specs.Steps.{Sizes, is_data_step, is_run_step}
use Rattle.dataset_db.specs.Datasets.{Change, Dataset}
use Rattle.exp_model.specs.declared.arrival.Arrival.{Arrival}
use Rattle.sched_state.specs.declared.board.Board.{Board}
use Rattle.sched_state.specs.declared.entry.KernelResult.{KernelResult}
use Rattle.sched_state.specs.declared.entry.StepWord.TheVariants as word
use Rattle.sched_state.specs.State.{SchedState, off_stack, with_run}
use Rattle.sched_state.specs.Datasets.{changes_by}
use Rattle.sched_state.specs.Reports.{Effect, after_storing, effect, fails, goes_on, paused, run_effect, run_steps, settle, settled, step_effect_of, steps_in}
use Rattle.sched_state.specs.Boards.{IsStored, state_with}
use Rattle.sched_state.proofs.Openings.{first, second, session-experiments}

pub if-map : {X E : Type 0} (P Q : X → Type 0) (r : Result X E) → ((x : X) → P x → Q x) → IfOk r P → IfOk r Q
if-map P Q (Ok x) f p = f x p
if-map P Q (Err e) f p = tt

-- what runs or is paused stays on its stack, and nothing else does
pub settle-on : (is : Status) (rid : ℕ) (state : SchedState) → (is_running is || is_paused is) ≡ true
    → settle is rid state ≡ with_run (with_status is) rid state
settle-on status.Pending rid state e = absurd (cc)
settle-on status.Preparing rid state e = absurd (cc)
settle-on status.Prepared rid state e = absurd (cc)
settle-on status.Running rid state e = refl
settle-on status.Paused rid state e = refl
settle-on status.RunDone rid state e = absurd (cc)
settle-on status.Analyzing rid state e = absurd (cc)
settle-on status.Done rid state e = absurd (cc)
settle-on status.Failed rid state e = absurd (cc)
settle-on status.Terminated rid state e = absurd (cc)
settle-on status.Deleted rid state e = absurd (cc)

pub settle-off : (is : Status) (rid : ℕ) (state : SchedState) → (is_running is || is_paused is) ≡ false → settle is rid state ≡ off_stack is rid state
settle-off status.Pending rid state e = refl
settle-off status.Preparing rid state e = refl
settle-off status.Prepared rid state e = refl
settle-off status.Running rid state e = absurd (cc)
settle-off status.Paused rid state e = absurd (cc)
settle-off status.RunDone rid state e = refl
settle-off status.Analyzing rid state e = refl
settle-off status.Done rid state e = refl
settle-off status.Failed rid state e = refl
settle-off status.Terminated rid state e = refl
settle-off status.Deleted rid state e = refl

-- a run that isn't ordered to end lends its core, or goes on
pub at-pause : (session : Session) (run : Run) (lends : Bool) (state : SchedState) → run.terminate ≡ false
    → (nat_lt run.pos (length (run_steps session run)) && some_higher state.runs run.rid state.clock) ≡ lends
    → paused session run state ≡ cond lends (record { word = word.Paused; status = status.Paused; state = state }) (goes_on state)
at-pause session run lends state stays is =
    let lent : Effect = record { word = word.Paused; status = status.Paused; state = state } in
    let ends : Effect = record { word = word.Terminated; status = status.Terminated; state = state } in
    let b : Bool = nat_lt run.pos (length (run_steps session run)) && some_higher state.runs run.rid state.clock in
    ap (λ c. cond c ends (cond b lent (goes_on state))) stays ∙ ap (λ c. cond c lent (goes_on state)) is

-- a step that has to do with datasets alone
abbrev pub is_stored : HostStep → Bool
is_stored (step.Set name value broadcast persist archive) = true
is_stored (step.Append name item) = true
is_stored (step.Sum name target) = true
is_stored other = false

pub stores : (session : Session) (run : Run) (what : HostStep) (ran : Option KernelResult) (state : SchedState) → is_stored what ≡ true
    → effect session run what ran state ≡ after_storing state (changes_by what state.datasets)
stores session run (step.Kernel name args) ran state h = absurd (cc)
stores session run step.Pause ran state h = absurd (cc)
stores session run step.CheckTermination ran state h = absurd (cc)
stores session run (step.Set name value broadcast persist archive) ran state h = refl
stores session run (step.Append name item) ran state h = refl
stores session run (step.Sum name target) ran state h = refl
stores session run (step.Submit asked) ran state h = absurd (cc)

-- what it comes to
pub stored-at : (found : Option (List Change)) (old new : List Dataset) (left : List Arrival) (board : Board) → IsStored found true old new
    → goes_on (state_with left new board) ≡ after_storing (state_with left old board) found
stored-at None old new left board is = absurd (cc (is.0))
stored-at (Some changes) old new left board is = ap (λ (ds : List Dataset). goes_on (state_with left ds board)) is.1

pub not-stored : (found : Option (List Change)) (old new : List Dataset) (left : List Arrival) (board : Board) → IsStored found false old new
    → fails word.Failed (state_with left new board) ≡ after_storing (state_with left old board) found
not-stored None old new left board is = ap (λ (ds : List Dataset). fails word.Failed (state_with left ds board)) is.1
not-stored (Some changes) old new left board is = absurd (cc (is.0))

-- a run that is found stays found when others are added
some-or : (a b : Option Run) → IsSome a → IsSome (option_or a b)
some-or None b h = absurd (cc)
some-or (Some r) b h = h

pub still-found : (runs more : List Run) (rid : ℕ) → IsSome (run_of runs rid) → IsSome (run_of (runs ++ more) rid)
still-found runs more rid h = rw (find-append (λ (run : Run). run.rid == rid) runs more) (some-or (run_of runs rid) (run_of more rid) h)

-- a step that is reported, where it is there
pub with-step : (session : Session) (run : Run) (found : Option HostStep) (what : HostStep) (ran : Option KernelResult) (state : SchedState) → found ≡ Some what → run.doomed ≡ false
    → run_effect session run found ran state ≡ effect session run what ran state
with-step session run found what ran state e lives =
    ap (λ f. run_effect session run f ran state) e
    ∙ ap (λ b. cond b (record { word = word.Deleted; status = status.Deleted; state = state }) (effect session run what ran state)) lives

pub of-doomed : (session : Session) (run : Run) (found : Option HostStep) (what : HostStep) (ran : Option KernelResult) (state : SchedState)
    → found ≡ Some what → run.doomed ≡ true
    → run_effect session run found ran state ≡ record { word = word.Deleted; status = status.Deleted; state = state }
of-doomed session run found what ran state e doomed =
    ap (λ f. run_effect session run f ran state) e
    ∙ ap (λ b. cond b (record { word = word.Deleted; status = status.Deleted; state = state }) (effect session run what ran state)) doomed

-- the steps of a session that is served may stand where they do
pub listed : {X : Type 0} (p : X → Bool) (xs : List X) (i : ℕ) (x : X) → list_all p xs ≡ true → slice_get xs i ≡ Some x → p x ≡ true
listed p [] i x h e = absurd (cc)
listed p (y ∷ ys) zero x h e = let same : y ≡ x = cc in ap p (sym same) ∙ first (p y) (list_all p ys) h
listed p (y ∷ ys) (suc i) x h e = listed p ys i x (second (p y) (list_all p ys) h) e

pub run-part : (sizes : Sizes) (e : Experiment) → is_experiment sizes e ≡ true → (is_from_to 1 16 (length e.run) && list_all (is_run_step sizes) e.run) ≡ true
run-part sizes e h =
    let source = nat_lt e.source sizes.sources in
    let before = nat_le (length e.prepare) 16 && list_all is_data_step e.prepare in
    let runs = is_from_to 1 16 (length e.run) && list_all (is_run_step sizes) e.run in
    let after = nat_le (length e.analyze) 16 && list_all is_data_step e.analyze in
    let three : (source && before && runs) ≡ true = first (source && before && runs) after h in
    second (source && before) runs three

step-in : (sizes : Sizes) (found : Option Experiment) (place : ℕ) (what : HostStep) → ((e : Experiment) → found ≡ Some e → is_experiment sizes e ≡ true)
    → slice_get (steps_in (λ (e : Experiment). e.run) found) place ≡ Some what → is_run_step sizes what ≡ true
step-in sizes None place what h e = absurd (cc)
step-in sizes (Some x) place what h e =
    let all : list_all (is_run_step sizes) x.run ≡ true = second (is_from_to 1 16 (length x.run)) (list_all (is_run_step sizes) x.run) (run-part sizes x (h x refl)) in
    listed (is_run_step sizes) x.run place what all e

pub step-fits : (session : Session) (run : Run) (place : ℕ) (what : HostStep) → IsTrue (is_session session)
    → slice_get (run_steps session run) place ≡ Some what → is_run_step (sizes_of session) what ≡ true
step-fits session run place what ok e =
    step-in (sizes_of session) (slice_get session.experiments run.experiment) place what
    (λ x found. listed (is_experiment (sizes_of session)) session.experiments run.experiment x (session-experiments session ok) found) e

-- the report of a step of a run that is there
pub of-run : (session : Session) (place : ℕ) (ran : Option KernelResult) (now : SchedState) (run : Run) (found : Option Run) → found ≡ Some run
    → step_effect_of session place ran now found ≡ settled session run (run_effect session run (slice_get (run_steps session run) place) ran now)
of-run session place ran now run found e = ap (step_effect_of session place ran now) e
