-- The job that is due has its run, its source and its step.
use Rattle.std.proofs.Common.{◌≡◌, ℕ, zero, suc, ◌<◌, Bool, true, List, [], ◌∷◌, length, refl, sym, ◌∙◌, ap, arith, inl, inr}
use Rattle.std.specs.Prelude.{Option, Some, IsTrue, slice_get, ◌⊎◌}
use Rattle.exp_runs.specs.declared.run.Run.{Run}
use Rattle.exp_runs.specs.declared.run.Status.{Status}
use Rattle.exp_runs.specs.declared.run.Status.TheVariants as status
use Rattle.exp_runs.specs.Keys.{can_analyze, can_prepare, run_of}
use Rattle.exp_model.specs.declared.session.Session.{Session}
use Rattle.exp_model.specs.declared.step.HostStep.{HostStep}
use Rattle.exp_model.specs.Sessions.{is_session}
use Rattle.sched_state.specs.declared.entry.JobName.{JobName}
use Rattle.sched_state.specs.declared.entry.JobName.TheVariants.{Prepare, Step, Analyze}
use Rattle.sched_state.specs.declared.entry.SchedEntry.{SchedEntry}
use Rattle.sched_state.specs.State.{SchedState, rid_of, top_of}
use Rattle.sched_state.specs.Picks.{found_pos, pick}
use Rattle.sched_state.specs.Lawful.{found_step, state_after}
use Rattle.sched_state.specs.Reports.{run_steps}
use Rattle.sched_state.proofs.Chosen.{best-chosen}
use Rattle.sched_laws.specs.Sound.{HasStep, IsSound, Stands, StandsIn, is_on, jobs_of, not_ahead}
use Rattle.sched_laws.specs.Waits.{are_none, is_waiting, waits_in}
use Rattle.sched_laws.proofs.Lookups.{found-has}
use Rattle.sched_laws.proofs.Picked.{analyzes-by, picked, prepares-by, steps-by}
use Rattle.sched_laws.proofs.Roomy.{roomy-after}
use Rattle.sched_laws.proofs.Taking.{found-test, found-within}
use Rattle.sched_laws.proofs.Waiting.{due-there, due-waits}

-- a job that is due has a run
pub due-found : (session : Session) (state : SchedState) (job : JobName) → IsSound session state → pick session state ≡ Some job → (run : Run) × (run_of state.runs (rid_of job) ≡ Some run)
due-found session state (Step rid place) was e =
    let due = picked session state (Step rid place) e in
    due-there session state due.0.0 rid was (steps-by state due.0.0 rid due.0.1).1
due-found session state (Prepare rid) was e =
    let due = picked session state (Prepare rid) e in
    let found = best-chosen (can_prepare due.0 state.clock) state.runs was.numbered rid (prepares-by state due.0 rid due.1) in
    (found.0, found.1)
due-found session state (Analyze rid) was e =
    let due = picked session state (Analyze rid) e in
    let found = best-chosen (can_analyze due.0) state.runs was.numbered rid (analyzes-by state due.0 rid due.1) in
    (found.0, found.1)

-- there is a place for its kit
pub due-within : (session : Session) (history : List SchedEntry) (state : SchedState) (job : JobName) → IsTrue (is_session session) → state_after session history ≡ state → IsSound session state → pick session state ≡ Some job → rid_of job < 64
due-within session history state job ok is was e =
    let found = due-found session state job was e in
    let below : rid_of job < length state.runs = found-within state.runs (rid_of job) found.0 was.numbered found.1 in
    let few = roomy-after session history ok in
    let same : length (state_after session history).runs ≡ length state.runs = ap (λ (s : SchedState). length s.runs) is in
    omega (arith, below, few, same)

waiting-pos : (steps rid pos : ℕ) (jobs : List JobName) (on : Bool) (top : Option ℕ) (is : Status) → waits_in jobs is ≡ true → StandsIn steps 0 rid pos jobs on top is → pos < steps
waiting-pos steps rid pos jobs on top status.Pending w h = absurd (cc)
waiting-pos steps rid pos jobs on top status.Preparing w h = absurd (cc)
waiting-pos steps rid pos jobs on top status.Prepared w h = h.2
waiting-pos steps rid pos jobs on top status.Running w h = at h.1
  where
    at : ((jobs ≡ []) × (pos < steps)) ⊎ HasStep steps 0 rid pos jobs → pos < steps
    at (inl k) = k.1
    at (inr k) = absurd (cc (ap are_none k.1))
waiting-pos steps rid pos jobs on top status.Paused w h = h.2
waiting-pos steps rid pos jobs on top status.RunDone w h = absurd (cc)
waiting-pos steps rid pos jobs on top status.Analyzing w h = absurd (cc)
waiting-pos steps rid pos jobs on top status.Done w h = absurd (cc)
waiting-pos steps rid pos jobs on top status.Failed w h = absurd (cc)
waiting-pos steps rid pos jobs on top status.Terminated w h = absurd (cc)
waiting-pos steps rid pos jobs on top status.Deleted w h = absurd (cc)

pub got : {X : Type 0} (xs : List X) (i : ℕ) → i < length xs → (x : X) × (slice_get xs i ≡ Some x)
got [] i h = absurd (omega (arith, h))
got (x ∷ xs) zero h = (x, refl)
got (x ∷ xs) (suc i) h = got xs i (omega (arith, h))

-- a step that is due is there
pub due-step : (session : Session) (state : SchedState) (rid place : ℕ) → IsSound session state → pick session state ≡ Some (Step rid place) → (step : HostStep) × (found_step session place (run_of state.runs rid) ≡ Some step)
due-step session state rid place was e =
    let found = due-found session state (Step rid place) was e in
    let r : Run = found.0 in
    let due = picked session state (Step rid place) e in
    let pos : r.pos ≡ place = sym (due.1 ∙ ap found_pos found.1) in
    let waiting : is_waiting state.flying r ≡ true = sym (found-test (is_waiting state.flying) state.runs rid r found.1) ∙ due-waits session state rid place was e in
    let stood : Stands session not_ahead state r = found-has (Stands session not_ahead state) state.runs rid r was.stands found.1 in
    let within : r.pos < length (run_steps session r) = waiting-pos (length (run_steps session r)) r.rid r.pos (jobs_of state.flying r.rid) (is_on state.stack r.rid) (top_of state.runs state.stack r.pipeline) r.status waiting stood in
    let step = got (run_steps session r) place (omega (arith, within, pos)) in
    (step.0, ap (found_step session place) found.1 ∙ step.1)
