-- While a job is in flight, its run stands so that the job can be done.
use Rattle.std.proofs.Common.{◌≡◌, ℕ, zero, suc, ◌<◌, Bool, true, List, [], ◌∷◌, length, refl, sym, ◌∙◌, ap, arith}
use Rattle.std.specs.Prelude.{Some, ◌&&◌, nat_le, nat_lt, slice_get}
use Rattle.std.specs.List.{list_all}
use Rattle.std.proofs.lemmas.Bool.{ltb-true}
use Rattle.exp_runs.specs.declared.run.Run.{Run}
use Rattle.exp_model.specs.declared.session.Session.{Session}
use Rattle.exp_model.specs.declared.session.Experiment.{Experiment}
use Rattle.exp_model.specs.declared.step.HostStep.{HostStep}
use Rattle.exp_model.specs.Steps.{Sizes, is_data_step, is_run_step}
use Rattle.exp_model.specs.Sessions.{is_experiment, is_from_to, sizes_of}
use Rattle.sched_state.specs.declared.entry.JobName.{JobName}
use Rattle.sched_state.specs.declared.entry.JobName.TheVariants.{Prepare, Step, Analyze}
use Rattle.sched_state.specs.State.{SchedState, top_of}
use Rattle.sched_state.specs.Reports.{run_steps}
use Rattle.sched_state.specs.Lawful.{found_step, state_after}
use Rattle.sched_state.proofs.Openings.{first}
use Rattle.sched_laws.specs.Sound.{IsRunOf, IsSound, Stands, is_on, jobs_of, not_ahead}
use Rattle.sched_laws.specs.Workers.{FlyingJobsStand, StepStands, status_for}
use Rattle.sched_laws.proofs.Lookups.{found-has, found-number}
use Rattle.sched_laws.proofs.Arriving.{experiment-there}
use Rattle.sched_laws.proofs.Reporting.{InFlight, in-flight}
use Rattle.sched_laws.proofs.Statuses.{when-analyzes, when-prepares}
use Rattle.sched_laws.proofs.Stepping.{running-at}
use Rattle.sched_laws.proofs.Histories.{sound-after}

source-there : (sizes : Sizes) (e : Experiment) → is_experiment sizes e ≡ true → e.source < sizes.sources
source-there sizes e h =
    let source : Bool = nat_lt e.source sizes.sources in
    let before : Bool = nat_le (length e.prepare) 16 && list_all is_data_step e.prepare in
    let runs : Bool = is_from_to 1 16 (length e.run) && list_all (is_run_step sizes) e.run in
    let after : Bool = nat_le (length e.analyze) 16 && list_all is_data_step e.analyze in
    ltb-true e.source sizes.sources (first source before (first (source && before) runs (first (source && before && runs) after h)))

step-there : (steps : List HostStep) (place : ℕ) → place < length steps → (step : HostStep) × (slice_get steps place ≡ Some step)
step-there [] place h = absurd (omega (arith, h))
step-there (s ∷ steps) zero h = (s, refl)
step-there (s ∷ steps) (suc place) h = step-there steps place (omega (arith, h))

-- the status, and the step, by the job
pub stands-so : (session : Session) (state : SchedState) (job : JobName) (r : Run) → InFlight state job r → Stands session not_ahead state r
    → (r.status ≡ status_for job) × StepStands session state job r
stands-so session state (Prepare rid) r flies stood = (
  when-prepares (length (run_steps session r)) 0 r.rid r.pos (jobs_of state.flying r.rid) flies.1.0 flies.1.1 (is_on state.stack r.rid)
      (top_of state.runs state.stack r.pipeline) rid r.status flies.1.2 stood,
  tt,
)
stands-so session state (Step rid place) r flies stood =
    let number : r.rid ≡ rid = found-number state.runs rid r flies.0 in
    let at = running-at session not_ahead state rid place r (flies.1.0, flies.1.1, ap (jobs_of state.flying) (sym number) ∙ flies.1.2) number stood in
    let step = step-there (run_steps session r) place at.3 in
    (at.0, (omega (arith, at.4), step.0, ap (found_step session place) flies.0 ∙ step.1))
stands-so session state (Analyze rid) r flies stood = (
  when-analyzes (length (run_steps session r)) 0 r.rid r.pos (jobs_of state.flying r.rid) flies.1.0 flies.1.1 (is_on state.stack r.rid)
      (top_of state.runs state.stack r.pipeline) rid r.status flies.1.2 stood,
  tt,
)

pub flying-stand : FlyingJobsStand
flying-stand session history chair job ok lawful flies =
    let state : SchedState = state_after session history in
    let was : IsSound session state = sound-after session history ok lawful in
    let f = in-flight session not_ahead state chair job was flies in
    let r : Run = f.0 in
    let so = stands-so session state job r f.1 (found-has (Stands session not_ahead state) state.runs _ r was.stands f.1.0) in
    let fits : IsRunOf session r = found-has (IsRunOf session) state.runs _ r was.fit f.1.0 in
    let e = experiment-there session r.experiment ok fits.experiment in
    (r, f.1.0, record { status = so.0; pipeline = fits.pipeline; source = (e.0, e.1, source-there (sizes_of session) e.0 e.2); step = so.1 })
