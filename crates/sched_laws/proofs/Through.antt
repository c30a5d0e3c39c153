-- What holds of the runs and stays with each change of a run and each submission holds after every entry.
use Rattle.std.proofs.Common.{◌≡◌, ℕ, ◌+◌, Bool, true, false, List, [], ◌∷◌, ◌++◌, cond, length, refl, sym, subst}
use Rattle.std.specs.Prelude.{Option, Some, None, slice_get}
use Rattle.exp_runs.specs.declared.run.Run.{Run}
use Rattle.exp_runs.specs.declared.run.Status.{Status}
use Rattle.exp_runs.specs.declared.run.Status.TheVariants as status
use Rattle.exp_runs.specs.Keys.{run_of}
use Rattle.exp_runs.specs.Table.{with_fields, with_status}
use Rattle.exp_model.specs.declared.session.Session.{Session}
use Rattle.exp_model.specs.declared.session.Experiment.{Experiment}
use Rattle.exp_model.specs.declared.arrival.Submission.{Submission}
use Rattle.exp_model.specs.declared.step.HostStep.{HostStep}
use Rattle.sched_state.specs.declared.entry.JobName.{JobName}
use Rattle.sched_state.specs.declared.entry.JobName.TheVariants.{Prepare, Step, Analyze}
use Rattle.sched_state.specs.declared.entry.KernelResult.{KernelResult}
use Rattle.sched_state.specs.declared.entry.SchedAct.{SchedAct}
use Rattle.sched_state.specs.declared.entry.SchedAct.TheVariants as act
use Rattle.sched_state.specs.State.{SchedState, passes, with_run, landed}
use Rattle.sched_state.specs.Arrivals.{new_run, at_clock}
use Rattle.sched_state.specs.Picks.{taken}
use Rattle.sched_state.specs.Datasets.{Stage, stage}
use Rattle.sched_state.specs.Reports.{Effect, after_stage, moved_on, steps_of, run_steps, staged, staged_run, status_then, run_effect, step_effect, step_effect_of, after_clock}
use Rattle.sched_laws.proofs.Moving.{IsSteady, by-clock as moves-clock, by-run-effect, settle-runs}
use Rattle.sched_state.specs.Lawful.{after_act}
use Rattle.exp_runs.specs.Table.{changed}

-- a change of a run keeps what it was submitted with
abbrev pub KeepsKey : (Run → Run) → Type 0
KeepsKey change =
    (r : Run) → ((change r).rid ≡ r.rid) × ((change r).experiment ≡ r.experiment) × ((change r).pipeline ≡ r.pipeline) × ((change r).due ≡ r.due)
    × ((change r).priority ≡ r.priority) × ((change r).flush ≡ r.flush)

pub record IsStable (P : List Run → Type 0) : Type 0 where
  pub change : (f : Run → Run) → KeepsKey f → (rid : ℕ) (runs : List Run) → P runs → P (changed f rid runs)
  pub push : (asked : Submission) (runs : List Run) → P runs → P (runs ++ new_run (length runs) asked ∷ [])

module _ (P : List Run → Type 0) (stable : IsStable P) where
  abbrev Holds : SchedState → Type 0
  Holds state = P state.runs

  either : (b : Bool) (x y : SchedState) → Holds x → Holds y → Holds (cond b x y)
  either true x y p q = p
  either false x y p q = q

  by-run : (change : Run → Run) → KeepsKey change → (rid : ℕ) (state : SchedState) → Holds state → Holds (with_run change rid state)
  by-run change same rid state was = stable.change change same rid state.runs was

  by-status : (status : Status) (rid : ℕ) (state : SchedState) → Holds state → Holds (with_run (with_status status) rid state)
  by-status status rid state was = by-run (with_status status) (λ r. (refl, refl, refl, refl, refl, refl)) rid state was

  steady : IsSteady Holds
  steady = record {
    orders = λ t d rid run state there was. by-run (with_fields run.pos t d) (λ r. (refl, refl, refl, refl, refl, refl)) rid state was;
    delete = λ rid run state there was. by-status status.Deleted rid state was;
    moves = λ clock arrivals state was. was;
    kept = record { push = λ asked state was. stable.push asked state.runs was; store = λ datasets state was. was };
  }

  pub by-clock : (clock : ℕ) (state : SchedState) → Holds state → Holds (at_clock clock state)
  by-clock clock state was = moves-clock Holds steady clock state was

  by-taking : (chair : ℕ) (job : JobName) (state : SchedState) → Holds state → Holds (taken chair job state)
  by-taking chair (Prepare rid) state was = by-status status.Preparing rid state was
  by-taking chair (Step rid place) state was = by-status status.Running rid state was
  by-taking chair (Analyze rid) state was = by-status status.Analyzing rid state was

  by-stage-of : (of_stage : Experiment → List HostStep) (then_ : Status) (session : Session) (rid : ℕ) (state : SchedState) (found : Option Run) → Holds state
      → Holds (staged_run of_stage then_ session rid state found)
  by-stage-of of_stage then_ session rid state None was = was
  by-stage-of of_stage then_ session rid state (Some run) was =
      let done : Stage = stage (steps_of of_stage session run) state.datasets in
      either run.doomed (with_run (with_status status.Deleted) rid state) (after_stage then_ rid done state) (by-status status.Deleted rid state was)
      (by-status (cond done.fine then_ status.Failed) rid state was)

  by-stage : (of_stage : Experiment → List HostStep) (then_ : Status) (session : Session) (rid : ℕ) (state : SchedState) → Holds state
      → Holds (staged of_stage then_ session rid state)
  by-stage of_stage then_ session rid state was = by-stage-of of_stage then_ session rid (landed rid state) (run_of state.runs rid) was

  by-step-of : (session : Session) (place : ℕ) (result : Option KernelResult) (now : SchedState) (found : Option Run) → Holds now
      → Holds (step_effect_of session place result now found).state
  by-step-of session place result now None was = was
  by-step-of session place result now (Some run) was =
      let end : Effect = run_effect session run (slice_get (run_steps session run) place) result now in
      let next : Status = status_then end.status run.pos (length (run_steps session run)) in
      subst P (sym (settle-runs next run.rid (landed run.rid end.state)))
      (by-status next run.rid end.state (by-run-effect Holds steady.kept session run (slice_get (run_steps session run) place) result now was))

  by-step : (session : Session) (rid place : ℕ) (result : Option KernelResult) (state : SchedState) → Holds state
      → Holds (step_effect session rid place result state).state
  by-step session rid place result state was =
      let now : SchedState = after_clock rid state in
      by-step-of session place result now (run_of now.runs rid)
      (by-run moved_on (λ r. (refl, refl, refl, refl, refl, refl)) rid (at_clock (state.clock + 1) state) (by-clock (state.clock + 1) state was))

  pub by-act : (session : Session) (chair : ℕ) (what : SchedAct) (state : SchedState) → Holds state → Holds (after_act session chair what state)
  by-act session chair (act.Took job) state was = by-taking chair job state was
  by-act session chair (act.Prepared rid) state was = by-stage (λ (e : Experiment). e.prepare) status.Prepared session rid state was
  by-act session chair (act.Stepped rid place pipeline clock result word) state was = by-step session rid place result state was
  by-act session chair (act.Analyzed rid) state was = by-stage (λ (e : Experiment). e.analyze) status.Done session rid state was
  by-act session chair (act.SourceRefused rid) state was =
      by-status (cond (passes (λ (run : Run). run.doomed) state.runs rid) status.Deleted status.Failed) rid (landed rid state) was
  by-act session chair (act.Jumped clock) state was = by-clock clock state was
  by-act session chair act.Halted state was = was
