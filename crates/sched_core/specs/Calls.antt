-- What the calls of a scheduler answer and leave.
use Rattle.std.specs.Prelude.{◌≡◌, ◌≢◌, ◌==◌, ◌&&◌, ℕ, ◌+◌, Bool, true, false, List, [], ◌∷◌, ◌++◌}
use Rattle.std.specs.Prelude.{map, slice_get, slice_set, ℤ, Option, Some, None, option_map, IsTrue}
use Rattle.exp_runs.specs.declared.run.Run.{Run}
use Rattle.exp_runs.specs.declared.run.Status.{Status}
use Rattle.exp_runs.specs.declared.run.Status.TheVariants.{RunDone}
use Rattle.exp_runs.specs.Keys.{run_of}
use Rattle.exp_runs.specs.Statuses.{is_ended}
use Rattle.exp_model.specs.declared.session.Session.{Session}
use Rattle.exp_model.specs.declared.step.HostStep.{HostStep}
use Rattle.sched_state.specs.declared.entry.JobName.{JobName}
use Rattle.sched_state.specs.declared.entry.JobName.TheVariants as name
use Rattle.sched_state.specs.declared.entry.SchedAct.{SchedAct}
use Rattle.sched_state.specs.declared.entry.SchedAct.TheVariants.{Took, Stepped, Jumped, Halted}
use Rattle.sched_state.specs.declared.entry.SchedEntry.{SchedEntry}
use Rattle.sched_core.specs.declared.answer.Job.{Job}
use Rattle.sched_core.specs.declared.answer.Job.TheVariants as job
use Rattle.sched_core.specs.declared.answer.Next.{Next}
use Rattle.sched_core.specs.declared.answer.Next.TheVariants as next
use Rattle.sched_core.specs.declared.answer.Why.{Why}
use Rattle.sched_core.specs.declared.answer.Why.TheVariants as why
use Rattle.sched_state.specs.State.{SchedState, rid_of}
use Rattle.sched_state.specs.Picks.{pick, is_over}
use Rattle.sched_state.specs.declared.entry.KernelResult.{KernelResult}
use Rattle.sched_state.specs.Reports.{step_effect}
use Rattle.sched_state.specs.Lawful.{halted_by, step_at, HasResult, IsFlying}
use Rattle.sched_core.specs.Scheds.{SchedValue, sched_state, source_of_run, IsKitFor}

abbrev pub entry_of : ℕ → SchedAct → SchedEntry
entry_of chair act = record { chair = chair; act = act }

-- one entry more
abbrev pub with_entry : ℕ → SchedAct → SchedValue → SchedValue
with_entry chair act sched = record sched { history = sched.history ++ entry_of chair act ∷ [] }

-- the clock moved on some times, and nothing else happened
abbrev pub jumps : ℕ → List ℕ → List SchedEntry
jumps chair clocks = map (λ clock. entry_of chair (Jumped clock)) clocks

abbrev pub jumped : ℕ → List ℕ → SchedValue → SchedValue
jumped chair clocks sched = record sched { history = sched.history ++ jumps chair clocks }

-- some job is in flight
abbrev pub IsAnyFlying : SchedState → Type 0
IsAnyFlying state = state.flying ≢ []

module _ {P : Type 0} where
  abbrev pub name_of : Job P → JobName
  name_of (job.Prepare rid source) = name.Prepare rid
  name_of (job.Step rid place pipeline step kit) = name.Step rid place
  name_of (job.Analyze rid) = name.Analyze rid

  -- what a job has beside its name: a preparation the run's source; a step the
  -- run's pipeline, the step of its experiment, and what is kept of its source
  abbrev pub IsJobFor : (P → ℕ) → (P → List ℕ → Type 0) → (P → List ℕ → List ℤ → Type 0) → Session → SchedState → Job P → Type 0
  IsJobFor source stands_for has_call session state (job.Prepare rid number) =
      (run : Run) × (run_of state.runs rid ≡ Some run) × (source_of_run session run ≡ Some number)
  IsJobFor source stands_for has_call session state (job.Step rid place pipeline step kit) =
      (run : Run) × (run_of state.runs rid ≡ Some run) × (run.pipeline ≡ pipeline)
      × (step_at session state rid place ≡ Some step) × IsKitFor source stands_for has_call session run kit
  IsJobFor source stands_for has_call session state (job.Analyze rid) = Unit {0}

  -- a step's kit was taken out of its place, and no other
  abbrev pub HandedOut : JobName → List (Option P) → Option P → List (Option P) → Type 0
  HandedOut (name.Step rid place) old out new = (slice_get old rid ≡ Some out) × (new ≡ slice_set old rid None)
  HandedOut job old out new = (out ≡ None) × (new ≡ old)

  -- with a step goes what is kept of its run's source
  abbrev pub HandsOut : (P → ℕ) → (P → List ℕ → Type 0) → (P → List ℕ → List ℤ → Type 0) → Session → SchedState → JobName → Option P → Type 0
  HandsOut source stands_for has_call session state (name.Step rid place) None = ⊥
  HandsOut source stands_for has_call session state (name.Step rid place) (Some kit) = (run : Run) × (run_of state.runs rid ≡ Some run) × IsKitFor source stands_for has_call session run kit
  HandsOut source stands_for has_call session state job out = Unit {0}

  -- what `next` answers and leaves
  abbrev pub AnswersNext : (P → ℕ) → (P → List ℕ → Type 0) → (P → List ℕ → List ℤ → Type 0) → ℕ → SchedValue → Next P → SchedValue → Type 0
  AnswersNext source stands_for has_call who old (next.Job job) new =
      (halted_by old.history ≡ None)
      × (clocks : List ℕ) × (new ≡ with_entry who (Took (name_of job)) (jumped who clocks old))
      × IsJobFor source stands_for has_call old.session (sched_state (jumped who clocks old)) job
  AnswersNext source stands_for has_call who old next.Idle new =
      (halted_by old.history ≡ None) × (is_over (sched_state old) ≡ false)
      × (pick old.session (sched_state old) ≡ None) × IsAnyFlying (sched_state old) × (new ≡ old)
  AnswersNext source stands_for has_call who old next.Finished new =
      (halted_by old.history ≡ None)
      × (clocks : List ℕ) × (new ≡ jumped who clocks old) × IsTrue (is_over (sched_state new))
  AnswersNext source stands_for has_call who old (next.Stopped by) new = (halted_by old.history ≡ Some by) × (new ≡ old)

-- the run has this job in flight
abbrev pub HasJob : SchedState → JobName → Type 0
HasJob state job = (chair : ℕ) × IsFlying state chair job

-- who reports the job took it, if it is in flight
abbrev pub TookIt : SchedState → ℕ → JobName → Type 0
TookIt state who job = (chair : ℕ) → IsFlying state chair job → chair ≡ who

-- two jobs are the same
abbrev pub same_job : JobName → JobName → Bool
same_job (name.Prepare rid) (name.Prepare other) = rid == other
same_job (name.Step rid place) (name.Step other pos) = (rid == other) && (place == pos)
same_job (name.Analyze rid) (name.Analyze other) = rid == other
same_job job other = false

-- a report comes for no run, or for a job that isn't in flight
abbrev pub IsLate : SchedState → JobName → Why → Type 0
IsLate state job why.NoRun = run_of state.runs (rid_of job) ≡ None
IsLate state job (why.WrongStatus status) =
    (option_map (λ (run : Run). run.status) (run_of state.runs (rid_of job)) ≡ Some status) × (HasJob state job → ⊥)
IsLate state job other = ⊥

-- the sources agree, where a kit comes with the report
abbrev pub IsOwnKit : Session → SchedState → ℕ → ℕ → Type 0
IsOwnKit session state rid source = (run : Run) × (run_of state.runs rid ≡ Some run) × (source_of_run session run ≡ Some source)

-- why a report is refused: no run has the number; else the job isn't in
-- flight; else the kit is of another source; else for want of memory
abbrev pub IsWhy : Session → SchedState → JobName → Option ℕ → Why → Type 0
IsWhy session state job source why.NoRun = run_of state.runs (rid_of job) ≡ None
IsWhy session state job source (why.WrongStatus status) =
    (option_map (λ (run : Run). run.status) (run_of state.runs (rid_of job)) ≡ Some status) × (HasJob state job → ⊥)
IsWhy session state job None (why.Foreign number) = ⊥
IsWhy session state job (Some source) (why.Foreign number) =
    HasJob state job × (run : Run) × (run_of state.runs (rid_of job) ≡ Some run) × (source_of_run session run ≡ Some number) × (number ≢ source)
IsWhy session state job None why.Memory = HasJob state job
IsWhy session state job (Some source) why.Memory = HasJob state job × IsOwnKit session state (rid_of job) source

-- a halt, where there was none
abbrev pub unless_halted : ℕ → SchedValue → Option ℕ → SchedValue
unless_halted who sched None = with_entry who Halted sched
unless_halted who sched (Some by) = sched

abbrev pub stopped : ℕ → SchedValue → SchedValue
stopped who sched = unless_halted who sched (halted_by sched.history)

abbrev pub found_pipeline : Option Run → ℕ
found_pipeline None = 0
found_pipeline (Some run) = run.pipeline

-- a step's report, with the run's pipeline, and the clock and word that it has to have
abbrev pub stepped : ℕ → ℕ → ℕ → Option KernelResult → SchedValue → SchedValue
stepped who rid place result sched =
    with_entry who
    (Stepped rid place (found_pipeline (run_of (sched_state sched).runs rid)) ((sched_state sched).clock + 1) result
    (step_effect sched.session rid place result (sched_state sched)).word) sched

-- a kit of the run's own source is one for the run
abbrev pub KitFits : {P : Type 0} → (P → ℕ) → (P → List ℕ → Type 0) → (P → List ℕ → List ℤ → Type 0) → SchedValue → ℕ → P → Type 0
KitFits source stands_for has_call sched rid kit =
    (run : Run) → run_of (sched_state sched).runs rid ≡ Some run → source_of_run sched.session run ≡ Some (source kit) → IsKitFor source stands_for has_call sched.session run kit

-- a result comes with the report of a kernel's step, and with that of no other
abbrev pub RanFits : SchedValue → ℕ → ℕ → Option KernelResult → Type 0
RanFits sched rid place ran =
    (step : HostStep) → step_at sched.session (sched_state sched) rid place ≡ Some step → HasResult (Some step) ran

-- a run that stands here has no step left to do
abbrev pub is_through : Status → Bool
is_through RunDone = true
is_through other = is_ended other
