-- What holds between two jobs of one worker, who has the scheduler and the cores to itself.
use Rattle.std.specs.Prelude.{◌≡◌, ◌⊎◌, ℕ, List, [], ◌∷◌, length, slice_get, Some, None}
use Rattle.std.specs.List.{All}
use Rattle.rtio_core.specs.declared.data.Entry.{Entry}
use Rattle.rtio_core.specs.Core.{CoreState}
use Rattle.rtio_core.specs.Entries.{last_at, open_session}
use Rattle.exp_model.specs.declared.session.Session.{Session}
use Rattle.sched_state.specs.declared.entry.Flight.{Flight}
use Rattle.sched_state.specs.declared.entry.SchedEntry.{SchedEntry}
use Rattle.sched_state.specs.Lawful.{halted_by}
use Rattle.sched_laws.specs.Left.{jobs_left}
use Rattle.sched_core.specs.Scheds.{SchedValue, sched_state}
pub use Rattle.lab_kernels.specs.Kernels.{ArePrompt}
use Rattle.lab_kernels.specs.Meanings.{LeavesKernel, RunsKernel}
use Rattle.lab_kits.specs.Kits.{program_in}
use Rattle.lab_ties.specs.Acts.{core_acts, sched_acts}
use Rattle.lab_ties.specs.Judged.{IsJudged}
use Rattle.lab_ties.specs.Settings.{config_at}
use Rattle.lab_ties.specs.Ties.{AreTied}
use Rattle.stage_work.specs.declared.tasks.Task.{Task}
use Rattle.stage_work.specs.Doing.{Cutting, LeavesPlaces, Running}
use Rattle.stage_work.specs.Jobs.{in_flight}
use Rattle.stage_work.specs.Tasks.{IsTaskIn, job_of}

-- The scheduler has this session, and these jobs in flight. It wasn't
-- halted; all entries are of chair 0; and each source was judged rightly
pub record IsServedSched (session : Session) (flying : List Flight) (sched : SchedValue) : Type 0 where
  pub session_is : sched.session ≡ session
  pub flying_is : (sched_state sched).flying ≡ flying
  pub going : halted_by sched.history ≡ None
  pub alone : All (λ (entry : SchedEntry). entry.chair ≡ 0) sched.history
  pub judged : All (λ (entry : SchedEntry). IsJudged session sched.history entry.act) sched.history

-- The core of a pipeline has the pipeline's settings. No session is open and no request waits; it hasn't ticked since
-- its last entry, and no cycle passed before a start nor before an end, unless that is one at the horizon. All entries
-- are of chair 0; and its sessions and the scheduler's reports of the pipeline's kernel steps belong together
pub record IsServedCore (session : Session) (sched : List SchedEntry) (pipeline : ℕ) (core : CoreState) : Type 0 where
  pub config : config_at session pipeline ≡ Some core.config
  pub closed : open_session core.history ≡ None
  pub idle : core.waiting ≡ None
  pub steady : core.counter ≡ last_at core.history
  pub prompt : ArePrompt [] core.history
  pub alone : All (λ (entry : Entry). entry.chair ≡ 0) core.history
  pub tied : AreTied session pipeline core.config 0 sched (sched_acts 0 sched) core.history (core_acts 0 core.history)

-- each pipeline has its core, which stands so
pub record AreServedCores (session : Session) (sched : List SchedEntry) (cores : List CoreState) : Type 0 where
  pub count : length cores ≡ length session.pipelines
  pub each : (pipeline : ℕ) (core : CoreState) → slice_get cores pipeline ≡ Some core → IsServedCore session sched pipeline core

-- the scheduler, with these jobs in flight, and the cores
pub record IsServed (session : Session) (flying : List Flight) (sched : SchedValue) (cores : List CoreState) : Type 0 where
  pub scheduler : IsServedSched session flying sched
  pub each_core : AreServedCores session sched.history cores

-- a kernel of a pipeline has run as a session of chair 0 with these units,
-- or want of memory has kept it from that, or cut it short
abbrev pub OwnRuns : (units : ℕ) → Running CoreState
OwnRuns units pipeline kit of old new result = RunsKernel (program_in kit) kit.compiled.1 units 0 of old new result

abbrev pub OwnCuts : (units : ℕ) → Cutting CoreState
OwnCuts units pipeline kit of old new = LeavesKernel (program_in kit) units 0 of old new

-- a job that want of memory stopped has left the cores as they were, but that of the pipeline whose step it does
abbrev pub LeavesCores : Session → Task → (cores now : List CoreState) → Type 0
LeavesCores session taken cores now = LeavesPlaces (OwnRuns session.budget) (OwnCuts session.budget) taken cores now

-- this job is in flight, and all else is as it was before
pub record IsLeftWith (session : Session) (taken : Task) (sched : SchedValue) (cores : List CoreState) : Type 0 where
  pub scheduler : IsServedSched session (in_flight 0 (job_of taken) ∷ []) sched
  pub has : IsTaskIn session sched.history taken
  pub before : List CoreState
  pub served : AreServedCores session sched.history before
  pub leaves : LeavesCores session taken before cores

-- what want of memory leaves: all as between two jobs, or one job that was taken and isn't reported
abbrev pub IsLeft : Session → SchedValue → List CoreState → Type 0
IsLeft session sched cores = IsServed session [] sched cores ⊎ ((taken : Task) × IsLeftWith session taken sched cores)

-- how many jobs may still be reported
abbrev pub jobs_left_at : SchedValue → ℕ
jobs_left_at sched = jobs_left sched.session (sched_state sched)
