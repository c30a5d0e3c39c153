-- A worker, its chairs, and what it keeps between two jobs.
use Rattle.std.specs.Prelude.{◌≡◌, ◌⊎◌, ℕ, Bool, true, false, not, List, [], ◌∷◌, ◌++◌, filter, fold, length, map}
use Rattle.std.specs.Prelude.{slice_get, Option, Some, None}
use mathlib.Core.List.{IsPrefix}
use Rattle.desk.specs.Seated.{Opened, Seated}
use Rattle.desk_rule.specs.Histories.{Each}
use Rattle.rtio_core.specs.declared.data.Config.{Config}
use Rattle.rtio_core.specs.Entries.{open_session}
use Rattle.exp_model.specs.declared.session.Session.{Session}
use Rattle.sched_state.specs.declared.entry.JobName.{JobName}
use Rattle.sched_state.specs.declared.entry.SchedAct.{SchedAct}
use Rattle.sched_state.specs.declared.entry.SchedAct.TheVariants.{Halted, Took}
use Rattle.sched_state.specs.declared.entry.SchedEntry.{SchedEntry}
use Rattle.sched_laws.specs.Workers.{reported}
use Rattle.sched_core.specs.Calls.{same_job}
use Rattle.stage_work.specs.Judged.{IsJudged}
use Rattle.stage_work.specs.Settings.{config_at}
use Rattle.stage_work.specs.Ties.{AreTied}
use Rattle.desk_kernels.specs.Chairs.{CoreChair, KnowsItsOwn, core_entries}
use Rattle.worker_desks.specs.declared.desks.Desks.{Desks}
pub use Rattle.worker_desks.specs.Of.{AreDesksOf, SchedChair}

-- a worker: its number, its chair at the scheduler's desk, and one at each core's
pub record WorkerValue : Type 0 where
  pub number : ℕ
  pub sched : SchedChair
  pub cores : List CoreChair

-- the chair has this number and holds nothing
abbrev pub IsFree : {A F : Type 0} → ℕ → Seated A F → Type 0
IsFree number c = (c.number ≡ number) × (c.holds ≡ false)

-- the scheduler's history as a desk has it, in the scheduler's own words
abbrev pub sched_entries : List (ℕ × SchedAct) → List SchedEntry
sched_entries seen = map (λ (e : ℕ × SchedAct). record { chair = e.0; act = e.1 }) seen

-- the worker's chairs are of these desks
pub record IsWorkerAt (desks : Desks) (w : WorkerValue) : Type 0 where
  pub sched : w.sched.desk ≡ desks.sched.id
  pub count : length w.cores ≡ length desks.cores.items
  pub cores : (pipeline : ℕ) (desk : Opened Config) (chair : CoreChair) → slice_get desks.cores.items pipeline ≡ Some desk
      → slice_get w.cores pipeline ≡ Some chair → chair.desk ≡ desk.id

-- what a worker has done on the core of a pipeline is what it reported of the pipeline's kernel steps
abbrev pub IsTiedAt : Session → WorkerValue → ℕ → CoreChair → Type 0
IsTiedAt session w pipeline chair =
    (config : Config) × (config_at session pipeline ≡ Some config)
    × AreTied session pipeline config w.number (sched_entries w.sched.seen) w.sched.own (core_entries chair.seen) chair.own

-- as far as the chair has seen, no session of this number is open on the core
abbrev pub IsClosed : (number : ℕ) → CoreChair → Type 0
IsClosed number chair = (rid : ℕ) → open_session (core_entries chair.seen) ≡ Some (number, rid) → ⊥

-- some jobs without this one
abbrev pub without : Option JobName → List JobName → List JobName
without None jobs = jobs
without (Some job) jobs = filter (λ (other : JobName). not (same_job other job)) jobs

-- the jobs that a chair has to report, after one act more: one that it takes comes last, and one that it reports leaves
abbrev pub owed_after : List JobName → SchedAct → List JobName
owed_after jobs (Took job) = jobs ++ job ∷ []
owed_after jobs act = without (reported act) jobs

-- those that a chair of these acts has taken and not reported since, in order
abbrev pub owed : List SchedAct → List JobName
owed acts = fold owed_after [] acts

-- The worker has taken these jobs and not reported them. Else: what a chair has seen has just the acts of its own that it put; no session
-- of the worker is open on a core; on each core it has done just what it reported; and each source that it reported was judged rightly
pub record StandsWith (session : Session) (jobs : List JobName) (w : WorkerValue) : Type 0 where
  pub sched_own : KnowsItsOwn w.sched
  pub core_own : Each KnowsItsOwn w.cores
  pub closed : Each (IsClosed w.number) w.cores
  pub tied : (pipeline : ℕ) (chair : CoreChair) → slice_get w.cores pipeline ≡ Some chair → IsTiedAt session w pipeline chair
  pub judged : Each (IsJudged session (sched_entries w.sched.seen)) w.sched.own
  pub owes : owed w.sched.own ≡ jobs

-- between two jobs it has reported each job that it took
abbrev pub IsAtRest : Session → WorkerValue → Type 0
IsAtRest session w = StandsWith session [] w

-- it is the same worker, and has seen, put and taken more at the scheduler's desk
pub record IsLater (old new : WorkerValue) : Type 0 where
  pub number : new.number ≡ old.number
  pub seen : IsPrefix old.sched.seen new.sched.seen
  pub own : IsPrefix old.sched.own new.sched.own
  pub takings : IsPrefix old.sched.takings new.sched.takings

abbrev pub is_halt : SchedAct → Bool
is_halt Halted = true
is_halt act = false

-- the halts that a chair put
abbrev pub halts : SchedChair → List SchedAct
halts chair = filter is_halt chair.own

-- it has put at most one halt more
abbrev pub HaltsOnce : SchedChair → SchedChair → Type 0
HaltsOnce old new = (halts new ≡ halts old) ⊎ (halts new ≡ halts old ++ Halted ∷ [])
