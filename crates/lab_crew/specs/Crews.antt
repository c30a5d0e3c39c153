-- The workers of a crew, as they are seated and as they end.
use Rattle.std.specs.Prelude.{◌≡◌, ℕ, zero, suc, ◌<◌, List, [], ◌∷◌, map, ◌⊎◌, Option, Some, IsSome, IsTrue}
use Rattle.std.specs.List.{AllZip}
use Rattle.desk_rule.specs.Histories.{Each}
use Rattle.desk.specs.Seated.{Opened, new_chair}
use Rattle.rtio_core.specs.declared.data.Config.{Config}
use Rattle.exp_model.specs.declared.session.Session.{Session}
use Rattle.sched_state.specs.Lawful.{halted_by, state_after}
use Rattle.sched_state.specs.Picks.{is_over}
use Rattle.worker_desks.specs.declared.desks.Desks.{Desks}
use Rattle.lab_desks.specs.Seats.{AreSetFor}
use Rattle.lab_workers.specs.declared.worker.WorkEnd.{WorkEnd}
use Rattle.lab_workers.specs.declared.worker.WorkEnd.TheVariants.{Finished, Memory, Stopped}
use Rattle.lab_workers.specs.Workers.{IsAtRest, IsFree, IsWorkerAt, WorkerValue, halts, sched_entries}
use Rattle.lab_crew.specs.declared.member.Member.{Member}

-- a worker that has the new chairs with its number
abbrev pub new_worker : Desks → ℕ → WorkerValue
new_worker desks number = record {
  number = number;
  sched = new_chair desks.sched.id number;
  cores = map (λ (desk : Opened Config). new_chair desk.id number) desks.cores.items;
}

-- those with the numbers below one, the last first
abbrev pub new_workers : Desks → ℕ → List WorkerValue
new_workers desks zero = []
new_workers desks (suc number) = new_worker desks number ∷ new_workers desks number

-- none of its chairs holds anything, and all have its number
abbrev pub IsFreeWorker : WorkerValue → Type 0
IsFreeWorker w = IsFree w.number w.sched × Each (IsFree w.number) w.cores

-- the worker has done all that there was to do: it is between
-- two jobs, has seen that every run ended, and has put no halt
pub record IsDone (session : Session) (w : WorkerValue) : Type 0 where
  pub rest : IsAtRest session w
  pub over : IsTrue (is_over (state_after session (sched_entries w.sched.seen)))
  pub going : halts w.sched ≡ []

-- a member may begin
pub record MayWork (desks : Desks) (member : Member) : Type 0 where
  pub at : IsWorkerAt desks member.worker
  pub rest : IsAtRest desks.session member.worker
  pub going : halts member.worker.sched ≡ []

-- A member has worked to its end: it has done all that there was to do; or it was stopped by the one
-- that halted the scheduler; or memory ran out for it, and the scheduler is halted
pub record HasWorked (desks : Desks) (old new : Member) : Type 0 where
  pub number : new.worker.number ≡ old.worker.number
  pub at : IsWorkerAt desks new.worker
  pub ended : IsSome new.end
  pub done : new.end ≡ Some Finished → IsDone desks.session new.worker
  pub stopped : (by : ℕ) → new.end ≡ Some (Stopped by) → halted_by (sched_entries new.worker.sched.seen) ≡ Some by
  pub memory : new.end ≡ Some Memory → IsSome (halted_by (sched_entries new.worker.sched.seen))

-- so many new workers, at the desks of the session, have worked to these ends
pub record HaveEnded (session : Session) (workers : ℕ) (ends : List (Option WorkEnd)) : Type 0 where
  pub desks : Desks
  pub session_is : desks.session ≡ session
  pub set : AreSetFor workers desks
  pub before : List Member
  pub after : List Member
  pub new : map (λ (member : Member). member.worker) before ≡ new_workers desks workers
  pub worked : AllZip (HasWorked desks) before after
  pub ends_are : ends ≡ map (λ (member : Member). member.end) after

-- one of the workers has the number
abbrev pub HasWorker : List WorkerValue → ℕ → Type 0
HasWorker [] number = ⊥
HasWorker (w ∷ ws) number = (w.number ≡ number) ⊎ HasWorker ws number

-- there is a worker of each number below one, and all have done all that there was to do
pub record IsCrewDone (workers : ℕ) (desks : Desks) (ws : List WorkerValue) : Type 0 where
  pub at : Each (IsWorkerAt desks) ws
  pub done : Each (IsDone desks.session) ws
  pub all : (number : ℕ) → number < workers → HasWorker ws number
