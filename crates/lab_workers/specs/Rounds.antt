-- What a worker comes to by one round, and by many.
use Rattle.std.specs.Prelude.{◌≡◌, List, [], Option, Some, None}
use Rattle.exp_model.specs.declared.session.Session.{Session}
use Rattle.sched_state.specs.declared.entry.JobName.{JobName}
use Rattle.worker_desks.specs.declared.desks.Desks.{Desks}
use Rattle.lab_workers.specs.declared.turns.Turn.TheVariants as turn
use Rattle.lab_workers.specs.declared.worker.WorkEnd.{WorkEnd}
use Rattle.lab_workers.specs.declared.worker.WorkEnd.TheVariants.{Finished, Stopped, Memory}
use Rattle.lab_workers.specs.Turns.{HasAsked}
use Rattle.lab_workers.specs.Workers.{IsAtRest, IsLater, IsWorkerAt, SchedChair, StandsWith, WorkerValue, halts}

-- it is the same worker at the same desks, and has seen, put and taken more at the scheduler's
pub record GoesOn (desks : Desks) (old new : WorkerValue) : Type 0 where
  pub at : IsWorkerAt desks new
  pub later : IsLater old new

-- where it stood with these jobs, it has come to this; and it has put no halt
pub record ComesTo (session : Session) (jobs : List JobName) (This : WorkerValue → Type 0) (old new : WorkerValue) : Type 0 where
  pub rest : StandsWith session jobs old → This new
  pub halts_are : halts new.sched ≡ halts old.sched

-- where it was between two jobs, it is again; and it has put no halt
abbrev pub KeepsRest : Session → WorkerValue → WorkerValue → Type 0
KeepsRest session old new = ComesTo session [] (IsAtRest session) old new

-- how a worker ends: it has asked the scheduler since, and was answered that
-- nothing is left to do, or that it is halted. Want of memory is no such end
abbrev pub IsEnd : Session → SchedChair → SchedChair → WorkEnd → Type 0
IsEnd session old new Finished = HasAsked session turn.Over old new
IsEnd session old new (Stopped by) = HasAsked session (turn.Stopped by) old new
IsEnd session old new Memory = ⊥

-- if it has ended, so
abbrev pub IsEndIf : Session → SchedChair → SchedChair → Option WorkEnd → Type 0
IsEndIf session old new None = Unit {0}
IsEndIf session old new (Some end) = IsEnd session old new end

-- one round
pub record HasRound (session : Session) (end : Option WorkEnd) (old new : WorkerValue) : Type 0 where
  pub keeps : KeepsRest session old new
  pub ends : IsEndIf session old.sched new.sched end

-- rounds until an end
pub record HasWorked (session : Session) (end : WorkEnd) (old new : WorkerValue) : Type 0 where
  pub keeps : KeepsRest session old new
  pub ends : IsEnd session old.sched new.sched end
