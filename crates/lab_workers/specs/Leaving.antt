-- What want of memory leaves of a worker.
use Rattle.std.specs.Prelude.{◌⊎◌, ℕ, List, [], ◌∷◌}
use Rattle.sched_state.specs.declared.entry.SchedEntry.{SchedEntry}
use Rattle.stage_work.specs.declared.tasks.Task.{Task}
use Rattle.stage_work.specs.Doing.{LeavesPlaces}
use Rattle.stage_work.specs.Tasks.{LastsIn, job_of}
use Rattle.desk_kernels.specs.Chairs.{CoreChair}
use Rattle.worker_desks.specs.declared.desks.Desks.{Desks}
use Rattle.lab_workers.specs.Stepping.{DeskCuts, DeskRuns}
use Rattle.lab_workers.specs.Workers.{IsAtRest, StandsWith, WorkerValue, sched_entries}

-- A job that want of memory stopped has left the chairs at the cores' desks as they were, but that of a step's
-- pipeline: there may be a session more, which was started for just this step, as the scheduler gave it out
abbrev pub LeavesChairs : Desks → (number : ℕ) → List SchedEntry → Task → List CoreChair → List CoreChair → Type 0
LeavesChairs desks number sched taken old new =
    LastsIn desks.session sched taken × LeavesPlaces (DeskRuns desks number) (DeskCuts desks number) taken old new

-- the worker has taken this job last and not reported it, and all else is as it was before
pub record IsLeftWith (desks : Desks) (taken : Task) (w : WorkerValue) : Type 0 where
  pub before : List CoreChair
  pub stood : StandsWith desks.session (job_of taken ∷ []) (record w { cores = before })
  pub leaves : LeavesChairs desks w.number (sched_entries w.sched.seen) taken before w.cores

-- what want of memory leaves: all as between two jobs, or one job that was taken and isn't reported
abbrev pub IsLeft : Desks → WorkerValue → Type 0
IsLeft desks w = IsAtRest desks.session w ⊎ ((taken : Task) × IsLeftWith desks taken w)
