-- A worker whose fields are known, after a job that was done on its chairs at the cores' desks.
use Rattle.std.proofs.Common.{◌≡◌, List, [], ◌∷◌, sym, subst}
use Rattle.desk_rule.specs.Histories.{Each}
use Rattle.stage_work.specs.declared.tasks.Report.{Report}
use Rattle.stage_work.specs.declared.tasks.Task.{Task}
use Rattle.stage_work.specs.Doing.{HasDone, LeavesPlaces}
use Rattle.stage_work.specs.Tasks.{IsTaskIn, job_of}
use Rattle.stage_work.proofs.Done.{done-left}
use Rattle.desk_kernels.specs.Chairs.{CoreChair}
use Rattle.worker_desks.specs.declared.desks.Desks.{Desks}
use Rattle.lab_workers.specs.Leaving.{IsLeftWith}
use Rattle.lab_workers.specs.Reports.{HasTold}
use Rattle.lab_workers.specs.Rounds.{ComesTo, GoesOn}
use Rattle.lab_workers.specs.Stepping.{DeskCuts, DeskRuns}
use Rattle.lab_workers.specs.Turns.{Follows, PutsNothing}
use Rattle.lab_workers.specs.Workers.{AreDesksOf, IsAtRest, IsFree, IsWorkerAt, SchedChair, WorkerValue, sched_entries}
use Rattle.lab_workers.proofs.Doing.{keeps-task}
use Rattle.lab_workers.proofs.Leaving.{unreported, used-chairs}
use Rattle.lab_workers.proofs.Resting.{comes-from}
use Rattle.lab_workers.proofs.Rounds.{free-used, goes-done}

module _ (desks : Desks) (inside w : WorkerValue) (is : inside ≡ w) (at : IsWorkerAt desks w) (taken : Task)
    (task-is : IsTaskIn desks.session (sched_entries w.sched.seen) taken) (lent now whole : List CoreChair) (was : lent ≡ inside.cores) (same : whole ≡ now) where
  abbrev Leaves : List CoreChair → List CoreChair → Type 0
  Leaves old new = LeavesPlaces (DeskRuns desks inside.number) (DeskCuts desks inside.number) taken old new

  abbrev after : SchedChair → WorkerValue
  after e = record { number = inside.number; sched = e; cores = whole }

  task-inside : IsTaskIn desks.session (sched_entries inside.sched.seen) taken
  task-inside = let I : WorkerValue → Type 0 = λ v. IsTaskIn desks.session (sched_entries v.sched.seen) taken in subst I (sym is) task-is

  leaves-inside : Leaves lent now → Leaves inside.cores whole
  leaves-inside leaves =
      let O : List CoreChair → Type 0 = λ cs. Leaves cs now in
      let N : List CoreChair → Type 0 = λ cs. Leaves inside.cores cs in
      subst N (sym same) (subst O was leaves)

  pub free-left : Each (IsFree inside.number) inside.cores → Leaves lent now → Each (IsFree inside.number) whole
  free-left free leaves = free-used inside.number inside.cores whole free (used-chairs desks inside.number taken inside.cores whole (leaves-inside leaves))

  pub goes-left : (e : SchedChair) → Leaves lent now → Follows inside.sched e → GoesOn desks w (after e)
  goes-left e leaves follows = goes-done desks inside w is at e whole (used-chairs desks inside.number taken inside.cores whole (leaves-inside leaves)) follows

  pub comes-unreported : (e : SchedChair) → Leaves lent now → PutsNothing inside.sched e
      → ComesTo desks.session (job_of taken ∷ []) (IsLeftWith desks taken) w (after e)
  comes-unreported e leaves nothing =
      comes-from desks.session (job_of taken ∷ []) (IsLeftWith desks taken) inside w (after e) is
      (unreported desks inside taken whole (leaves-inside leaves) e task-inside nothing)

  pub comes-reported : AreDesksOf desks → (e : SchedChair) (told : Report) → HasDone (DeskRuns desks inside.number) desks.session taken told lent now
      → HasTold desks.session told inside.sched e → ComesTo desks.session (job_of taken ∷ []) (IsAtRest desks.session) w (after e)
  comes-reported these e told done t =
      let O : List CoreChair → Type 0 = λ cs. HasDone (DeskRuns desks inside.number) desks.session taken told cs now in
      let N : List CoreChair → Type 0 = λ cs. HasDone (DeskRuns desks inside.number) desks.session taken told inside.cores cs in
      comes-from desks.session (job_of taken ∷ []) (IsAtRest desks.session) inside w (after e) is
      (keeps-task desks inside e whole these taken told task-inside (subst N (sym same) (subst O was done)) t)

  -- what was done and isn't reported
  pub leaves-done : (told : Report) → HasDone (DeskRuns desks inside.number) desks.session taken told lent now → Leaves lent now
  leaves-done told done = done-left (DeskRuns desks inside.number) (DeskCuts desks inside.number) desks.session taken told lent now done
