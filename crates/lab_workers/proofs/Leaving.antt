-- What want of memory leaves of a worker.
use Rattle.std.proofs.Common.{◌≡◌, ℕ, List, [], ◌∷◌, ◌++◌, refl, sym, ap, subst, ◌∙◌, append-nil, inl, inr}
use Rattle.std.specs.Prelude.{◌⊎◌, Option, Some, None, filter, slice_get, slice_set}
use Rattle.std.proofs.lemmas.List.Elements.{filter-append}
use mathlib.Core.List.{IsPrefix}
use Rattle.desk.specs.Seated.{Opened}
use Rattle.desk_rule.proofs.Prefixes.{prefix_same}
use Rattle.rtio_core.specs.declared.data.StartOf.{StartOf}
use Rattle.exp_model.specs.declared.session.Session.{Session}
use Rattle.sched_state.specs.declared.entry.SchedAct.{SchedAct}
use Rattle.sched_state.specs.declared.entry.SchedAct.TheVariants.{Halted}
use Rattle.sched_state.specs.declared.entry.SchedEntry.{SchedEntry}
use Rattle.sched_state.specs.Lawful.{halted_by}
use Rattle.lab_kits.specs.declared.kit.Kit.{Kit}
use Rattle.stage_work.proofs.Scheds.{job-lasts}
use Rattle.stage_work.specs.declared.tasks.StepTask.{StepTask}
use Rattle.stage_work.specs.declared.tasks.Task.{Task}
use Rattle.stage_work.specs.declared.tasks.Task.TheVariants as task
use Rattle.stage_work.specs.Doing.{LeavesPlaces, LeavesStart, MayHaveRun}
use Rattle.stage_work.specs.Tasks.{IsStepIn, IsTaskIn, LastsIn, job_of, step_job}
use Rattle.desk_kernels.specs.Chairs.{CoreChair, IsAt, IsSameChair}
use Rattle.worker_desks.specs.declared.desks.Desks.{Desks}
use Rattle.lab_workers.specs.Leaving.{IsLeft, IsLeftWith}
use Rattle.lab_workers.specs.Rounds.{ComesTo}
use Rattle.lab_workers.specs.Stepping.{DeskCuts, DeskRuns}
use Rattle.lab_workers.specs.Turns.{HasHalted, PutsNothing, halt_due}
use Rattle.lab_workers.specs.Workers.{HaltsOnce, SchedChair, WorkerValue, halts, is_halt, sched_entries}
use Rattle.lab_workers.proofs.Resting.{sees-more, stands-halted, stands-looked}

pub looks-same : (desk : Opened Session) (c : SchedChair) → IsAt desk c → PutsNothing c c
looks-same desk c at = record {
  follows = record { same = (refl, refl, at.1); seen = prefix_same c.seen; own = prefix_same c.own; takings = prefix_same c.takings };
  own = refl;
  knows = λ known. known;
}

-- ---- a job that has no session

-- it isn't reported, and nothing else was put
pub rests-left : (desks : Desks) (w : WorkerValue) (e : SchedChair) → PutsNothing w.sched e → ComesTo desks.session [] (IsLeft desks) w (record w { sched = e })
rests-left desks w e nothing = record {
  rest = λ r. inl (stands-looked desks.session w e nothing [] r);
  halts_are = ap (filter is_halt) nothing.own;
}

-- what goes with a job lasts
step-lasts : (session : Session) (step : StepTask) (seen now : List (ℕ × SchedAct)) → IsPrefix seen now → IsStepIn session (sched_entries seen) step
    → IsStepIn session (sched_entries now) step
step-lasts session step seen now p is =
    let S : List SchedEntry → Type 0 = λ h. IsStepIn session h step in
    subst S (sym (sees-more seen now p)) (job-lasts session (sched_entries seen) (sched_entries p.0) (step_job step) is)

task-lasts : (session : Session) (taken : Task) (seen now : List (ℕ × SchedAct)) → IsPrefix seen now → LastsIn session (sched_entries seen) taken
    → LastsIn session (sched_entries now) taken
task-lasts session (task.Prepare rid run) seen now p is = tt
task-lasts session (task.Step step) seen now p is = step-lasts session step seen now p is
task-lasts session (task.Analyze rid) seen now p is = tt

lasts : (session : Session) (sched : List SchedEntry) (taken : Task) → IsTaskIn session sched taken → LastsIn session sched taken
lasts session sched (task.Prepare rid run) is = tt
lasts session sched (task.Step step) is = is
lasts session sched (task.Analyze rid) is = tt

-- ---- a job

module _ (desks : Desks) (w : WorkerValue) (taken : Task) (cores : List CoreChair)
    (leaves : LeavesPlaces (DeskRuns desks w.number) (DeskCuts desks w.number) taken w.cores cores) where
  -- it isn't reported, and nothing else was put
  pub unreported : (e : SchedChair) → IsTaskIn desks.session (sched_entries w.sched.seen) taken → PutsNothing w.sched e
      → ComesTo desks.session (job_of taken ∷ []) (IsLeftWith desks taken) w (record { number = w.number; sched = e; cores = cores })
  unreported e is nothing = record {
    rest = λ r. record {
      before = w.cores;
      stood = stands-looked desks.session w e nothing (job_of taken ∷ []) r;
      leaves =
          (task-lasts desks.session taken w.sched.seen e.seen nothing.follows.seen (lasts desks.session (sched_entries w.sched.seen) taken is), leaves);
    };
    halts_are = ap (filter is_halt) nothing.own;
  }

-- the chairs are as they were, but one may have been used, which is the same chair
abbrev pub AreUsed : List CoreChair → List CoreChair → Type 0
AreUsed old new =
    (new ≡ old)
    ⊎ ((pipeline : ℕ) × (was : CoreChair) × (now : CoreChair) × (slice_get old pipeline ≡ Some was) × IsSameChair was now × (new ≡ slice_set old pipeline now))

module _ (desks : Desks) (number : ℕ) where
  used-start : (pipeline : ℕ) (kit : Kit) (start : Option StartOf) (old new : List CoreChair)
      → LeavesStart (DeskRuns desks number) (DeskCuts desks number) pipeline kit start old new → AreUsed old new
  used-start pipeline kit None old new same = inl same
  used-start pipeline kit (Some of) old new changes =
      inr (pipeline, changes.old, changes.new, changes.found, same-chair changes.old changes.new changes.so, changes.leaves)
    where
      same-chair : (was now : CoreChair) → MayHaveRun (DeskRuns desks number) (DeskCuts desks number) pipeline kit of was now → IsSameChair was now
      same-chair was now (inl cut) = cut.same
      same-chair was now (inr (result, ran)) = ran.same

  pub used-chairs : (taken : Task) (old new : List CoreChair) → LeavesPlaces (DeskRuns desks number) (DeskCuts desks number) taken old new → AreUsed old new
  used-chairs (task.Prepare rid run) old new same = inl same
  used-chairs (task.Step step) old new (start, for-step, leaves) = used-start step.pipeline step.kit start old new leaves
  used-chairs (task.Analyze rid) old new same = inl same

pub comes-left : (desks : Desks) (taken : Task) (old new : WorkerValue) → ComesTo desks.session (job_of taken ∷ []) (IsLeftWith desks taken) old new
    → ComesTo desks.session (job_of taken ∷ []) (IsLeft desks) old new
comes-left desks taken old new comes = record { rest = λ r. inr (taken, comes.rest r); halts_are = comes.halts_are }

-- ---- a halt

module _ (desks : Desks) (w : WorkerValue) (e : SchedChair) (halted : HasHalted desks.session w.sched e) (seen : IsPrefix w.sched.seen e.seen) where
  pub left-halted : IsLeft desks w → IsLeft desks (record w { sched = e })
  left-halted (inl r) = inl (stands-halted desks.session w e halted [] r)
  left-halted (inr (taken, left)) = inr (
    taken,
    record {
      before = left.before;
      stood = stands-halted desks.session (record w { cores = left.before }) e halted (job_of taken ∷ []) left.stood;
      leaves = (task-lasts desks.session taken w.sched.seen e.seen seen left.leaves.0, left.leaves.1);
    },
  )

-- a halt more, or none
once : (by : Option ℕ) (old c e : SchedChair) → halts c ≡ halts old → e.own ≡ c.own ++ halt_due by → HaltsOnce old e
once None old c e same own =
    inr (ap (filter is_halt) own ∙ (filter-append is_halt c.own (Halted ∷ []) ∙ ap (λ (acts : List SchedAct). acts ++ Halted ∷ []) same))
once (Some by) old c e same own = inl (ap (filter is_halt) (own ∙ append-nil c.own) ∙ same)

pub halts-once : (session : Session) (old c e : SchedChair) → halts c ≡ halts old → HasHalted session c e → HaltsOnce old e
halts-once session old c e same (found, put) = once (halted_by found) old c e same put.own
